use Rattle.std.proofs.Common.{arith, ◌≤◌, length}
use Rattle.sparse_poly.proofs.OneQuotient.{IsDividedOut-past, passed_at}
use Rattle.sparse_poly.proofs.Stripped.cleared.Goals as goal

pub returns : goal.returns
returns c =
    let past : length c.args.units.now ≤ c.loop-unit.unit-index = omega arith in
    c.loop-unit.invariant c.loop-unit.cleared.factor c.loop-unit.cleared.rest (IsDividedOut-past c.args.units.now c.loop-unit.unit-index c.loop-unit.cleared.factor c.loop-unit.cleared.rest past)

pub loop-unit-preserved-then-not-may_divide : goal.loop-unit-preserved-then-not-may_divide
loop-unit-preserved-then-not-may_divide c = λ e h r.
    c.loop-unit.invariant e h (passed_at c.args.units.now c.loop-unit.unit-index c.unit-item.result c.loop-unit.cleared.factor c.loop-unit.cleared.rest c.loop-unit-test.true c.unit-item.is (c.may_divide.ensures.none c.if-not-may_divide.true c.args.units.now c.loop-unit.cleared.factor) e h r)
