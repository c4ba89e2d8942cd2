use Rattle.sparse_poly.specs.Clearing.{passed, divided}
use Rattle.sparse_poly.proofs.OneQuotient.{once_none, once_some, division_lowers}
use Rattle.sparse_poly.proofs.clearing.divided_out_by.Goals as goal

pub returns-in_default : goal.returns-in_default
returns-in_default c = λ ns e h r. c.divisions.invariant ns e h (passed (once_none c.args.units.now c.args.n.now c.divisions.factor c.divisions.rest c.in_ok-next.field-0 c.in_default.is c.in_ok-next.ensures) r)

pub divisions-smaller : goal.divisions-smaller
divisions-smaller c =
    division_lowers c.args.units.now c.args.n.now c.divisions.factor c.divisions.rest c.in-Some.next.factor c.in-Some.next.rest (once_some c.args.units.now c.args.n.now c.divisions.factor c.divisions.rest c.in_ok-next.field-0 c.in-Some.next c.in-Some.is c.in_ok-next.ensures)

pub divisions-preserved : goal.divisions-preserved
divisions-preserved c = λ ns e h r. c.divisions.invariant ns e h (divided (once_some c.args.units.now c.args.n.now c.divisions.factor c.divisions.rest c.in_ok-next.field-0 c.in-Some.next c.in-Some.is c.in_ok-next.ensures) r)
