use Rattle.sparse_poly.specs.Clearing.{passed, divided}
use Rattle.sparse_poly.proofs.OneQuotient.{once_none, once_some, division_lowers}
use Rattle.refute_cert.proofs.Divisors.{divides_passed, divides_put}
use Rattle.refute_cert.proofs.resting.add_divisor.Goals as goal

pub divisions-preserved : goal.divisions-preserved
divisions-preserved c =
    let once = once_some c.args.units.now c.args.unit.now c.divisions.cleared.factor c.divisions.cleared.rest c.in_ok-next.field-0 c.in-Some.next c.in-Some.is c.in_ok-next.ensures in
    record {
      cleared = λ ns e h r. c.divisions.invariant.cleared ns e h (divided once r);
      known = λ ns n. divides_put c.args.units.now c.divisions.known c.insert.new.self c.args.unit.now n ns c.divisions.cleared.factor c.divisions.cleared.rest c.in-Some.next.factor c.in-Some.next.rest _ once (c.in_ok-insert.ensures n) (c.divisions.invariant.known ns n);
    }

pub returns-in_default-clause-cleared : goal.returns-in_default-clause-cleared
returns-in_default-clause-cleared c = λ ns e h r. c.divisions.invariant.cleared ns e h (passed (once_none c.args.units.now c.args.unit.now c.divisions.cleared.factor c.divisions.cleared.rest c.in_ok-next.field-0 c.in_default.is c.in_ok-next.ensures) r)

pub returns-in_default-clause-known : goal.returns-in_default-clause-known
returns-in_default-clause-known c = λ ns n. divides_passed c.args.units.now c.divisions.known c.args.unit.now n ns c.divisions.cleared.factor c.divisions.cleared.rest _ (once_none c.args.units.now c.args.unit.now c.divisions.cleared.factor c.divisions.cleared.rest c.in_ok-next.field-0 c.in_default.is c.in_ok-next.ensures) (c.divisions.invariant.known ns n)

pub divisions-smaller : goal.divisions-smaller
divisions-smaller c = division_lowers c.args.units.now c.args.unit.now c.divisions.cleared.factor c.divisions.cleared.rest c.in-Some.next.factor c.in-Some.next.rest (once_some c.args.units.now c.args.unit.now c.divisions.cleared.factor c.divisions.cleared.rest c.in_ok-next.field-0 c.in-Some.next c.in-Some.is c.in_ok-next.ensures)
