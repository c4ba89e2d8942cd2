use Rattle.std.proofs.Common.{arith}
use Rattle.sparse_poly.specs.Reads.{degree_in}
use Rattle.sparse_poly.proofs.Powers.{IsPoly-coefficient_of_power}
use Rattle.pseudo_rem.proofs.Factors.{factor_apart}
use Rattle.pseudo_rem.proofs.Raised.{degree_in-small}
use Rattle.pseudo_rem.proofs.steps.tail_step.Goals as goal

pub times_power-requires-clause-apart : goal.times_power-requires-clause-apart
times_power-requires-clause-apart c =
    let poly = c.terms-terms.ensures.poly in
    factor_apart c.args.units.now c.args.var c.args.q.now c.args.factor.now c.args.rest.now poly (IsPoly-coefficient_of_power c.args.var (degree_in c.args.var c.args.q.now) c.args.q.now poly) c.requires

pub times_power-requires-clause-small : goal.times_power-requires-clause-small
times_power-requires-clause-small c =
    let small = degree_in-small c.args.var c.args.q.now c.terms-terms.ensures.poly.monomials in
    omega (arith, small, c.degree_in.ensures)
