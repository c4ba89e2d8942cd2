use Rattle.std.proofs.Common.{arith}
use Rattle.pseudo_rem.proofs.Cancelling.{degree_in-coefficient}
use Rattle.pseudo_rem.proofs.Raised.{degree_in-small}
use Rattle.pseudo_rem.proofs.steps.reduce_once.Goals as goal

pub times_power-requires-clause-apart : goal.times_power-requires-clause-apart
times_power-requires-clause-apart c = rw c.in_ok-leading.ensures (degree_in-coefficient c.args.var _ c.args.q.now)

pub times_power-requires-clause-small : goal.times_power-requires-clause-small
times_power-requires-clause-small c =
    let small = degree_in-small c.args.var c.args.q.now c.terms-terms.ensures.poly.monomials in
    omega (arith, c.degree_in-upper.ensures)
