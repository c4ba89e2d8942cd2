use Rattle.std.proofs.Common.{rules, subst, sym}
use Rattle.sparse_poly.specs.Contributions.{IsPoly, IsResult}
use Rattle.sparse_poly.proofs.InOrder.{IsResult-own}
use Rattle.sparse_poly.proofs.Poly.from_terms.Goals as goal

pub returns-then-is_polynomial-clause-answer : goal.returns-then-is_polynomial-clause-answer
returns-then-is_polynomial-clause-answer c =
    let poly : IsPoly c.laid-terms.result.items = search rules in
    let own : IsResult c.args.terms.items c.laid-terms.result.items = subst (λ ts. IsResult ts c.laid-terms.result.items) c.laid-terms.ensures (IsResult-own c.laid-terms.result.items poly) in
    subst (IsResult c.args.terms.items) (sym c.in_ok-of.ensures) own
