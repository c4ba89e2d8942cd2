use Rattle.std.proofs.Common.{rules, ◌≡◌, ◌∷◌, sym, subst, ap, ◌∙◌, to_z, of_z}
use Rattle.monomial.specs.Monomials.{monomial_cmp}
use Rattle.std.specs.Int.{w128}
use Rattle.std.specs.BinaryHeap.{heap_items}
use Rattle.sparse_poly.specs.Owing.{term, owed_terms, AllUnder, IsTop, IsNextTerm}
use Rattle.sparse_poly.proofs.Owings.{next_own, next_owed, above_all}
use Rattle.sparse_poly.proofs.dividing.next_term.Goals as goal

pub returns-in-Some-row_above : goal.returns-in-Some-row_above
returns-in-Some-row_above c =
    let front : c.args.left.now ≡ c.in-Some.first.now ∷ c.in-Some.below.now = search rules in
    let under : AllUnder c.in-Some-row_above.row.now.first.monomial c.args.left.now = above_all c.args.left.now c.in-Some.first.now c.in-Some.below.now c.in-Some-row_above.row.now.first.monomial c.requires.left front (ap (λ m. monomial_cmp m c.in-Some-row_above.row.now.first.monomial) (sym c.in_ok-monomial.ensures) ∙ c.in-Some-row_above.ensures.0) in
    subst (λ ts. IsNextTerm c.args.left.now (heap_items c.args.owed.now) (term c.in_ok-owed_term.field-0.monomial c.in_ok-owed_term.field-0.coeff) ts) (sym c.in_ok-owed_term.ensures.below)
    (next_owed c.args.left.now (heap_items c.args.owed.now) c.in_ok-owed_term.field-0.monomial c.in_ok-owed_term.field-0.coeff c.requires.left c.in_ok-owed_term.ensures.coeff (subst (λ m. AllUnder m c.args.left.now) (sym c.in_ok-owed_term.ensures.monomial) under) (subst (λ m. IsTop m (owed_terms (heap_items c.args.owed.now))) (sym c.in_ok-owed_term.ensures.monomial) c.in-Some-row_above.ensures.1))

pub returns : goal.returns
returns c =
    let front : c.args.left.now ≡ c.in-Some.first.now ∷ c.in-Some.below.now = search rules in
    let own : to_z w128 (of_z w128 c.in-Some.first.now.coeff) ≡ c.in-Some.first.now.coeff = search rules in
    next_own c.args.left.now (heap_items c.args.owed.now) c.in-Some.first.now c.in-Some.below.now c.in_ok-monomial.monomial _ c.requires.left front c.in_ok-monomial.ensures own c.in_default-row_above.ensures
