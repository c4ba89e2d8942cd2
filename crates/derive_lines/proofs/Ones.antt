-- Sides with the constant 1 as their multiplier.
use Rattle.std.specs.Prelude.{◌≡◌, pos, negsuc, List, [], IfOk, MatchOption, refl}
use Rattle.std.proofs.Common.{sym, ◌∙◌, subst}
use Rattle.std.proofs.lemmas.List.{append-nil}
use Rattle.std.specs.declared.option.Option.{Option}
use Rattle.std.specs.declared.result.Result.{Result}
use Rattle.std.specs.declared.result.Result.TheVariants.{Ok, Err}
use Rattle.sparse_poly.specs.declared.Term.{Term}
use Rattle.sparse_poly.specs.Polynomials.{products, constant}
use Rattle.sparse_poly.specs.Contributions.{contributions, IsPoly, IsResult}
use Rattle.sparse_poly.proofs.InOrder.{IsResult-own}
use Rattle.sparse_poly.proofs.Rows.{sum_contributions}
use Rattle.derive_lines.specs.declared.parts.LineCause.{LineCause}
use Rattle.derive_lines.specs.Lines.{SidesAgree, IsBadSide}

-- 1*q - 0*p adds up to q
IsResult-one : (q p : List Term) → IsPoly q → IsResult (contributions (constant (pos 1)) q [] p) q
IsResult-one q p h = subst (λ cs. IsResult cs q) (sym (sum_contributions (record { monomial = []; coeff = pos 1 }) (record { monomial = []; coeff = negsuc 0 }) q [] refl refl ∙ append-nil q)) (IsResult-own q h)

-- 1*r is r
products-one : (r : List Term) → products (constant (pos 1)) r ≡ r
products-one r = sym (append-nil (products (constant (pos 1)) r)) ∙ sum_contributions (record { monomial = []; coeff = pos 1 }) (record { monomial = []; coeff = negsuc 0 }) r [] refl refl ∙ append-nil r

pub IsResult-product : (r : List Term) → IsPoly r → IsResult (products (constant (pos 1)) r) r
IsResult-product r h = subst (λ cs. IsResult cs r) (sym (products-one r)) (IsResult-own r h)

-- what holds of each list that adds up to q holds of 1*q - 0*p
pub with_one : {E : Type 0} (result : Result (Option LineCause) E) (q ds : List Term) → IsPoly q → IfOk result (λ o. (cs : List Term) → IsResult cs q → MatchOption o (SidesAgree cs ds) (IsBadSide cs ds)) → IfOk result (λ o. (p : List Term) → MatchOption o (SidesAgree (contributions (constant (pos 1)) q [] p) ds) (IsBadSide (contributions (constant (pos 1)) q [] p) ds))
with_one (Err e) q ds h i = i
with_one (Ok o) q ds h i = λ p. i (contributions (constant (pos 1)) q [] p) (IsResult-one q p h)

-- a line with l = 1 and without a
pub by_one : {E : Type 0} (result : Result (Option LineCause) E) (l q a p ds : List Term) → l ≡ constant (pos 1) → a ≡ [] → IfOk result (λ o. (p : List Term) → MatchOption o (SidesAgree (contributions (constant (pos 1)) q [] p) ds) (IsBadSide (contributions (constant (pos 1)) q [] p) ds)) → IfOk result (λ o. MatchOption o (SidesAgree (contributions l q a p) ds) (IsBadSide (contributions l q a p) ds))
by_one (Err e) l q a p ds one none h = h
by_one (Ok o) l q a p ds one none h =
    subst (λ x. MatchOption o (SidesAgree (contributions x q a p) ds) (IsBadSide (contributions x q a p) ds)) (sym one)
    (subst (λ x. MatchOption o (SidesAgree (contributions (constant (pos 1)) q x p) ds) (IsBadSide (contributions (constant (pos 1)) q x p) ds)) (sym none) (h p))
