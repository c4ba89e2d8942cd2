-- Lists of shares whose monomials fall.
use Rattle.std.specs.Prelude.{◌≡◌, ℕ, List, [], ◌∷◌, ◌++◌, slice_index_or}
use Rattle.std.proofs.Common.{sym, ◌∙◌, ap}
use Rattle.std.specs.List.{AllByRecursion}
use Rattle.std.specs.declared.cmp.Ordering.TheVariants.{Less}
use Rattle.monomial.specs.Monomials.{monomial_cmp}
use Rattle.monomial.proofs.Total.{monomial_cmp-IsTotalOrder}
use Rattle.sparse_poly.specs.declared.entry.Share.{Share}
use Rattle.sparse_poly.specs.Standing.{AllBelow, AllAbove, IsDescending}

pub all_front : {X : Type 0} → (P : X → Type 0) (xs ys : List X) → AllByRecursion P (xs ++ ys) → AllByRecursion P xs
all_front P [] ys h = tt
all_front P (x ∷ xs) ys h = (h.0, all_front P xs ys h.1)

pub all_back : {X : Type 0} → (P : X → Type 0) (xs ys : List X) → AllByRecursion P (xs ++ ys) → AllByRecursion P ys
all_back P [] ys h = h
all_back P (x ∷ xs) ys h = all_back P xs ys h.1

pub all_last : {X : Type 0} → (P : X → Type 0) (xs : List X) (t : X) → AllByRecursion P (xs ++ t ∷ []) → P t
all_last P [] t h = h.0
all_last P (x ∷ xs) t h = all_last P xs t h.1

pub all_more : {X : Type 0} → (P : X → Type 0) (xs : List X) (t : X) → AllByRecursion P xs → P t → AllByRecursion P (xs ++ t ∷ [])
all_more P [] t h p = (p, tt)
all_more P (x ∷ xs) t h p = (h.0, all_more P xs t h.1 p)

pub all_map : {X : Type 0} → (P Q : X → Type 0) (xs : List X) → ((x : X) → P x → Q x) → AllByRecursion P xs → AllByRecursion Q xs
all_map P Q [] f h = tt
all_map P Q (x ∷ xs) f h = (f x h.0, all_map P Q xs f h.1)

pub descending_more : (xs : List Share) (t : Share) → IsDescending xs → AllAbove t.monomial xs → IsDescending (xs ++ t ∷ [])
descending_more [] t h b = (tt, tt)
descending_more (x ∷ xs) t h b = (all_more (λ (y : Share). monomial_cmp y.monomial x.monomial ≡ Less) xs t h.0 b.0, descending_more xs t h.1 b.1)

-- all that is below a monomial is below a greater one
pub below_more : (m k : List (ℕ × ℕ)) (xs : List Share) → monomial_cmp m k ≡ Less → AllBelow m xs → AllBelow k xs
below_more m k xs l b = all_map (λ (x : Share). monomial_cmp x.monomial m ≡ Less) (λ (x : Share). monomial_cmp x.monomial k ≡ Less) xs (λ x h. monomial_cmp-IsTotalOrder.trans x.monomial m k h l) b

-- all of a falling list is below what its first share is below
pub below_through : (xs : List Share) (first : Share) (k : List (ℕ × ℕ)) → first ≡ slice_index_or xs 0 first → monomial_cmp first.monomial k ≡ Less → IsDescending xs → AllBelow k xs
below_through [] first k e l d = tt
below_through (x ∷ xs) first k e l d =
    let own : monomial_cmp x.monomial k ≡ Less = ap (λ (u : Share). monomial_cmp u.monomial k) (sym e) ∙ l in
    (own, below_more x.monomial k xs own d.0)

pub all_both : {X : Type 0} → (P : X → Type 0) (xs ys : List X) → AllByRecursion P xs → AllByRecursion P ys → AllByRecursion P (xs ++ ys)
all_both P [] ys h i = i
all_both P (x ∷ xs) ys h i = (h.0, all_both P xs ys h.1 i)
