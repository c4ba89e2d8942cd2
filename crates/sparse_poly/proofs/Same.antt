-- Two polynomials with the same coefficients are the same.
use Rattle.std.specs.Prelude.{◌≡◌, ◌≢◌, ℕ, if◌then◌else◌, ℤ, pos, ◌+ℤ◌, List, [], ◌∷◌, refl}
use Rattle.std.proofs.Common.{arith, sym, ◌∙◌, ap}
use Rattle.std.proofs.lemmas.Int.{ints}
use Rattle.std.specs.List.{AllByRecursion}
use Rattle.std.specs.Ordering.{is_eq, ordering_reverse}
use Rattle.std.specs.declared.cmp.Ordering.{Ordering}
use Rattle.std.specs.declared.cmp.Ordering.TheVariants.{Less, Equal, Greater}
use Rattle.monomial.specs.Monomials.{monomial_cmp}
use Rattle.monomial.proofs.Total.{monomial_cmp-IsAntisymmetric, monomial_cmp-IsTotalOrder}
use Rattle.sparse_poly.specs.declared.Term.{Term}
use Rattle.sparse_poly.specs.Polynomials.{is_of, coefficient, IsSum}
use Rattle.sparse_poly.specs.Contributions.{IsFalling, IsPoly}
use Rattle.sparse_poly.proofs.Evaluation.{zero_plus, is_of-own}
use Rattle.sparse_poly.specs.OrderLaws.{same_term}
use Rattle.sparse_poly.proofs.Descending.{all_map}

-- no coefficient at a monomial above all terms
pub coefficient_above : (m : List (ℕ × ℕ)) (ts : List Term) → AllByRecursion (λ (t : Term). monomial_cmp t.monomial m ≡ Less) ts → coefficient ts m ≡ pos 0
coefficient_above m [] h = refl
coefficient_above m (t ∷ ts) h =
    ap (λ b. (if b then t.coeff else pos 0) +ℤ coefficient ts m) (ap is_eq (monomial_cmp-IsTotalOrder.antisymm m t.monomial ∙ ap ordering_reverse h.0)) ∙ zero_plus _ ∙ coefficient_above m ts h.1

pub all_through : (m n : List (ℕ × ℕ)) (ts : List Term) → monomial_cmp m n ≡ Less → AllByRecursion (λ (t : Term). monomial_cmp t.monomial m ≡ Less) ts → AllByRecursion (λ (t : Term). monomial_cmp t.monomial n ≡ Less) ts
all_through m n ts l h = all_map (λ (t : Term). monomial_cmp t.monomial m ≡ Less) (λ (t : Term). monomial_cmp t.monomial n ≡ Less) ts (λ t k. monomial_cmp-IsTotalOrder.trans t.monomial m n k l) h

-- the coefficient of the leading monomial
pub coefficient_leading : (t : Term) (ts : List Term) → AllByRecursion (λ (u : Term). monomial_cmp u.monomial t.monomial ≡ Less) ts → coefficient (t ∷ ts) t.monomial ≡ t.coeff
coefficient_leading t ts h =
    ap (λ b. (if b then t.coeff else pos 0) +ℤ coefficient ts t.monomial) (is_of-own t) ∙ ap (λ z. t.coeff +ℤ z) (coefficient_above t.monomial ts h) ∙ zero_right t.coeff
  where
    zero_right : (z : ℤ) → z +ℤ pos 0 ≡ z
    zero_right z = omega (arith, ints)

-- a leading monomial below another has no coefficient there
none_below : (t u : Term) (ts us : List Term) → monomial_cmp t.monomial u.monomial ≡ Less → IsFalling (t ∷ ts) → IsFalling (u ∷ us) → u.coeff ≢ pos 0 → IsSum (t ∷ ts) (u ∷ us) → ⊥
none_below t u ts us l f g n e =
    n (sym (coefficient_leading u us g.0) ∙ sym (e u.monomial) ∙ coefficient_above u.monomial (t ∷ ts) (l, all_through t.monomial u.monomial ts l f.0))

cancel : (a b c : ℤ) → a +ℤ b ≡ a +ℤ c → b ≡ c
cancel a b c e = omega (arith, ints)

pub same_falling : (p q : List Term) → IsFalling p → AllByRecursion (λ (t : Term). t.coeff ≢ pos 0) p → IsFalling q → AllByRecursion (λ (t : Term). t.coeff ≢ pos 0) q → IsSum p q → p ≡ q
same_falling [] [] f a g b e = refl
same_falling [] (u ∷ us) f a g b e = absurd (b.0 (sym (coefficient_leading u us g.0) ∙ sym (e u.monomial)))
same_falling (t ∷ ts) [] f a g b e = absurd (a.0 (sym (coefficient_leading t ts f.0) ∙ e t.monomial))
same_falling (t ∷ ts) (u ∷ us) f a g b e = each (monomial_cmp t.monomial u.monomial) refl (λ k. same_falling ts us f.1 a.1 g.1 b.1 k)
  where
    back : IsSum (u ∷ us) (t ∷ ts)
    back m = sym (e m)

    each : (o : Ordering) → monomial_cmp t.monomial u.monomial ≡ o → (IsSum ts us → ts ≡ us) → t ∷ ts ≡ u ∷ us
    each Less o rest = absurd (none_below t u ts us o f g b.0 e)
    each Greater o rest = absurd (none_below u t us ts (monomial_cmp-IsTotalOrder.antisymm u.monomial t.monomial ∙ ap ordering_reverse o) g f a.0 back)
    each Equal o rest =
        let one : t.monomial ≡ u.monomial = monomial_cmp-IsAntisymmetric t.monomial u.monomial o in
        let coeff : t.coeff ≡ u.coeff = sym (coefficient_leading t ts f.0) ∙ e t.monomial ∙ ap (coefficient (u ∷ us)) one ∙ coefficient_leading u us g.0 in
        let same : t ≡ u = same_term t u one coeff in
        ap (λ x. x ∷ ts) same ∙ ap (λ xs. u ∷ xs) (rest (λ m. cancel (if is_of m u then u.coeff else pos 0) (coefficient ts m) (coefficient us m) (ap (λ (x : Term). (if is_of m x then x.coeff else pos 0) +ℤ coefficient ts m) (sym same) ∙ e m)))

-- two polynomials with the same coefficients are the same
pub same_polynomial : (p q : List Term) → IsPoly p → IsPoly q → ((m : List (ℕ × ℕ)) → coefficient p m ≡ coefficient q m) → p ≡ q
same_polynomial p q h i e = same_falling p q h.falling h.apart i.falling i.apart e
