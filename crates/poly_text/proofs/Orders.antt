-- Factors in any order.
use Rattle.std.specs.Prelude.{◌≡◌, ℕ, Bool, true, false, nat_lt, if◌then◌else◌, Some, ◌+◌, ◌≤◌, None, List, [], ◌∷◌, length, refl}
use Rattle.std.proofs.Common.{sym, ◌∙◌, ap, arith}
use Rattle.std.proofs.lemmas.Bool.Decides.{nat_tests}
use Rattle.std.specs.Ordering.{nat_cmp}
use Rattle.std.specs.declared.cmp.Ordering.TheVariants.{Greater}
use Rattle.std.specs.FinMap.Entries.{by_order}
use Rattle.monomial.specs.Monomials.{monomial_times}
use Rattle.poly_text.specs.Order.{first_factor, product, AreAtMost}

pub no_factor : (n : ℕ) (ps : List (ℕ × ℕ)) → length ps ≤ 1 → first_factor n ps ≡ None
no_factor n [] h = refl
no_factor n (p ∷ []) h = refl
no_factor n (p ∷ q ∷ ps) h = absurd (omega arith)

nat_cmp-greater : (m n : ℕ) → nat_lt n m ≡ true → nat_cmp m n ≡ Greater
nat_cmp-greater m n h = grind (arith, nat_tests)

-- factors in order are their product
pub product_ordered : (n : ℕ) (ps : List (ℕ × ℕ)) → first_factor n ps ≡ None → product ps ≡ ps
product_ordered n [] h = refl
product_ordered n (p ∷ []) h = refl
product_ordered n (p ∷ q ∷ ps) h = by (nat_lt q.0 p.0) refl (λ k. product_ordered (n + 1) (q ∷ ps) k)
  where
    by : (b : Bool) → nat_lt q.0 p.0 ≡ b → (first_factor (n + 1) (q ∷ ps) ≡ None → product (q ∷ ps) ≡ q ∷ ps) → product (p ∷ q ∷ ps) ≡ p ∷ q ∷ ps
    by true e ih =
        let k : first_factor (n + 1) (q ∷ ps) ≡ None = sym (ap (λ b. if b then first_factor (n + 1) (q ∷ ps) else Some (n + 1)) e) ∙ h in
        ap (λ m. monomial_times (p ∷ []) m) (ih k) ∙ ap (λ o. by_order o (q ∷ monomial_times (p ∷ []) ps) ((p.0, p.1 + q.1) ∷ ps) (p ∷ q ∷ ps)) (nat_cmp-greater p.0 q.0 e)
    by false e ih =
        let k : Some (n + 1) ≡ None = sym (ap (λ b. if b then first_factor (n + 1) (q ∷ ps) else Some (n + 1)) e) ∙ h in absurd (cc)

-- ---- exponents of a product

pub at_most_more : (n m : ℕ) (ps : List (ℕ × ℕ)) → n ≤ m → AreAtMost n ps → AreAtMost m ps
at_most_more n m [] l h = tt
at_most_more n m (p ∷ ps) l h = let a = h.0 in (omega arith, at_most_more n m ps l h.1)
