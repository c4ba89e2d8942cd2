-- What a test of two numbers tells.
use Rattle.std.specs.Prelude.{◌≡◌, ◌≢◌, ◌==◌, ℕ, true, false}
use Rattle.std.proofs.Common.{sym, ◌∙◌, inl, inr}
use Rattle.std.proofs.lemmas.Bool.Decides.{eqb_tells}

pub not_same : (m n : ℕ) → m ≢ n → (m == n) ≡ false
not_same m n ne = elim (eqb_tells m n) [ inl t ↦ absurd (ne t.1) | inr f ↦ f.0 ]

pub true-false : {A : Type 0} → true ≡ false → A
true-false e = cc

pub are_apart : (m n : ℕ) → (m == n) ≡ false → n ≢ m
are_apart m n f = elim (eqb_tells m n) [ inl t ↦ true-false (sym t.0 ∙ f) | inr g ↦ λ e. g.1 (sym e) ]

pub numbers_are : (m n : ℕ) → (m == n) ≡ true → m ≡ n
numbers_are m n t = elim (eqb_tells m n) [ inl a ↦ a.1 | inr b ↦ true-false (sym t ∙ b.0) ]

pub same_test : (m n : ℕ) → n ≡ m → (m == n) ≡ true
same_test m n e = elim (eqb_tells m n) [ inl t ↦ t.0 | inr g ↦ absurd (g.1 (sym e)) ]
