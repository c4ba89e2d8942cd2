-- The values of every type have a code, made of numbers and pairs, so two of them are equal or not.
use Rattle.std.specs.Prelude.{◌≡◌, ◌≢◌, ◌⊎◌, refl}
use Rattle.std.proofs.Common.{◌∙◌, ap, inl, inr}
use Rattle.std.proofs.lemmas.Bool.Decides.{eqb_tells}
use base.Stored.{Gv, gnil, gnum, gcons, Coded, num}

-- two codes are the same or not
same_code : (a b : Gv) → (a ≡ b) ⊎ (a ≢ b)
same_code gnil gnil = inl refl
same_code gnil (gnum n) = inr (λ e. cc)
same_code gnil (gcons a b) = inr (λ e. cc)
same_code (gnum m) gnil = inr (λ e. cc)
same_code (gnum m) (gnum n) = elim (eqb_tells m n) [ inl t ↦ inl (ap gnum t.1) | inr f ↦ inr (λ e. f.1 (ap num e)) ]
same_code (gnum m) (gcons a b) = inr (λ e. cc)
same_code (gcons a b) gnil = inr (λ e. cc)
same_code (gcons a b) (gnum n) = inr (λ e. cc)
same_code (gcons a b) (gcons c d) = both (same_code a c) (same_code b d)
  where
    both : (a ≡ c) ⊎ (a ≢ c) → (b ≡ d) ⊎ (b ≢ d) → (gcons a b ≡ gcons c d) ⊎ (gcons a b ≢ gcons c d)
    both (inl e) (inl f) = inl (ap (λ x. gcons x b) e ∙ ap (λ x. gcons c x) f)
    both (inl e) (inr n) = inr (λ g. let f : b ≡ d = cc in n f)
    both (inr n) _ = inr (λ g. let f : a ≡ c = cc in n f)

-- two values of a type with a code are the same or not
pub same_value : {A : Type 0} → Coded A → (a b : A) → (a ≡ b) ⊎ (a ≢ b)
same_value c a b = elim (same_code (c.code a) (c.code b)) [ inl e ↦ inl (c.inj a b e) | inr n ↦ inr (λ e. n (ap c.code e)) ]
