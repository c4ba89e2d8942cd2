-- The members of a list of which R holds are put into a set, one after the other.
use Rattle.std.specs.Prelude.{◌≡◌, ◌<◌, ◌≤◌, ℕ, ◌+◌, ◌⊎◌, List, ◌∷◌, drop, length, slice_index_or}
use mathlib.Core.Logic.{inl, inr}
use Rattle.std.proofs.Common.{sym, ◌∙◌, ap, subst}
use Rattle.std.proofs.lemmas.List.{drop_more, drop_all}
use Rattle.sparse_poly.specs.declared.Term.{Term}
use Rattle.derive_lines.specs.Known.{Holds}

pub drop_here : {X : Type 0} (xs : List X) (i : ℕ) (x : X) → i < length xs → x ≡ slice_index_or xs i x → drop i xs ≡ x ∷ drop (i + 1) xs
drop_here xs i x l e = drop_more xs i x l ∙ ap (λ y. y ∷ drop (i + 1) xs) (sym e)

module _ (R : List Term → Type 0) (units : List (List Term)) where
  -- what is in the set or is left says the same as T
  abbrev pub Says : ℕ → List (List Term) → (List Term → Type 0) → Type 0
  Says i all T = (n : List Term) → (Holds all n ⊎ (Holds (drop i units) n × R n) → T n) × (T n → Holds all n ⊎ (Holds (drop i units) n × R n))

  pub put : (i : ℕ) (x : List Term) (all new : List (List Term)) (T : List Term → Type 0) → i < length units → x ≡ slice_index_or units i x → R x → ((n : List Term) → (Holds new n → Holds all n ⊎ (x ≡ n)) × (Holds all n ⊎ (x ≡ n) → Holds new n)) → Says i all T → Says (i + 1) new T
  put i x all new T l e r ins h n = (λ a. (h n).0 (forth a), λ t. back ((h n).1 t))
    where
      own : Holds all n ⊎ (x ≡ n) → Holds all n ⊎ (Holds (drop i units) n × R n)
      own (inl a) = inl a
      own (inr f) = inr (subst (λ ys. Holds ys n) (sym (drop_here units i x l e)) (inl f), subst R f r)

      forth : Holds new n ⊎ (Holds (drop (i + 1) units) n × R n) → Holds all n ⊎ (Holds (drop i units) n × R n)
      forth (inl a) = own ((ins n).0 a)
      forth (inr a) = inr (subst (λ ys. Holds ys n) (sym (drop_here units i x l e)) (inr a.0), a.1)

      split : (x ≡ n) ⊎ Holds (drop (i + 1) units) n → R n → Holds new n ⊎ (Holds (drop (i + 1) units) n × R n)
      split (inl f) s = inl ((ins n).1 (inr f))
      split (inr a) s = inr (a, s)

      back : Holds all n ⊎ (Holds (drop i units) n × R n) → Holds new n ⊎ (Holds (drop (i + 1) units) n × R n)
      back (inl a) = inl ((ins n).1 (inl a))
      back (inr a) = split (subst (λ ys. Holds ys n) (drop_here units i x l e) a.0) a.1

  pub passed_over : (i : ℕ) (x : List Term) (all : List (List Term)) (T : List Term → Type 0) → i < length units → x ≡ slice_index_or units i x → (R x → ⊥) → Says i all T → Says (i + 1) all T
  passed_over i x all T l e r h n = (λ a. (h n).0 (forth a), λ t. back ((h n).1 t))
    where
      forth : Holds all n ⊎ (Holds (drop (i + 1) units) n × R n) → Holds all n ⊎ (Holds (drop i units) n × R n)
      forth (inl a) = inl a
      forth (inr a) = inr (subst (λ ys. Holds ys n) (sym (drop_here units i x l e)) (inr a.0), a.1)

      split : (x ≡ n) ⊎ Holds (drop (i + 1) units) n → R n → Holds all n ⊎ (Holds (drop (i + 1) units) n × R n)
      split (inl f) s = absurd (r (subst R (sym f) s))
      split (inr a) s = inr (a, s)

      back : Holds all n ⊎ (Holds (drop i units) n × R n) → Holds all n ⊎ (Holds (drop (i + 1) units) n × R n)
      back (inl a) = inl a
      back (inr a) = split (subst (λ ys. Holds ys n) (drop_here units i x l e) a.0) a.1

  pub all_put : (i : ℕ) (all old : List (List Term)) → length units ≤ i → Says i all (λ n. Holds old n ⊎ (Holds units n × R n)) → (n : List Term) → Holds units n → (Holds all n → Holds old n ⊎ R n) × (Holds old n ⊎ R n → Holds all n)
  all_put i all old l h n u = (λ a. forth ((h n).0 (inl a)), λ t. only ((h n).1 (back t)))
    where
      forth : Holds old n ⊎ (Holds units n × R n) → Holds old n ⊎ R n
      forth (inl a) = inl a
      forth (inr a) = inr a.1

      back : Holds old n ⊎ R n → Holds old n ⊎ (Holds units n × R n)
      back (inl a) = inl a
      back (inr a) = inr (u, a)

      only : Holds all n ⊎ (Holds (drop i units) n × R n) → Holds all n
      only (inl a) = a
      only (inr a) = absurd (subst (λ ys. Holds ys n) (drop_all i units l) a.0)
