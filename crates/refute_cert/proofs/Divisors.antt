-- The conditions by which a clearing divides, one division after the other.
use Rattle.std.specs.Prelude.{◌≡◌, ◌≢◌, ◌⊎◌, List, [], ◌∷◌, refl}
use mathlib.Core.Logic.{inl, inr}
use Rattle.std.proofs.Common.{sym, ◌∙◌, subst}
use Rattle.std.specs.declared.option.Option.TheVariants.{None}
use Rattle.sparse_poly.specs.declared.Term.{Term}
use Rattle.sparse_poly.specs.Reads.{main_variable}
use Rattle.sparse_poly.specs.Clearing.{IsDivision, IsDividedOutBy, by_first, by_later, after}
use Rattle.sparse_poly.proofs.Same.{same_polynomial}
use Rattle.sparse_poly.proofs.OneQuotient.{one_quotient}
use Rattle.derive_lines.specs.Known.{Holds}

not_zero : (n : List Term) → main_variable n ≢ None → n ≢ []
not_zero [] h e = h refl
not_zero (t ∷ ts) h e = absurd (cc e)

module _ (units : List (List Term)) where
  -- what is divided by after a first member by which no division goes
  none_more : (n x : List Term) (ns : List (List Term)) (f g : List Term) → ((d k : List Term) → IsDivision units n f g d k → ⊥) → IsDividedOutBy units x (n ∷ ns) f g → IsDividedOutBy units x ns f g
  none_more n x ns f g z (by_first i) = absurd (z _ _ i)
  none_more n x ns f g z (by_later z' r) = r
  none_more n x ns f g z (after i r) = absurd (z _ _ i)

  -- and after a division by it
  one_more : (n x : List Term) (ns : List (List Term)) (f g d k : List Term) → IsDivision units n f g d k → IsDividedOutBy units x (n ∷ ns) f g → (n ≡ x) ⊎ IsDividedOutBy units x (n ∷ ns) d k
  one_more n x ns f g d k i (by_first j) = inl refl
  one_more n x ns f g d k i (by_later z r) = absurd (z d k i)
  one_more n x ns f g d k i (after {e = e} {h = h} j r) =
      let factor : e ≡ d = same_polynomial e d j.factor.poly i.factor.poly (λ m. j.factor.sums m ∙ sym (i.factor.sums m)) in
      let quotient : h ≡ k = one_quotient n g h k i.in_form.poly (not_zero n i.in_form.varied) j.quotient i.quotient in
      inr (subst (λ y. IsDividedOutBy units x (n ∷ ns) y k) factor (subst (λ y. IsDividedOutBy units x (n ∷ ns) e y) quotient r))

  -- what is in a set, or is divided by from here on, is T
  abbrev pub Divides : List (List Term) → List (List Term) → List Term → List Term → List Term → Type 0 → Type 0
  Divides known ns f g x T = (Holds known x ⊎ IsDividedOutBy units x ns f g → T) × (T → Holds known x ⊎ IsDividedOutBy units x ns f g)

  -- a member by which no division goes is passed
  pub divides_passed : (known : List (List Term)) (n x : List Term) (ns : List (List Term)) (f g : List Term) (T : Type 0) → ((d k : List Term) → IsDivision units n f g d k → ⊥) → Divides known (n ∷ ns) f g x T → Divides known ns f g x T
  divides_passed known n x ns f g T z h = (λ a. h.0 (forth a), λ t. back (h.1 t))
    where
      forth : Holds known x ⊎ IsDividedOutBy units x ns f g → Holds known x ⊎ IsDividedOutBy units x (n ∷ ns) f g
      forth (inl a) = inl a
      forth (inr r) = inr (by_later z r)

      back : Holds known x ⊎ IsDividedOutBy units x (n ∷ ns) f g → Holds known x ⊎ IsDividedOutBy units x ns f g
      back (inl a) = inl a
      back (inr r) = inr (none_more n x ns f g z r)

  -- a member by which a division goes is put into the set
  pub divides_put : (known new : List (List Term)) (n x : List Term) (ns : List (List Term)) (f g d k : List Term) (T : Type 0) → IsDivision units n f g d k → (Holds new x → Holds known x ⊎ (n ≡ x)) × (Holds known x ⊎ (n ≡ x) → Holds new x) → Divides known (n ∷ ns) f g x T → Divides new (n ∷ ns) d k x T
  divides_put known new n x ns f g d k T i ins h = (λ a. h.0 (forth a), λ t. back (h.1 t))
    where
      own : Holds known x ⊎ (n ≡ x) → Holds known x ⊎ IsDividedOutBy units x (n ∷ ns) f g
      own (inl a) = inl a
      own (inr e) = inr (subst (λ y. IsDividedOutBy units y (n ∷ ns) f g) e (by_first i))

      forth : Holds new x ⊎ IsDividedOutBy units x (n ∷ ns) d k → Holds known x ⊎ IsDividedOutBy units x (n ∷ ns) f g
      forth (inl a) = own (ins.0 a)
      forth (inr r) = inr (after i r)

      later : (n ≡ x) ⊎ IsDividedOutBy units x (n ∷ ns) d k → Holds new x ⊎ IsDividedOutBy units x (n ∷ ns) d k
      later (inl e) = inl (ins.1 (inr e))
      later (inr r) = inr r

      back : Holds known x ⊎ IsDividedOutBy units x (n ∷ ns) f g → Holds new x ⊎ IsDividedOutBy units x (n ∷ ns) d k
      back (inl a) = inl (ins.1 (inl a))
      back (inr r) = later (one_more n x ns f g d k i r)

  -- what goes on from a member goes on from the list that it is the first of
  pub divides_then : (known new : List (List Term)) (x : List Term) (all ns rest : List (List Term)) (f g d k : List Term) (T : Type 0) → all ≡ ns → (Holds new x ⊎ IsDividedOutBy units x rest d k → Holds known x ⊎ IsDividedOutBy units x ns f g) × (Holds known x ⊎ IsDividedOutBy units x ns f g → Holds new x ⊎ IsDividedOutBy units x rest d k) → Divides known all f g x T → Divides new rest d k x T
  divides_then known new x all ns rest f g d k T e step h = let was : Divides known ns f g x T = subst (λ ys. Divides known ys f g x T) e h in (λ a. was.0 (step.0 a), λ t. step.1 (was.1 t))

  -- once no member is left
  pub divides_all : (known ns : List (List Term)) (f g x : List Term) (T : Type 0) → ns ≡ [] → Divides known ns f g x T → (Holds known x → T) × (T → Holds known x)
  divides_all known ns f g x T e h = (λ a. h.0 (inl a), λ t. only (subst (λ ys. Holds known x ⊎ IsDividedOutBy units x ys f g) e (h.1 t)))
    where
      none : IsDividedOutBy units x [] f g → ⊥
      none i = elim i [ ]

      only : Holds known x ⊎ IsDividedOutBy units x [] f g → Holds known x
      only (inl a) = a
      only (inr r) = absurd (none r)
