-- The conditions on which the multipliers of the lines before a place rest.
use Rattle.std.specs.Prelude.{◌≡◌, ◌<◌, ◌≤◌, ℕ, ◌+◌, ◌⊎◌, Bool, true, List, length, slice_get}
use mathlib.Core.Logic.{inl, inr}
use Rattle.std.proofs.Common.{arith, sym, ◌∙◌, ap, subst}
use Rattle.std.proofs.lemmas.Option.{same_Some, slice_get_within}
use Rattle.std.specs.declared.option.Option.TheVariants.{Some}
use Rattle.sparse_poly.specs.declared.Term.{Term}
use Rattle.derive_lines.specs.declared.parts.Line.{Line}
use Rattle.derive_lines.specs.Lines.{multiplier}
use Rattle.derive_lines.specs.Known.{Holds}
use Rattle.refute_cert.specs.Cone.{RestsOn}
use Rattle.refute_cert.specs.Resting.{IsRestedOn, IsRestedBefore}

cases : (j k : ℕ) → j < k + 1 → (j < k) ⊎ (j ≡ k)
cases j k l = grind arith

module _ (ls : List Line) (marks : List Bool) (units : List (List Term)) (V : List Term → Type 0) where
  -- a set has these conditions, for the lines before a place
  abbrev pub KnowsBefore : ℕ → List (List Term) → Type 0
  KnowsBefore i known = (n : List Term) → Holds units n → (Holds known n → V n ⊎ ((k : ℕ) × IsRestedBefore ls marks units n i k)) × (V n ⊎ ((k : ℕ) × IsRestedBefore ls marks units n i k) → Holds known n)

  wider : (n : List Term) (i k : ℕ) → IsRestedBefore ls marks units n i k → IsRestedBefore ls marks units n (i + 1) k
  wider n i k r = record { before = omega (arith, r.before); rested = r.rested }

  pub rested_more : (i : ℕ) (line : Line) (known new : List (List Term)) → KnowsBefore i known → slice_get ls i ≡ Some line → slice_get marks i ≡ Some true → ((n : List Term) → Holds units n → (Holds new n → Holds known n ⊎ RestsOn units (multiplier line) n) × (Holds known n ⊎ RestsOn units (multiplier line) n → Holds new n)) → KnowsBefore (i + 1) new
  rested_more i line known new h is m add n u = (λ a. forth ((add n u).0 a), λ r. (add n u).1 (back r))
    where
      wide : V n ⊎ ((k : ℕ) × IsRestedBefore ls marks units n i k) → V n ⊎ ((k : ℕ) × IsRestedBefore ls marks units n (i + 1) k)
      wide (inl v) = inl v
      wide (inr r) = inr (r.0, wider n i r.0 r.1)

      forth : Holds known n ⊎ RestsOn units (multiplier line) n → V n ⊎ ((k : ℕ) × IsRestedBefore ls marks units n (i + 1) k)
      forth (inl a) = wide ((h n u).0 a)
      forth (inr r) = inr (i, record { before = omega arith; rested = record { line = line; is = is; marked = m; rests = r } })

      narrow : (k : ℕ) → IsRestedOn ls marks units n k → (k < i) ⊎ (k ≡ i) → Holds known n ⊎ RestsOn units (multiplier line) n
      narrow k r (inl l) = inl ((h n u).1 (inr (k, record { before = l; rested = r })))
      narrow k r (inr e) = inr (subst (λ (x : Line). RestsOn units (multiplier x) n) (same_Some r.line line (sym r.is ∙ ap (slice_get ls) e ∙ is)) r.rests)

      back : V n ⊎ ((k : ℕ) × IsRestedBefore ls marks units n (i + 1) k) → Holds known n ⊎ RestsOn units (multiplier line) n
      back (inl v) = inl ((h n u).1 (inl v))
      back (inr r) = narrow r.0 r.1.rested (cases r.0 i r.1.before)

  pub rested_all : (i : ℕ) (known : List (List Term)) → length ls ≤ i → KnowsBefore i known → (n : List Term) → Holds units n → (Holds known n → V n ⊎ ((k : ℕ) × IsRestedOn ls marks units n k)) × (V n ⊎ ((k : ℕ) × IsRestedOn ls marks units n k) → Holds known n)
  rested_all i known l h n u = (λ a. forth ((h n u).0 a), λ r. (h n u).1 (back r))
    where
      forth : V n ⊎ ((k : ℕ) × IsRestedBefore ls marks units n i k) → V n ⊎ ((k : ℕ) × IsRestedOn ls marks units n k)
      forth (inl v) = inl v
      forth (inr r) = inr (r.0, r.1.rested)

      back : V n ⊎ ((k : ℕ) × IsRestedOn ls marks units n k) → V n ⊎ ((k : ℕ) × IsRestedBefore ls marks units n i k)
      back (inl v) = inl v
      back (inr r) = let lt : r.0 < length ls = slice_get_within ls r.0 r.1.line r.1.is in inr (r.0, record { before = omega arith; rested = r.1 })
