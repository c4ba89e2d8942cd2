-- Contradictions by their tests.
use Rattle.std.specs.Prelude.{◌≡◌, zero, suc, ℤ, pos, negsuc, Bool, List, [], IsTrue, refl}
use mathlib.Core.Logic.{inl, inr}
use Rattle.std.proofs.Common.{sym, ◌∙◌}
use Rattle.sparse_poly.specs.declared.Term.{Term}
use Rattle.sparse_poly.specs.Polynomials.{constant}
use Rattle.derive_lines.specs.declared.parts.Decision.{Decision}
use Rattle.derive_lines.specs.Lines.{conditions}
use Rattle.derive_lines.specs.Known.{Holds}
use Rattle.derive_lines.specs.Refuting.{IsNonzeroConstant, IsContradiction}
use Rattle.derive_lines.proofs.KnownSets.{contains-holds, holds-contains}

constant_zero : (n : ℤ) → constant n ≡ [] → n ≡ pos 0
constant_zero (pos zero) e = refl
constant_zero (pos (suc n)) e = absurd (cc e)
constant_zero (negsuc n) e = absurd (cc e)

pub zero_no_constant : (p : List Term) → p ≡ constant (pos 0) → IsNonzeroConstant p → ⊥
zero_no_constant p e c = c.nonzero (constant_zero c.number (sym c.is ∙ e))

-- a contradiction by both tests
pub contradiction_test : (ds : List Decision) (p : List Term) (b : Bool) → (IsNonzeroConstant p → ⊥) → (IsTrue b → Holds (conditions ds) p) × (Holds (conditions ds) p → IsTrue b) → (IsTrue b → IsContradiction (conditions ds) p) × (IsContradiction (conditions ds) p → IsTrue b)
contradiction_test ds p b n h = (λ t. inr (holds-contains (conditions ds) p (h.0 t)), λ c. either c)
  where
    either : IsContradiction (conditions ds) p → IsTrue b
    either (inl c) = absurd (n c)
    either (inr m) = h.1 (contains-holds (conditions ds) p m)
