-- Equations that known conditions leave as they are.
use Rattle.std.specs.Prelude.{◌≡◌, ◌≢◌, ◌≤◌, ℕ, List, [], length, take}
use Rattle.std.specs.List.{Contains}
use Rattle.sparse_poly.specs.declared.Term.{Term}
use Rattle.sparse_poly.specs.Polynomials.{variable}
use Rattle.sparse_poly.specs.Primitive.{IsPrimitive}
use Rattle.sparse_poly.specs.Clearing.{IsDividedBy}
use Rattle.case_rules.specs.Clearings.{Divides}

-- a strip leaves p: it is primitive, and divided by no condition that is a variable
pub record IsBare (units : List (List Term)) (p : List Term) : Type 0 where
  pub primitive : IsPrimitive p
  pub bare : (v : ℕ) → Contains units (variable v) → IsDividedBy v p → p ≡ []

-- a clearing leaves p: no condition divides it
abbrev pub IsUndivided : List (List Term) → List Term → Type 0
IsUndivided units p = (n h : List Term) → Contains units n → ¬ Divides n p h

pub record IsClean (units : List (List Term)) (p : List Term) : Type 0 where
  pub bare : IsBare units p
  pub undivided : IsUndivided units p

-- p is clean under the first k conditions; nothing is said by k = 0
pub record IsCleanTo (units : List (List Term)) (p : List Term) (k : ℕ) : Type 0 where
  pub within : k ≤ length units
  pub clean : k ≢ 0 → IsClean (take k units) p

-- p is stripped of all conditions, and the first k do not divide it
pub record IsBareTo (units : List (List Term)) (p : List Term) (k : ℕ) : Type 0 where
  pub within : k ≤ length units
  pub bare : IsBare units p
  pub undivided : IsUndivided (take k units) p
