-- Conditions on which the multipliers of marked lines rest.
use Rattle.std.specs.Prelude.{◌≡◌, ◌<◌, ℕ, Bool, List, slice_get}
use Rattle.std.specs.declared.option.Option.TheVariants.{Some}
use Rattle.sparse_poly.specs.declared.Term.{Term}
use Rattle.sparse_poly.specs.Polynomials.{variable}
use Rattle.sparse_poly.specs.Clearing.{IsDividedBy}
use Rattle.derive_lines.specs.declared.parts.Line.{Line}
use Rattle.derive_lines.specs.Lines.{multiplier}
use Rattle.derive_lines.specs.Refuting.{IsNonzeroConstant}
use Rattle.refute_cert.specs.Cone.{RestsOn}
use Rattle.refute_cert.specs.Marks.{IsMarked}

-- n is a variable that divides m
pub record IsDividingVariable (m n : List Term) : Type 0 where
  pub var : ℕ
  pub is : n ≡ variable var
  pub divides : IsDividedBy var m

-- line k is marked, and its multiplier rests on n
pub record IsRestedOn (ls : List Line) (marks : List Bool) (units : List (List Term)) (n : List Term) (k : ℕ) : Type 0 where
  pub line : Line
  pub is : slice_get ls k ≡ Some line
  pub marked : IsMarked marks k
  pub rests : RestsOn units (multiplier line) n

-- the same of a line before place i
pub record IsRestedBefore (ls : List Line) (marks : List Bool) (units : List (List Term)) (n : List Term) (i k : ℕ) : Type 0 where
  pub before : k < i
  pub rested : IsRestedOn ls marks units n k

-- n is the end, which is no nonzero constant
pub record IsVariedEnd (end n : List Term) : Type 0 where
  pub is : end ≡ n
  pub varied : IsNonzeroConstant end → ⊥
