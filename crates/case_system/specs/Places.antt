-- Where a polynomial stands among equations, or goes.
use Rattle.std.specs.Prelude.{◌≡◌, ℕ, ◌<◌, ◌≤◌, List, length, insert, slice_set}
use Rattle.std.specs.List.Sorted.{IsStrictlySortedBy}
use Rattle.std.specs.declared.option.Option.{Option}
use Rattle.std.specs.declared.option.Option.TheVariants.{None, Some}
use Rattle.sparse_poly.specs.declared.Term.{Term}
use Rattle.sparse_poly.specs.Order.{poly_cmp}
use Rattle.case_rules.specs.declared.equation.Equation.{Equation}
use Rattle.case_rules.specs.Cases.{equation_at, polys_of}
use Rattle.case_rules.specs.Kept.{older, placed, added}

-- the polynomials of equations ascend strictly
abbrev pub Ascend : List Equation → Type 0
Ascend es = IsStrictlySortedBy poly_cmp (polys_of es)

-- it stands at place i: the equation there keeps the older item
pub record StandsAt (p : List Term) (es : List Equation) (i : ℕ) : Type 0 where
  pub within : i < length es
  pub kept : (e : Equation) → e.poly ≡ p → placed e es ≡ slice_set es i (record { poly = (equation_at es i).poly; item = older (equation_at es i).item e.item })

-- it goes to place i
pub record GoesTo (p : List Term) (es : List Equation) (i : ℕ) : Type 0 where
  pub within : i ≤ length es
  pub inserted : (e : Equation) → e.poly ≡ p → placed e es ≡ insert es i e

-- an equation with this polynomial, once it is added, is new at a place, or there is no new polynomial
abbrev pub HasPlace : List Term → List Equation → Option ℕ → Type 0
HasPlace p es None = (e : Equation) → e.poly ≡ p → polys_of (added e es) ≡ polys_of es
HasPlace p es (Some k) = (k ≤ length es) × ((e : Equation) → e.poly ≡ p → added e es ≡ insert es k e)
