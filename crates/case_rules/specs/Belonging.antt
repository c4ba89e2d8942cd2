-- When a case belongs to a root.
use Rattle.std.specs.Prelude.{◌≡◌, ℕ, ◌<◌, ◌≤◌, ◌⊎◌, List, length, All}
use Rattle.std.specs.declared.option.Option.TheVariants.{Some}
use Rattle.sparse_poly.specs.declared.Term.{Term}
use Rattle.sparse_poly.specs.Polynomials.{variable}
use Rattle.sparse_poly.specs.Contributions.{IsPoly}
use Rattle.sparse_poly.specs.Primitive.{IsPrimitive}
use Rattle.sparse_poly.specs.Clearing.{IsInForm}
use Rattle.derive_lines.specs.Lines.{item_poly, AreGoodLines}
use Rattle.derive_lines.specs.Recovery.{AllRecovered}
use Rattle.refute_cert.specs.Cone.{HavePolyMultipliers}
use Rattle.case_rules.specs.Cases.{CaseState, numbered, known, equation, poly, polys, count}
use Rattle.case_rules.specs.Kept.{AreAscending}

-- polynomials that are primitive
pub record ArePrimitive (ps : List (List Term)) : Type 0 where
  pub polys : All IsPoly ps
  pub primitive : All IsPrimitive ps

-- what may be a known condition: a variable, or what is in form
abbrev pub IsCondition : List Term → Type 0
IsCondition n = ((v : ℕ) × (n ≡ variable v)) ⊎ IsInForm n

-- the equation at place i is the polynomial of its item
abbrev pub IsOfItem : List (List Term) → CaseState → ℕ → Type 0
IsOfItem root c i = item_poly root c.decisions c.lines (equation c i).item ≡ Some (poly c i)

-- a case belongs to a root: its lines are good and their multipliers polynomials, its equations are those of their items, primitive and ascending, all root equations and zero
-- decisions are recovered from them, conditions are variables or in form, and no decision was made without a move
pub record Belongs (root : List (List Term)) (c : CaseState) : Type 0 where
  pub lines : AreGoodLines root c.decisions c.lines
  pub multipliers : HavePolyMultipliers c.lines
  pub items : (i : ℕ) → i < count c → IsOfItem root c i
  pub primitive : ArePrimitive (polys c)
  pub ascending : AreAscending c.equations
  pub recovered : AllRecovered root c.decisions c.lines (polys c)
  pub conditions : All IsCondition (known c)
  pub depth : length c.decisions ≤ c.moves

-- root equations: primitive, not zero and strictly ascending
pub record IsRootList (root : List (List Term)) : Type 0 where
  pub primitive : ArePrimitive root
  pub ascending : AreAscending (numbered 0 root)
