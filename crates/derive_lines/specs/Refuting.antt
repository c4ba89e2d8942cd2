-- Refutations, and the assignments at which decisions hold.
use Rattle.std.specs.Prelude.{◌≡◌, ◌≢◌, ◌⊎◌, Bool, true, false, ℤ, pos, List, [], ◌∷◌, ◌++◌, Contains, All}
use Rattle.std.specs.declared.option.Option.TheVariants.{Some}
use Rattle.field_laws.specs.Field.{Field}
use Rattle.sparse_poly.specs.declared.Term.{Term}
use Rattle.sparse_poly.specs.Polynomials.{eval, constant}
use Rattle.derive_lines.specs.declared.parts.Decision.{Decision}
use Rattle.derive_lines.specs.declared.parts.Line.{Line}
use Rattle.derive_lines.specs.declared.parts.Item.{Item}
use Rattle.derive_lines.specs.Lines.{conditions, item_poly, AreGoodLines}

-- a polynomial is a nonzero constant
pub record IsNonzeroConstant (p : List Term) : Type 0 where
  pub number : ℤ
  pub nonzero : number ≢ pos 0
  pub is : p ≡ constant number

-- a polynomial is a nonzero constant or a condition
abbrev pub IsContradiction : List (List Term) → List Term → Type 0
IsContradiction ns p = IsNonzeroConstant p ⊎ Contains ns p

-- an item is a nonzero constant or a condition
pub record Ends (root : List (List Term)) (ds : List Decision) (ls : List Line) (end : Item) : Type 0 where
  pub poly : List Term
  pub is : item_poly root ds ls end ≡ Some poly
  pub contradiction : IsContradiction (conditions ds) poly

-- the lines are good, and the end is a nonzero constant or a condition
pub record Refutes (root : List (List Term)) (ds : List Decision) (ls : List Line) (end : Item) : Type 0 where
  pub lines : AreGoodLines root ds ls
  pub ends : Ends root ds ls end

-- a decision is so at s
abbrev pub IsSo : {E : Type 0} → Field E → List E → Bool → List Term → Type 0
IsSo f s true p = eval f s p ≡ f.zero
IsSo f s false p = eval f s p ≢ f.zero

-- each of these polynomials vanishes at s, and each decision is so
abbrev pub AllVanish : {E : Type 0} → Field E → List E → List (List Term) → Type 0
AllVanish f s ps = All (λ (p : List Term). eval f s p ≡ f.zero) ps

abbrev pub AllHold : {E : Type 0} → Field E → List E → List Decision → Type 0
AllHold f s ds = All (λ (d : Decision). IsSo f s d.zero d.poly) ds

-- the decisions with one more: that a polynomial is zero, or that it is not
abbrev pub decided : List Decision → List Term → Bool → List Decision
decided ds p zero = ds ++ record { poly = p; zero = zero } ∷ []

-- the root vanishes at s, and each decision is so
abbrev pub HoldsAt : {E : Type 0} → Field E → List E → List (List Term) → List Decision → Type 0
HoldsAt f s root ds = AllVanish f s root × AllHold f s ds
