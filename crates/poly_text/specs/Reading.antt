-- Which polynomial a text spells, and why it spells none.
use Rattle.std.specs.Prelude.{◌≡◌, ℕ, Bool, true, nat_lt, None, Some, List}
use Rattle.std.specs.List.{list_all}
use Rattle.sparse_poly.specs.Contributions.{IsPoly}
use Rattle.sparse_poly.specs.declared.Term.{Term}
use Rattle.poly_text.specs.Text.{poly_text}
use Rattle.poly_text.specs.Form.{IsForm, IsSyntaxFault}
use Rattle.poly_text.specs.Numbers.{first_out}
use Rattle.poly_text.specs.Order.{IsOrderFault}
use Rattle.poly_text.specs.State.{Start}
use Rattle.poly_text.specs.declared.reader.PolyTextFault.{PolyTextFault}
use Rattle.poly_text.specs.declared.reader.PolyTextFault.TheVariants.{Syntax, Number, Order, OutOfMemory}

-- each variable is below the number of unknowns
abbrev pub uses_below : ℕ → List Term → Bool
uses_below unknowns ts = list_all (λ (t : Term). list_all (λ (p : ℕ × ℕ). nat_lt p.0 unknowns) t.monomial) ts

-- the text is the one spelling of this polynomial
pub record IsSpelling (unknowns : ℕ) (text : List ℕ) (p : List Term) : Type 0 where
  pub spelled : text ≡ poly_text p
  pub poly : IsPoly p
  pub below : uses_below unknowns p ≡ true

-- the text has the form, and the number that starts at this place is the first out of range
pub record IsNumberFault (unknowns : ℕ) (text : List ℕ) (at : ℕ) : Type 0 where
  pub form : IsForm text
  pub first : first_out unknowns Start text ≡ Some at

-- form and numbers are right, and the term or factor at this place is the first out of order
pub record IsPlaceFault (unknowns : ℕ) (text : List ℕ) (at : ℕ) : Type 0 where
  pub form : IsForm text
  pub numbers : first_out unknowns Start text ≡ None
  pub order : IsOrderFault unknowns text at

abbrev pub IsTextFault : ℕ → List ℕ → PolyTextFault → Type 0
IsTextFault unknowns text (Syntax at) = IsSyntaxFault text at
IsTextFault unknowns text (Number at) = IsNumberFault unknowns text at
IsTextFault unknowns text (Order at) = IsPlaceFault unknowns text at
IsTextFault unknowns text OutOfMemory = Unit {0}
