-- Marks that tell which polynomials are in form.
use Rattle.std.specs.Prelude.{◌↔◌, Bool, IsTrue, List, [], ◌∷◌}
use Rattle.sparse_poly.specs.declared.Term.{Term}
use Rattle.sparse_poly.specs.Clearing.{IsInForm}

-- each polynomial has a mark, which tells whether it is in form
abbrev pub AreMarked : List (List Term) → List Bool → Type 0
AreMarked [] [] = Unit {0}
AreMarked [] (b ∷ bs) = ⊥
AreMarked (p ∷ ps) [] = ⊥
AreMarked (p ∷ ps) (b ∷ bs) = (IsTrue b ↔ IsInForm p) × AreMarked ps bs
