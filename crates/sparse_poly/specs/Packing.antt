-- Terms whose monomials fit a layout.
use Rattle.std.specs.Prelude.{ℕ, List}
use Rattle.std.specs.List.{AllByRecursion}
use Rattle.monomial.specs.Layouts.{FitsLayout}
use Rattle.sparse_poly.specs.declared.Term.{Term}

abbrev pub AllFit : List ℕ → List Term → Type 0
AllFit vs ts = AllByRecursion (λ (t : Term). FitsLayout vs t.monomial) ts
