-- Lists of equations, ascending by their polynomials.
use Rattle.std.specs.Prelude.{◌≢◌, if◌then◌else◌, nat_lt, List, [], ◌∷◌, All}
use Rattle.std.specs.List.Sorted.{IsStrictlySortedBy}
use Rattle.std.specs.declared.cmp.Ordering.{Ordering}
use Rattle.std.specs.declared.cmp.Ordering.TheVariants.{Less, Equal, Greater}
use Rattle.sparse_poly.specs.declared.Term.{Term}
use Rattle.sparse_poly.specs.Order.{poly_cmp}
use Rattle.derive_lines.specs.declared.parts.Item.{Item}
use Rattle.derive_lines.specs.declared.parts.Item.TheVariants as item
use Rattle.case_rules.specs.declared.equation.Equation.{Equation}
use Rattle.case_rules.specs.Cases.{polys_of}

-- of two items the older one: what is no line before a line, and of two lines that of the lower number
abbrev pub older : Item → Item → Item
older (item.Root i) other = item.Root i
older (item.Decision j) other = item.Decision j
older (item.Line k) (item.Root i) = item.Root i
older (item.Line k) (item.Decision j) = item.Decision j
older (item.Line k) (item.Line n) = item.Line (if nat_lt n k then n else k)

-- an equation goes to its place in the order; of two with one polynomial the older item stays
abbrev pub by_place : Ordering → Equation → Equation → List Equation → List Equation → List Equation
by_place Less e f es placed = f ∷ placed
by_place Equal e f es placed = record { poly = f.poly; item = older f.item e.item } ∷ es
by_place Greater e f es placed = e ∷ f ∷ es

abbrev pub placed : Equation → List Equation → List Equation
placed e [] = e ∷ []
placed e (f ∷ es) = by_place (poly_cmp f.poly e.poly) e f es (placed e es)

-- an equation is added; zero is dropped
abbrev pub added_if : List Term → Equation → List Equation → List Equation
added_if [] e es = es
added_if (t ∷ ts) e es = placed e es

abbrev pub added : Equation → List Equation → List Equation
added e es = added_if e.poly e es

-- equations are added, one after the other
abbrev pub all_added : List Equation → List Equation → List Equation
all_added [] es = es
all_added (e ∷ more) es = all_added more (added e es)

-- the item of a polynomial among equations, and another item where it does not stand there
abbrev pub item_if : Ordering → Item → Item → Item
item_if Less i j = j
item_if Equal i j = i
item_if Greater i j = j

abbrev pub item_of : List Term → Item → List Equation → Item
item_of p other [] = other
item_of p other (e ∷ es) = item_if (poly_cmp e.poly p) e.item (item_of p other es)

-- equations ascend strictly by their polynomials, and none is zero
pub record AreAscending (es : List Equation) : Type 0 where
  pub nonzero : All (λ (p : List Term). p ≢ []) (polys_of es)
  pub ascending : IsStrictlySortedBy poly_cmp (polys_of es)
