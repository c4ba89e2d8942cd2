-- The values of symbols, of products of symbols and of sums of such products, where the unknowns have the values x.
use Rattle.std.specs.Prelude.{List, [], ◌∷◌, map, slice_index_or}
use Rattle.field_laws.specs.Field.{Field, total}
use Rattle.fusion_ring.specs.Fusion.{Fusion}
use Rattle.symbol_index.specs.declared.Symbol.{Symbol}
use Rattle.symbol_index.specs.declared.Standing.{Standing}
use Rattle.symbol_index.specs.declared.Standing.TheVariants.{Unit as unit_symbol, Unknown, NotAdmissible}
use Rattle.symbol_index.specs.Symbols.{standing}

-- 1, the value of that unknown, or 0
abbrev pub standing_value : {E : Type 0} → Field E → List E → Standing → E
standing_value f x unit_symbol = f.one
standing_value f x (Unknown i) = slice_index_or x i f.zero
standing_value f x NotAdmissible = f.zero

-- the value of a symbol: a unit symbol is 1, an unknown has its value in x, and a symbol that is not admissible is 0
abbrev pub symbol_value : {E : Type 0} → Field E → Fusion → List E → Symbol → E
symbol_value f r x s = standing_value f x (standing r s)

module _ {E : Type 0} (f : Field E) (value : Symbol → E) where
  -- the product of the values of some symbols; the empty product is 1
  abbrev pub product_value : List Symbol → E
  product_value [] = f.one
  product_value (s ∷ ss) = f.times (value s) (product_value ss)

  -- the sum of some products; the empty sum is 0
  abbrev pub side_value : List (List Symbol) → E
  side_value side = total f (map product_value side)
