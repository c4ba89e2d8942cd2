-- The hexagons (after Kitaev 2006, Appendix E), as equations of field elements for all their labels:
-- R(c,a,e) F(a,c,b,d;e,g) R(c,b,g) = sum_f F(c,a,b,d;e,f) R(c,f,d) F(a,b,c,d;f,g)
-- S(a,c,e) F(a,c,b,d;e,g) S(b,c,g) = sum_f F(c,a,b,d;e,f) S(f,c,d) F(a,b,c,d;f,g)
use Rattle.std.specs.Prelude.{◌≡◌, ℕ, Bool, IsTrue, ◌&&◌, List, [], ◌∷◌, map, filter}
use Rattle.field_laws.specs.Field.{Field}
use Rattle.label_tuples.specs.Extended.{below}
use Rattle.fusion_ring.specs.Fusion.{Fusion, channel}
use Rattle.symbol_index.specs.declared.Symbol.{Symbol}
use Rattle.symbol_index.specs.declared.Symbol.TheVariants.{Fsym, Rsym, Sinv}
use Rattle.symbol_index.specs.Symbols.{is_admissible}
use Rattle.symbol_equations.specs.Values.{side_value}
use Rattle.hexagon_gen.specs.declared.HexagonLabels.{HexagonLabels}
use Rattle.hexagon_gen.specs.declared.Hexagon.{Hexagon}
use Rattle.hexagon_gen.specs.declared.Hexagon.TheVariants.{First, Second}

-- F(a,c,b,d;e,g) is admissible
abbrev pub is_hexagon : Fusion → HexagonLabels → Bool
is_hexagon r at = is_admissible r (Fsym at.a at.c at.b at.d at.e at.g)

-- R(c,x,y) in the first hexagon, S(x,c,y) in the second
abbrev pub braiding : Hexagon → HexagonLabels → ℕ → ℕ → Symbol
braiding First at x y = Rsym at.c x y
braiding Second at x y = Sinv x at.c y

-- R(c,a,e) F(a,c,b,d;e,g) R(c,b,g), one product, or the same with S
abbrev pub left_side : Hexagon → HexagonLabels → List (List Symbol)
left_side h at = (braiding h at at.a at.e ∷ Fsym at.a at.c at.b at.d at.e at.g ∷ braiding h at at.b at.g ∷ []) ∷ []

-- F(c,a,b,d;e,f) R(c,f,d) F(a,b,c,d;f,g), or the same with S
abbrev pub right_product : Hexagon → HexagonLabels → ℕ → List Symbol
right_product h at f = Fsym at.c at.a at.b at.d at.e f ∷ braiding h at f at.d ∷ Fsym at.a at.b at.c at.d f at.g ∷ []

-- N(a,b,f) = N(f,c,d) = 1
abbrev pub is_inner : Fusion → HexagonLabels → ℕ → Bool
is_inner r at f = channel r at.a at.b f && channel r f at.c at.d

abbrev pub right_side : Fusion → Hexagon → HexagonLabels → List (List Symbol)
right_side r h at = map (right_product h at) (filter (is_inner r at) (below r.labels))

module _ {E : Type 0} (q : Field E) (r : Fusion) (value : Symbol → E) where
  -- both sides of a hexagon have one value
  abbrev pub HexagonAt : Hexagon → HexagonLabels → Type 0
  HexagonAt h at = side_value q value (left_side h at) ≡ side_value q value (right_side r h at)

  -- both hexagons hold for all their labels
  pub record Hexagons : Type 0 where
    pub first : (at : HexagonLabels) → IsTrue (is_hexagon r at) → HexagonAt First at
    pub second : (at : HexagonLabels) → IsTrue (is_hexagon r at) → HexagonAt Second at
