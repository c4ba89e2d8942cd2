-- The pentagon (after Kitaev 2006, Appendix E), as an equation of field elements for all its labels:
-- F(f,c,d,e;g,l) F(a,b,l,e;f,k) = sum_h F(a,b,c,g;f,h) F(a,h,d,e;g,k) F(b,c,d,k;h,l)
use Rattle.std.specs.Prelude.{◌≡◌, ℕ, Bool, IsTrue, ◌&&◌, List, [], ◌∷◌, map, filter}
use Rattle.field_laws.specs.Field.{Field}
use Rattle.label_tuples.specs.Extended.{below}
use Rattle.fusion_ring.specs.Fusion.{Fusion, channel}
use Rattle.symbol_index.specs.declared.Symbol.{Symbol}
use Rattle.symbol_index.specs.declared.Symbol.TheVariants.{Fsym}
use Rattle.symbol_equations.specs.Values.{side_value}
use Rattle.pentagon_gen.specs.declared.PentagonLabels.{PentagonLabels}

-- N(a,b,f) = N(f,c,g) = N(g,d,e) = N(c,d,l) = N(b,l,k) = N(a,k,e) = 1
abbrev pub is_pentagon : Fusion → PentagonLabels → Bool
is_pentagon r at = channel r at.a at.b at.f && channel r at.f at.c at.g && channel r at.g at.d at.e && channel r at.c at.d at.l && channel r at.b at.l at.k && channel r at.a at.k at.e

-- F(f,c,d,e;g,l) F(a,b,l,e;f,k), one product
abbrev pub left_side : PentagonLabels → List (List Symbol)
left_side at = (Fsym at.f at.c at.d at.e at.g at.l ∷ Fsym at.a at.b at.l at.e at.f at.k ∷ []) ∷ []

-- F(a,b,c,g;f,h) F(a,h,d,e;g,k) F(b,c,d,k;h,l)
abbrev pub right_product : PentagonLabels → ℕ → List Symbol
right_product at h = Fsym at.a at.b at.c at.g at.f h ∷ Fsym at.a h at.d at.e at.g at.k ∷ Fsym at.b at.c at.d at.k h at.l ∷ []

-- N(b,c,h) = N(a,h,g) = N(h,d,k) = 1
abbrev pub is_inner : Fusion → PentagonLabels → ℕ → Bool
is_inner r at h = channel r at.b at.c h && channel r at.a h at.g && channel r h at.d at.k

-- the labels over which the sum of a pentagon runs
abbrev pub inner_labels : Fusion → PentagonLabels → List ℕ
inner_labels r at = filter (is_inner r at) (below r.labels)

abbrev pub right_side : Fusion → PentagonLabels → List (List Symbol)
right_side r at = map (right_product at) (inner_labels r at)

module _ {E : Type 0} (q : Field E) (r : Fusion) (value : Symbol → E) where
  -- both sides have one value
  abbrev pub PentagonAt : PentagonLabels → Type 0
  PentagonAt at = side_value q value (left_side at) ≡ side_value q value (right_side r at)

  -- the pentagon holds for all its labels
  abbrev pub Pentagon : Type 0
  Pentagon = (at : PentagonLabels) → IsTrue (is_pentagon r at) → PentagonAt at
