-- The inverses: the G are the entries of the inverse matrices of the F, and S is the inverse of R.
-- sum_f F(a,b,c,d;e,f) G(a,b,c,d;f,e') = [e = e'], sum_e G(a,b,c,d;f,e) F(a,b,c,d;e,f') = [f = f'], R(a,b,c) S(a,b,c) = 1
use Rattle.std.specs.Prelude.{◌≡◌, ℕ, Bool, IsTrue, ◌&&◌, ◌==◌, if◌then◌else◌, ◌⊎◌, List, [], ◌∷◌, map, filter}
use Rattle.field_laws.specs.Field.{Field}
use Rattle.label_tuples.specs.Extended.{below}
use Rattle.sparse_poly.specs.declared.Term.{Term}
use Rattle.fusion_ring.specs.Fusion.{Fusion, channel}
use Rattle.symbol_index.specs.declared.Symbol.{Symbol}
use Rattle.symbol_index.specs.declared.Symbol.TheVariants.{Fsym, Ginv, Rsym, Sinv}
use Rattle.symbol_index.specs.declared.sides.Side.{Side}
use Rattle.symbol_index.specs.declared.sides.Side.TheVariants.{Rows, Columns}
use Rattle.symbol_index.specs.Sides.{is_on, opposite}
use Rattle.symbol_equations.specs.Values.{side_value}
use Rattle.symbol_equations.specs.Differences.{EquationAt, AreDifferences}
use Rattle.gauge_fix.specs.declared.inverse.InverseLabels.{InverseLabels}

abbrev pub matrix : InverseLabels → ℕ × ℕ × ℕ × ℕ
matrix at = (at.a, at.b, at.c, at.d)

-- both channels are rows, or both are columns
abbrev pub are_on : Side → Fusion → InverseLabels → Bool
are_on s r at = is_on s r (matrix at) at.channel && is_on s r (matrix at) at.other

-- F(a,b,c,d;e,f) G(a,b,c,d;f,e') for rows, and G(a,b,c,d;f,e) F(a,b,c,d;e,f') for columns
abbrev pub entry_product : Side → InverseLabels → ℕ → List Symbol
entry_product Rows at f = Fsym at.a at.b at.c at.d at.channel f ∷ Ginv at.a at.b at.c at.d f at.other ∷ []
entry_product Columns at e = Ginv at.a at.b at.c at.d at.channel e ∷ Fsym at.a at.b at.c at.d e at.other ∷ []

-- an entry of F times G, the sum over the columns, or one of G times F, the sum over the rows
abbrev pub entry_side : Side → Fusion → InverseLabels → List (List Symbol)
entry_side s r at = map (entry_product s at) (filter (is_on (opposite s) r (matrix at)) (below r.labels))

-- an entry of the identity: the empty product, which is 1, or the empty sum, which is 0
abbrev pub identity_side : InverseLabels → List (List Symbol)
identity_side at = if at.channel == at.other then [] ∷ [] else []

-- R(a,b,c) S(a,b,c) = 1
abbrev pub is_channel : Fusion → ℕ × ℕ × ℕ → Bool
is_channel r t = channel r t.0 t.1 t.2

abbrev pub braiding_side : ℕ × ℕ × ℕ → List (List Symbol)
braiding_side t = (Rsym t.0 t.1 t.2 ∷ Sinv t.0 t.1 t.2 ∷ []) ∷ []

abbrev pub one_side : ℕ × ℕ × ℕ → List (List Symbol)
one_side t = [] ∷ []

-- the inverses hold for all labels
pub record Inverses {E : Type 0} (q : Field E) (r : Fusion) (value : Symbol → E) : Type 0 where
  pub entries : (s : Side) (at : InverseLabels) → IsTrue (are_on s r at) → side_value q value (entry_side s r at) ≡ side_value q value (identity_side at)
  pub braiding : (t : ℕ × ℕ × ℕ) → IsTrue (is_channel r t) → side_value q value (braiding_side t) ≡ side_value q value (one_side t)

-- the sides of one of these equations
abbrev pub IsEntryEquation : Side → Fusion → List (List Symbol) → List (List Symbol) → Type 0
IsEntryEquation s r = EquationAt (λ at. IsTrue (are_on s r at)) (entry_side s r) identity_side

abbrev pub IsBraidingEquation : Fusion → List (List Symbol) → List (List Symbol) → Type 0
IsBraidingEquation r = EquationAt (λ t. IsTrue (is_channel r t)) braiding_side one_side

abbrev pub IsInverseEquation : Fusion → List (List Symbol) → List (List Symbol) → Type 0
IsInverseEquation r left right = IsEntryEquation Rows r left right ⊎ (IsEntryEquation Columns r left right ⊎ IsBraidingEquation r left right)

-- the polynomials are the differences of the inverses, in any order and any number of times
abbrev pub AreInverseDifferences : Fusion → List (List Term) → Type 0
AreInverseDifferences r ps = AreDifferences r (IsInverseEquation r) ps
