-- The difference of both sides of an equation between sums of products of symbols, as a polynomial in the unknowns.
use Rattle.std.specs.Prelude.{◌≡◌, ℕ, Bool, if◌then◌else◌, Option, Some, None, Result, IfOk, pos, List, [], ◌∷◌, ◌++◌, map, filter, flat_map, Contains}
use Rattle.std.specs.declared.alloc.AllocError.{AllocError}
use Rattle.label_tuples.specs.Extended.{below}
use Rattle.sparse_poly.specs.declared.Term.{Term}
use Rattle.sparse_poly.specs.Polynomials.{products, negated, IsSum}
use Rattle.sparse_poly.specs.Contributions.{IsPoly}
use Rattle.fusion_ring.specs.Fusion.{Fusion}
use Rattle.symbol_index.specs.declared.Symbol.{Symbol}
use Rattle.symbol_index.specs.declared.Standing.{Standing}
use Rattle.symbol_index.specs.declared.Standing.TheVariants.{Unit as unit_symbol, Unknown, NotAdmissible}
use Rattle.symbol_index.specs.Symbols.{standing}

-- the polynomial 1
abbrev pub one_terms : List Term
one_terms = record { monomial = []; coeff = pos 1 } ∷ []

-- 1, an unknown, or 0
abbrev pub standing_terms : Standing → List Term
standing_terms unit_symbol = one_terms
standing_terms (Unknown i) = record { monomial = (i, 1) ∷ []; coeff = pos 1 } ∷ []
standing_terms NotAdmissible = []

-- a symbol as a polynomial
abbrev pub symbol_terms : Fusion → Symbol → List Term
symbol_terms r s = standing_terms (standing r s)

-- the contributions to a product of symbols, and to a sum of such products
abbrev pub product_terms : Fusion → List Symbol → List Term
product_terms r [] = one_terms
product_terms r (s ∷ ss) = products (symbol_terms r s) (product_terms r ss)

abbrev pub side_terms : Fusion → List (List Symbol) → List Term
side_terms r side = flat_map (product_terms r) side

-- p is the left side minus the right side, as a polynomial
abbrev pub IsDifference : Fusion → List (List Symbol) → List (List Symbol) → List Term → Type 0
IsDifference r left right p = IsPoly p × IsSum p (side_terms r left ++ negated (side_terms r right))

-- the equations at the labels of which `Is` speaks
abbrev pub EquationAt : {L : Type 0} → (L → Type 0) → (L → List (List Symbol)) → (L → List (List Symbol)) → List (List Symbol) → List (List Symbol) → Type 0
EquationAt {L} Is left_at right_at left right = (at : L) × Is at × (left ≡ left_at at) × (right ≡ right_at at)

-- the polynomials are the differences of these equations, in any order and any number of times: each is one, and each equation has one
pub record AreDifferences (r : Fusion) (IsEquation : List (List Symbol) → List (List Symbol) → Type 0) (ps : List (List Term)) : Type 0 where
  pub each : (p : List Term) → Contains ps p → (left : List (List Symbol)) × (right : List (List Symbol)) × IsEquation left right × IsDifference r left right p
  pub all : (left right : List (List Symbol)) → IsEquation left right → (p : List Term) × Contains ps p × IsDifference r left right p

-- where the answer at a label is its product if it passes the test, and else none
abbrev pub MakesSummands : (ℕ → Result (Option (List Symbol)) AllocError → Type 0) → (ℕ → List Symbol) → (ℕ → Bool) → Type 0
MakesSummands answers make test = (label : ℕ) (o : Result (Option (List Symbol)) AllocError) → answers label o → IfOk o (λ s. s ≡ (if test label then Some (make label) else None))

-- the products are those at the labels below n that pass the test, as the answers make them
abbrev pub AreTheirSummands : (ℕ → Result (Option (List Symbol)) AllocError → Type 0) → ℕ → List (List Symbol) → Type 0
AreTheirSummands answers n products = (make : ℕ → List Symbol) (test : ℕ → Bool) → MakesSummands answers make test → products ≡ map make (filter test (below n))

-- where the answers at a label are its sides
abbrev pub MakesSides : {L : Type 0} → (L → Result (List (List Symbol) × List (List Symbol)) AllocError → Type 0) → (L → List (List Symbol)) → (L → List (List Symbol)) → Type 0
MakesSides {L} answers left_at right_at = (at : L) (o : Result (List (List Symbol) × List (List Symbol)) AllocError) → answers at o → IfOk o (λ s. s ≡ (left_at at, right_at at))

-- the polynomials are the differences of the equations at these labels, whose sides the answers are
abbrev pub AreTheirDifferences : {L : Type 0} → Fusion → (L → Result (List (List Symbol) × List (List Symbol)) AllocError → Type 0) → List L → List (List Term) → Type 0
AreTheirDifferences {L} r answers ats ps = (left_at right_at : L → List (List Symbol)) → MakesSides answers left_at right_at → AreDifferences r (EquationAt (Contains ats) left_at right_at) ps
