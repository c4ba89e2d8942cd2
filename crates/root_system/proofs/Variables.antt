-- The variables of the differences of a problem, and of their primitive parts, are its unknowns.
use Rattle.std.specs.Prelude.{◌≡◌, ◌≢◌, ◌<◌, ℕ, Bool, true, false, if◌then◌else◌, ℤ, pos, negsuc, zero, suc, ◌+ℤ◌, List, [], ◌∷◌, ◌++◌, All, Contains, length, refl}
use Rattle.std.proofs.Common.{sym, ◌∙◌, ap, subst, inl, inr}
use Rattle.std.specs.List.{AllByRecursion}
use Rattle.std.specs.FinMap.Entries.{by_order}
use Rattle.std.specs.Ordering.{nat_cmp}
use Rattle.std.specs.declared.cmp.Ordering.{Ordering}
use Rattle.std.specs.declared.cmp.Ordering.TheVariants.{Less, Equal, Greater}
use Rattle.std.proofs.lemmas.List.Elements.{Contains-append_cases, All-weaker, All-contains_itself}
use Rattle.monomial.specs.Monomials.{monomial_cmp, monomial_times}
use Rattle.sparse_poly.specs.declared.Term.{Term}
use Rattle.sparse_poly.specs.Polynomials.{coefficient, is_of, products, row, negated, constant, scaled, IsSum}
use Rattle.sparse_poly.specs.Contributions.{IsPoly, IsFalling}
use Rattle.sparse_poly.proofs.Evaluation.{is_of-same, zero_plus}
use Rattle.sparse_poly.proofs.Same.{coefficient_above, coefficient_leading}
use Rattle.sparse_poly.specs.Primitive.{IsPrimitivePart}
use Rattle.fusion_ring.specs.Fusion.{Fusion}
use Rattle.symbol_index.specs.declared.Symbol.{Symbol}
use Rattle.symbol_index.specs.declared.Standing.{Standing}
use Rattle.symbol_index.specs.declared.Standing.TheVariants.{Unit as unit_symbol, Unknown, NotAdmissible}
use Rattle.symbol_index.specs.declared.GaugeEntry.{GaugeEntry}
use Rattle.symbol_index.specs.Symbols.{standing, unknowns}
use Rattle.symbol_index.proofs.Standings.{standing_below}
use Rattle.symbol_equations.specs.Differences.{standing_terms, symbol_terms, product_terms, side_terms, IsDifference, AreDifferences}
use Rattle.pentagon_gen.specs.Differences.{IsPentagonEquation}
use Rattle.hexagon_gen.specs.Differences.{IsHexagonEquation}
use Rattle.gauge_fix.specs.Inverses.{IsInverseEquation}
use Rattle.gauge_fix.specs.Gauge.{IsGaugeDifference}
use Rattle.ring_file.specs.Problems.{Stated}
use Rattle.sparse_poly.specs.Reads.{HasVariablesBelow}
use Rattle.root_system.specs.Forms.{IsRootEquation}
use Rattle.root_system.specs.Root.{AreDifferencesOf, AreRootEquations}

module _ (n : ℕ) where
  abbrev Below : List (ℕ × ℕ) → Type 0
  Below m = AllByRecursion (λ (q : ℕ × ℕ). q.0 < n) m

  -- ---- the contributions

  ordered : (o : Ordering) (a b c : List (ℕ × ℕ)) → Below a → Below b → Below c → Below (by_order o a b c)
  ordered Less a b c p q r = p
  ordered Equal a b c p q r = q
  ordered Greater a b c p q r = r

  times_below : (a b : List (ℕ × ℕ)) → Below a → Below b → Below (monomial_times a b)
  times_below [] b p q = q
  times_below (x ∷ a) [] p q = p
  times_below (x ∷ a) (y ∷ b) p q =
      ordered (nat_cmp x.0 y.0) _ _ _ (q.0, times_below (x ∷ a) b p q.1) (p.0, times_below a b p.1 q.1) (p.0, times_below a (y ∷ b) p.1 q)

  append_below : (ts us : List Term) → HasVariablesBelow n ts → HasVariablesBelow n us → HasVariablesBelow n (ts ++ us)
  append_below [] us p q = q
  append_below (t ∷ ts) us p q = (p.0, append_below ts us p.1 q)

  negated_below : (ts : List Term) → HasVariablesBelow n ts → HasVariablesBelow n (negated ts)
  negated_below [] p = tt
  negated_below (t ∷ ts) p = (p.0, negated_below ts p.1)

  row_below : (t : Term) (us : List Term) → Below t.monomial → HasVariablesBelow n us → HasVariablesBelow n (row t us)
  row_below t [] p q = tt
  row_below t (u ∷ us) p q = (times_below t.monomial u.monomial p q.0, row_below t us p q.1)

  products_below : (ts us : List Term) → HasVariablesBelow n ts → HasVariablesBelow n us → HasVariablesBelow n (products ts us)
  products_below [] us p q = tt
  products_below (t ∷ ts) us p q = append_below (row t us) (products ts us) (row_below t us p.0 q) (products_below ts us p.1 q)

  constant_below : (v : ℤ) → HasVariablesBelow n (constant v)
  constant_below (pos zero) = tt
  constant_below (pos (suc v)) = (tt, tt)
  constant_below (negsuc v) = (tt, tt)

  module _ (r : Fusion) (numbered : (s : Symbol) (i : ℕ) → standing r s ≡ Unknown i → i < n) where
    terms_below : (s : Symbol) (st : Standing) → standing r s ≡ st → HasVariablesBelow n (standing_terms st)
    terms_below s unit_symbol e = (tt, tt)
    terms_below s (Unknown i) e = ((numbered s i e, tt), tt)
    terms_below s NotAdmissible e = tt

    symbol_below : (s : Symbol) → HasVariablesBelow n (symbol_terms r s)
    symbol_below s = terms_below s (standing r s) refl

    product_below : (ss : List Symbol) → HasVariablesBelow n (product_terms r ss)
    product_below [] = (tt, tt)
    product_below (s ∷ ss) = products_below (symbol_terms r s) (product_terms r ss) (symbol_below s) (product_below ss)

    side_below : (side : List (List Symbol)) → HasVariablesBelow n (side_terms r side)
    side_below [] = tt
    side_below (ss ∷ side) = append_below (product_terms r ss) (side_terms r side) (product_below ss) (side_below side)

  -- ---- what they add up to

  -- a monomial with a coefficient is that of a contribution
  first_or_later : (t : Term) (ts : List Term) (m : List (ℕ × ℕ)) (b : Bool) → is_of m t ≡ b → Below t.monomial → (coefficient ts m ≢ pos 0 → Below m) → coefficient (t ∷ ts) m ≢ pos 0 → Below m
  first_or_later t ts m true e h later a = subst Below (sym (is_of-same m t e)) h
  first_or_later t ts m false e h later a = later (λ z. a (ap (λ b. (if b then t.coeff else pos 0) +ℤ coefficient ts m) e ∙ zero_plus (coefficient ts m) ∙ z))

  from_contribution : (cs : List Term) (m : List (ℕ × ℕ)) → HasVariablesBelow n cs → coefficient cs m ≢ pos 0 → Below m
  from_contribution [] m h a = absurd (a refl)
  from_contribution (t ∷ ts) m h a = first_or_later t ts m (is_of m t) refl h.0 (from_contribution ts m h.1) a

  -- the monomials of a polynomial have coefficients
  later_coefficient : (t : Term) (ts : List Term) (m : List (ℕ × ℕ)) (b : Bool) → is_of m t ≡ b → AllByRecursion (λ (u : Term). monomial_cmp u.monomial t.monomial ≡ Less) ts → coefficient ts m ≢ pos 0 → coefficient (t ∷ ts) m ≢ pos 0
  later_coefficient t ts m true e h a z = a (ap (coefficient ts) (is_of-same m t e) ∙ coefficient_above t.monomial ts h)
  later_coefficient t ts m false e h a z = a (sym (ap (λ b. (if b then t.coeff else pos 0) +ℤ coefficient ts m) e ∙ zero_plus (coefficient ts m)) ∙ z)

  poly_below : (p : List Term) → IsFalling p → AllByRecursion (λ (t : Term). t.coeff ≢ pos 0) p → ((m : List (ℕ × ℕ)) → coefficient p m ≢ pos 0 → Below m) → HasVariablesBelow n p
  poly_below [] f a h = tt
  poly_below (t ∷ ts) f a h = (
    h t.monomial (λ z. a.0 (sym (coefficient_leading t ts f.0) ∙ z)),
    poly_below ts f.1 a.1 (λ m c. h m (later_coefficient t ts m (is_of m t) refl f.0 c)),
  )

  sum_below : (p cs : List Term) → IsPoly p → IsSum p cs → HasVariablesBelow n cs → HasVariablesBelow n p
  sum_below p cs h s c = poly_below p h.falling h.apart (λ m a. from_contribution cs m c (λ z. a (s m ∙ z)))

  scaled_below : (k : ℤ) (q : List Term) → HasVariablesBelow n (scaled k q) → HasVariablesBelow n q
  scaled_below k [] h = tt
  scaled_below k (t ∷ ts) h = (h.0, scaled_below k ts h.1)

  pub part_below : (p q : List Term) → IsPrimitivePart p q → HasVariablesBelow n p → HasVariablesBelow n q
  part_below p q i h = scaled_below i.content q (subst (HasVariablesBelow n) (sym i.product) h)

-- ---- the differences of a problem
module _ (p : Stated) where
  abbrev count : ℕ
  count = length (unknowns p.ring)

  sides_below : (left right : List (List Symbol)) (d : List Term) → IsDifference p.ring left right d → HasVariablesBelow count d
  sides_below left right d i =
      sum_below count d _ i.0 i.1
      (append_below count (side_terms p.ring left) (negated (side_terms p.ring right)) (side_below count p.ring (standing_below p.ring) left) (negated_below count _ (side_below count p.ring (standing_below p.ring) right)))

  gauge_below : (e : GaugeEntry) (d : List Term) → IsGaugeDifference p.ring e d → HasVariablesBelow count d
  gauge_below e d i =
      sum_below count d _ i.0 i.1
      (append_below count (symbol_terms p.ring e.symbol) (negated (constant e.value)) (symbol_below count p.ring (standing_below p.ring) e.symbol) (negated_below count _ (constant_below count e.value)))

  equations_below : (IsEquation : List (List Symbol) → List (List Symbol) → Type 0) (ds : List (List Term)) → AreDifferences p.ring IsEquation ds → (d : List Term) → Contains ds d → HasVariablesBelow count d
  equations_below IsEquation ds are d c = let i = are.each d c in sides_below i.0 i.1 d i.3

  pub differences_below : (ds : List (List Term)) → AreDifferencesOf p ds → (d : List Term) → Contains ds d → HasVariablesBelow count d
  differences_below ds are d c =
      elim (Contains-append_cases (are.pentagons ++ are.hexagons ++ are.inverses) are.gauges d (subst (λ l. Contains l d) are.all c)) [
        | inr g ↦ let i = are.are_gauges.each d g in gauge_below i.0 d i.2
        | inl three ↦ elim (Contains-append_cases (are.pentagons ++ are.hexagons) are.inverses d three) [
          | inr i ↦ equations_below (IsInverseEquation p.ring) are.inverses are.are_inverses d i
          | inl two ↦ elim (Contains-append_cases are.pentagons are.hexagons d two) [
            | inr h ↦ equations_below (IsHexagonEquation p.ring) are.hexagons are.are_hexagons d h
            | inl e ↦ equations_below (IsPentagonEquation p.ring) are.pentagons are.are_pentagons d e
          ]
        ]
      ]

  -- each root equation is primitive and not zero, and its variables are unknowns
  pub root_equation : (qs : List (List Term)) → AreRootEquations p qs → All (IsRootEquation count) qs
  root_equation qs are =
      All-weaker (Contains qs) (IsRootEquation count)
      (λ q c.
      let i = are.are_parts.each q c in
      record { nonzero = i.nonzero; primitive = i.part.primitive; below = part_below count i.poly q i.part (differences_below are.differences are.are_differences i.poly i.is) }) qs (All-contains_itself qs)
