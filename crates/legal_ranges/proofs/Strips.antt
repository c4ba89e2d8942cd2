-- The factor and the rest of a strip and of a clearing have their variables below n where those of the polynomial are.
use Rattle.std.specs.Prelude.{◌≡◌, ◌≢◌, ℕ, pos, List, [], ◌∷◌, refl}
use Rattle.std.proofs.Common.{sym, subst}
use Rattle.sparse_poly.specs.declared.Term.{Term}
use Rattle.sparse_poly.specs.Polynomials.{products}
use Rattle.sparse_poly.specs.Contributions.{IsPoly}
use Rattle.sparse_poly.specs.Units.{IsStripped}
use Rattle.sparse_poly.specs.Clearing.{DividesOpenly, IsDividedOut, finished, passed, divided, IsCleared}
use Rattle.sparse_poly.proofs.Strips.{no_row, row_of_stripped}
use Rattle.case_rules.proofs.Regular.{no_terms}
use Rattle.sparse_poly.specs.Reads.{HasVariablesBelow}
use Rattle.legal_ranges.proofs.Contributions.{constant_below, products_below, sum_below}
use Rattle.legal_ranges.proofs.Factors.{product_below}

-- the rest of zero
zero_rest : (units : List (List Term)) (f r : List Term) → IsStripped units [] f r → r ≡ []
zero_rest units [] r s = absurd s.out
zero_rest units (t ∷ []) r s = no_row t r (row_of_stripped units [] t r no_terms s)
zero_rest units (t ∷ u ∷ us) r s = absurd s.out

module _ (n : ℕ) where
  -- a polynomial with its variables below n
  pub record IsPolyBelow (p : List Term) : Type 0 where
    pub poly : IsPoly p
    pub below : HasVariablesBelow n p

  pub record ArePolysBelow (p q : List Term) : Type 0 where
    pub factor : IsPolyBelow p
    pub rest : IsPolyBelow q

  pub stripped_below : (units : List (List Term)) (p f r : List Term) → IsPolyBelow p → IsStripped units p f r → ArePolysBelow f r
  stripped_below units [] f r h s = record {
    factor = record { poly = s.factor_poly; below = subst (HasVariablesBelow n) (sym (s.zero_factor refl)) (constant_below n (pos 1)) };
    rest = record { poly = s.rest_poly; below = subst (HasVariablesBelow n) (sym (zero_rest units f r s)) tt };
  }
  stripped_below units (t ∷ ts) f r h s =
      let both = product_below n (t ∷ ts) f r h.poly (λ e. cc e) s.factor_poly s.rest_poly s.product h.below in
      record { factor = record { poly = s.factor_poly; below = both.0 }; rest = record { poly = s.rest_poly; below = both.1 } }

  -- what divides openly, and the quotient
  pub quotient_below : (d p g : List Term) → IsPolyBelow p → p ≢ [] → IsPoly d → DividesOpenly d p g → ArePolysBelow d g
  quotient_below d p g h z i q =
      let both = product_below n p g d h.poly z q.poly i q.product.sums h.below in
      record { factor = record { poly = i; below = both.1 }; rest = record { poly = q.poly; below = both.0 } }

  divided_below : {units ns : List (List Term)} {f g e h : List Term} → IsPolyBelow f → IsPolyBelow g → IsDividedOut units ns f g e h → ArePolysBelow e h
  divided_below i j finished = record { factor = i; rest = j }
  divided_below i j (passed none rest) = divided_below i j rest
  divided_below i j (divided {n = m} {f = f} {g = g} {d = d} {k = k} once rest) =
      let both = quotient_below m g k j once.nonzero once.in_form.poly once.quotient in
      let factor : IsPolyBelow d = record { poly = once.factor.poly; below = sum_below n d (products f m) once.factor.poly once.factor.sums (products_below n f m i.below both.factor.below) } in
      divided_below factor both.rest rest

  pub cleared_below : (units : List (List Term)) (p f r : List Term) → IsPolyBelow p → IsCleared units p f r → ArePolysBelow f r
  cleared_below units p f r h c =
      let strip = stripped_below units p c.strip_factor c.strip_rest h c.stripped in
      divided_below strip.factor strip.rest c.divided_out
