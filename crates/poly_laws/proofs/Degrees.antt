-- The degree in a variable, and that contributions have powers.
use Rattle.std.specs.Prelude.{◌≡◌, ◌<◌, ◌≤◌, ℕ, max, List, [], ◌∷◌, ◌++◌}
use mathlib.Core.Logic.{◌⊎◌, inl, inr}
use Rattle.std.proofs.Common.{arith, ◌∙◌, subst}
use Rattle.std.proofs.lemmas.Bool.{cases_lt}
use Rattle.std.specs.List.{AllByRecursion, Contains}
use Rattle.monomial.specs.Monomials.{exponent, IsMonomial, IsPowers}
use Rattle.monomial.proofs.Exponents.{IsPowers-times}
use Rattle.sparse_poly.specs.declared.Term.{Term}
use Rattle.sparse_poly.specs.Polynomials.{row, products, negated}
use Rattle.sparse_poly.specs.Contributions.{contributions, IsPoly}
use Rattle.sparse_poly.specs.Reads.{degree_in}
use Rattle.poly_laws.specs.Terms.{HavePowers, HasExponent, IsGreatestExponent}
use Rattle.poly_laws.proofs.Members.{first_member, later_member, member_cases, no_member}

-- the greater of two numbers
max_first : (a b : ℕ) → a ≤ max a b
max_first a b = omega arith

max_second : (a b : ℕ) → b ≤ max a b
max_second a b = omega arith

max_cases : (a b : ℕ) → (a ≡ max a b) ⊎ (b ≡ max a b)
max_cases a b = each (cases_lt a b)
  where
    each : (a < b) ⊎ (b ≤ a) → (a ≡ max a b) ⊎ (b ≡ max a b)
    each (inl l) = inr (omega arith)
    each (inr l) = inl (omega arith)

own_degree : (v : ℕ) (p : List Term) → IsGreatestExponent v p (degree_in v p)
own_degree v [] = record { within = λ t m. absurd (no_member t m); met = λ l. absurd (omega (arith, l)) }
own_degree v (t ∷ ts) = more (own_degree v ts)
  where
    more : IsGreatestExponent v ts (degree_in v ts) → IsGreatestExponent v (t ∷ ts) (degree_in v (t ∷ ts))
    more g = record {
      within = λ u m. each u (member_cases t u ts m);
      met = λ l. met_in l (max_cases (exponent t.monomial v) (degree_in v ts));
    }
      where
        each : (u : Term) → (t ≡ u) ⊎ Contains ts u → exponent u.monomial v ≤ degree_in v (t ∷ ts)
        each u (inl e) = subst (λ (x : Term). exponent x.monomial v ≤ degree_in v (t ∷ ts)) e (max_first (exponent t.monomial v) (degree_in v ts))
        each u (inr m) = omega (arith, g.within u m, max_second (exponent t.monomial v) (degree_in v ts))

        later : degree_in v ts ≡ degree_in v (t ∷ ts) → HasExponent v ts (degree_in v ts) → HasExponent v (t ∷ ts) (degree_in v (t ∷ ts))
        later e h = record { term = h.term; member = later_member t h.term ts h.member; same = h.same ∙ e }

        met_in : 0 < degree_in v (t ∷ ts) → (exponent t.monomial v ≡ degree_in v (t ∷ ts)) ⊎ (degree_in v ts ≡ degree_in v (t ∷ ts)) → HasExponent v (t ∷ ts) (degree_in v (t ∷ ts))
        met_in l (inl e) = record { term = t; member = first_member t ts; same = e }
        met_in l (inr e) = later e (g.met (omega (arith, l, e)))

pub degree-is : (v : ℕ) (p : List Term) (d : ℕ) → degree_in v p ≡ d → IsGreatestExponent v p d
degree-is v p d e = subst (IsGreatestExponent v p) e (own_degree v p)

not_above : (v : ℕ) (p : List Term) (d e : ℕ) → IsGreatestExponent v p d → IsGreatestExponent v p e → d ≤ e
not_above v p d e g h = each (cases_lt 0 d)
  where
    found : HasExponent v p d → d ≤ e
    found x = omega (arith, x.same, h.within x.term x.member)

    each : (0 < d) ⊎ (d ≤ 0) → d ≤ e
    each (inl l) = found (g.met l)
    each (inr l) = omega (arith, l)

pub is-degree : (v : ℕ) (p : List Term) (d : ℕ) → IsGreatestExponent v p d → degree_in v p ≡ d
is-degree v p d g = omega (arith, not_above v p d (degree_in v p) g (own_degree v p), not_above v p (degree_in v p) d (own_degree v p) g)

-- contributions have powers
pub poly_powers : (p : List Term) → AllByRecursion (λ (t : Term). IsMonomial t.monomial) p → HavePowers p
poly_powers [] h = tt
poly_powers (t ∷ ts) h = (h.0.powers, poly_powers ts h.1)

both_powers : (cs ds : List Term) → HavePowers cs → HavePowers ds → HavePowers (cs ++ ds)
both_powers [] ds h i = i
both_powers (c ∷ cs) ds h i = (h.0, both_powers cs ds h.1 i)

row_powers : (t : Term) (us : List Term) → IsPowers t.monomial → HavePowers us → HavePowers (row t us)
row_powers t [] h i = tt
row_powers t (u ∷ us) h i = (IsPowers-times t.monomial u.monomial h i.0, row_powers t us h i.1)

product_powers : (ts us : List Term) → HavePowers ts → HavePowers us → HavePowers (products ts us)
product_powers [] us h i = tt
product_powers (t ∷ ts) us h i = both_powers (row t us) (products ts us) (row_powers t us h.0 i) (product_powers ts us h.1 i)

negated_powers : (ts : List Term) → HavePowers ts → HavePowers (negated ts)
negated_powers [] h = tt
negated_powers (t ∷ ts) h = (h.0, negated_powers ts h.1)

pub combination_powers : (l q a p : List Term) → IsPoly l → IsPoly q → IsPoly a → IsPoly p → HavePowers (contributions l q a p)
combination_powers l q a p h i j k =
    both_powers (products l q) (negated (products a p)) (product_powers l q (poly_powers l h.monomials) (poly_powers q i.monomials)) (negated_powers (products a p) (product_powers a p (poly_powers a j.monomials) (poly_powers p k.monomials)))
