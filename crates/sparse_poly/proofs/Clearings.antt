-- What is divided out times the rest is the polynomial, and what is no unit by its strip is one exactly by its clearing.
use Rattle.std.specs.Prelude.{Bool, IsTrue, List, [], ◌∷◌, refl}
use mathlib.Core.Logic.{inl, inr}
use Rattle.std.proofs.Common.{sym, ◌∙◌, subst}
use Rattle.sparse_poly.specs.declared.Term.{Term}
use Rattle.sparse_poly.specs.Polynomials.{products, IsSum}
use Rattle.sparse_poly.specs.Contributions.{IsPoly}
use Rattle.sparse_poly.specs.Standing.{AllMonomials}
use Rattle.sparse_poly.specs.Units.{IsStripped, IsOneOrMember}
use Rattle.sparse_poly.specs.Clearing.{IsDividedOut, finished, passed, divided, IsCleared, IsUnit}
use Rattle.sparse_poly.proofs.OneQuotient.{one_strip, one_clearing}
use Rattle.sparse_poly.proofs.ProductSums.{ArePowers, moved_factor}

own_powers : (ts : List Term) → AllMonomials ts → ArePowers ts
own_powers [] h = tt
own_powers (t ∷ ts) h = (h.0.powers, own_powers ts h.1)

divided_polys : {units ns : List (List Term)} {a b e h : List Term} → IsPoly a → IsPoly b → IsDividedOut units ns a b e h → IsPoly e × IsPoly h
divided_polys p q finished = (p, q)
divided_polys p q (passed z r) = divided_polys p q r
divided_polys p q (divided v r) = divided_polys v.factor.poly v.quotient.poly r

divided_product : {units ns : List (List Term)} {a b e h : List Term} → IsPoly a → IsPoly b → IsDividedOut units ns a b e h → IsSum (products e h) (products a b)
divided_product p q finished m = refl
divided_product p q (passed z r) m = divided_product p q r m
divided_product p q (divided {n = n} {f = a} {g = b} {d = d} {k = k} v r) m =
    divided_product v.factor.poly v.quotient.poly r m
    ∙ moved_factor a b n d k (own_powers a p.monomials) (own_powers b q.monomials) (own_powers n v.in_form.poly.monomials) (own_powers k v.quotient.poly.monomials) v.factor.sums v.quotient.product.sums m

pub cleared_product : (units : List (List Term)) (p f r : List Term) → IsCleared units p f r → IsSum p (products f r)
cleared_product units p f r c m = c.stripped.product m ∙ sym (divided_product c.stripped.factor_poly c.stripped.rest_poly c.divided_out m)

pub cleared_polys : (units : List (List Term)) (p f r : List Term) → IsCleared units p f r → IsPoly f × IsPoly r
cleared_polys units p f r c = divided_polys c.stripped.factor_poly c.stripped.rest_poly c.divided_out

-- what is no unit by its strip is a unit exactly by its clearing
pub IsUnit-by_clearing : (units : List (List Term)) (p a b f r : List Term) (t : Bool) → IsPoly p → IsStripped units p a b → (IsOneOrMember units b → ⊥) → IsDividedOut units units a b f r → (IsTrue t → IsOneOrMember units r) × (IsOneOrMember units r → IsTrue t) → (IsTrue t → IsUnit units p) × (IsUnit units p → IsTrue t)
IsUnit-by_clearing units p a b f r t h s none d e = (λ i. inr (record { factor = f; rest = r; cleared = cleared; member = e.0 i }), λ u. either u)
  where
    cleared : IsCleared units p f r
    cleared = record { strip_factor = a; strip_rest = b; stripped = s; divided_out = d }

    either : IsUnit units p → IsTrue t
    either (inl u) = absurd (none (subst (IsOneOrMember units) (one_strip units p u.factor u.rest a b h u.stripped s).1 u.member))
    either (inr u) = e.1 (subst (IsOneOrMember units) (one_clearing units p u.factor u.rest f r h u.cleared cleared).1 u.member)
