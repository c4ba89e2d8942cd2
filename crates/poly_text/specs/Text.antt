-- The text of a polynomial.
use Rattle.std.specs.Prelude.{ℕ, ◌==◌, if◌then◌else◌, ℤ, pos, negsuc, nat_abs, List, [], ◌∷◌, ◌++◌, decimal, codes}
use Rattle.sparse_poly.specs.declared.Term.{Term}

-- a variable, with its exponent where that is 2 or more
abbrev pub factor_text : ℕ × ℕ → List ℕ
factor_text p = codes "x" ++ decimal p.0 ++ (if p.1 == 1 then [] else codes "^" ++ decimal p.1)

abbrev pub more_factors : List (ℕ × ℕ) → List ℕ
more_factors [] = []
more_factors (p ∷ ps) = codes "*" ++ factor_text p ++ more_factors ps

-- a coefficient's absolute value and its monomial
abbrev pub body_text : ℕ → List (ℕ × ℕ) → List ℕ
body_text n [] = decimal n
body_text n (p ∷ ps) = (if n == 1 then [] else decimal n ++ codes "*") ++ factor_text p ++ more_factors ps

abbrev pub sign_text : List ℕ → ℤ → List ℕ
sign_text plus (pos n) = plus
sign_text plus (negsuc n) = codes "-"

abbrev pub term_text : List ℕ → Term → List ℕ
term_text plus t = sign_text plus t.coeff ++ body_text (nat_abs t.coeff) t.monomial

abbrev pub more_terms : List Term → List ℕ
more_terms [] = []
more_terms (t ∷ ts) = term_text (codes "+") t ++ more_terms ts

abbrev pub poly_text : List Term → List ℕ
poly_text [] = codes "0"
poly_text (t ∷ ts) = term_text [] t ++ more_terms ts
