-- Steps of the comparison of two polynomials, and what their order says of their greatest variables.
use Rattle.std.specs.Prelude.{◌≡◌, ◌≢◌, ℕ, ◌<◌, ◌≤◌, List, [], ◌∷◌, slice_get, ℤ, pos, negsuc, zero, suc, if◌then◌else◌, nat_lt, refl}
use Rattle.std.proofs.Common.{arith, sym, ◌∙◌, ap, subst}
use Rattle.std.specs.List.{AllByRecursion}
use Rattle.std.proofs.lemmas.Bool.Decides.{nat_tests}
use Rattle.std.specs.declared.option.Option.TheVariants.{None, Some}
use Rattle.std.specs.declared.cmp.Ordering.{Ordering}
use Rattle.std.specs.declared.cmp.Ordering.TheVariants.{Less, Equal, Greater}
use Rattle.std.specs.Ordering.{nat_cmp, MatchOrdering, ordering_then}
use Rattle.std.proofs.lemmas.Cmp.{ranked}
use Rattle.monomial.specs.Monomials.{monomial_cmp, top}
use Rattle.sparse_poly.specs.declared.Term.{Term}
use Rattle.sparse_poly.specs.Polynomials.{constant}
use Rattle.sparse_poly.specs.Contributions.{higher, IsFalling, IsPoly}
use Rattle.sparse_poly.specs.Reads.{main_variable}
use Rattle.sparse_poly.proofs.Adding.{higher-None, higher-assoc}

-- a lower monomial has no greater variable
no_higher : (m n : List (ℕ × ℕ)) → monomial_cmp n m ≡ Less → higher (top m) (top n) ≡ top m
no_higher [] [] e = refl
no_higher [] (q ∷ qs) e = absurd (cc e)
no_higher (p ∷ ps) [] e = refl
no_higher (p ∷ ps) (q ∷ qs) e = first (nat_cmp q.0 p.0) (ranked q.0 p.0 (nat_cmp q.0 p.0) refl) e
  where
    kept : q.0 ≤ p.0 → Some (if nat_lt p.0 q.0 then q.0 else p.0) ≡ Some p.0
    kept l = grind (arith, nat_tests)

    first : (o : Ordering) → MatchOrdering o (q.0 < p.0) (q.0 ≡ p.0) (p.0 < q.0) → ordering_then (ordering_then o (nat_cmp q.1 p.1)) (monomial_cmp qs ps) ≡ Less → Some (if nat_lt p.0 q.0 then q.0 else p.0) ≡ Some p.0
    first Less m e = kept (omega arith)
    first Equal m e = kept (omega arith)
    first Greater m e = absurd (cc e)

higher_all : (t : Term) (ts : List Term) → AllByRecursion (λ (u : Term). monomial_cmp u.monomial t.monomial ≡ Less) ts → higher (top t.monomial) (main_variable ts) ≡ top t.monomial
higher_all t [] h = higher-None (top t.monomial)
higher_all t (u ∷ us) h =
    sym (higher-assoc (top t.monomial) (top u.monomial) (main_variable us)) ∙ ap (λ o. higher o (main_variable us)) (no_higher t.monomial u.monomial h.0) ∙ higher_all t us h.1

-- the greatest variable is that of the leading term
pub main_variable-leading : (t : Term) (ts : List Term) → IsFalling (t ∷ ts) → main_variable (t ∷ ts) ≡ top t.monomial
main_variable-leading t ts h = higher_all t ts h.0

pub main_of_first : (xs : List Term) (t : Term) → Some t ≡ slice_get xs 0 → IsFalling xs → top t.monomial ≡ main_variable xs
main_of_first [] t e h = absurd (cc e)
main_of_first (x ∷ xs) t e h = let same : t ≡ x = cc e in ap (λ (u : Term). top u.monomial) same ∙ sym (main_variable-leading x xs h)

-- the constant polynomial of a nonzero number
pub constant_is : (c : ℤ) → c ≢ pos 0 → constant c ≡ (let t : Term = record { monomial = []; coeff = c } in t) ∷ []
constant_is (pos zero) n = absurd (n refl)
constant_is (pos (suc k)) n = refl
constant_is (negsuc k) n = refl

no_top : (m : List (ℕ × ℕ)) → top m ≡ None → m ≡ []
no_top [] e = refl
no_top (p ∷ ps) e = absurd (cc e)

below_one : (ts : List Term) → AllByRecursion (λ (u : Term). monomial_cmp u.monomial [] ≡ Less) ts → ts ≡ []
below_one [] h = refl
below_one (t ∷ ts) h = absurd (never t.monomial h.0)
  where
    never : (m : List (ℕ × ℕ)) → monomial_cmp m [] ≡ Less → ⊥
    never [] e = cc e
    never (p ∷ ps) e = cc e

-- where the leading term has no variable, the polynomial is constant
pub constant_of_first : (xs : List Term) (t : Term) → Some t ≡ slice_get xs 0 → IsPoly xs → top t.monomial ≡ None → xs ≡ constant t.coeff
constant_of_first [] t e h n = absurd (cc e)
constant_of_first (x ∷ xs) t e h n =
    let same : t ≡ x = cc e in
    let one : x.monomial ≡ [] = no_top x.monomial (ap (λ (u : Term). top u.monomial) (sym same) ∙ n) in
    let rest : xs ≡ [] = below_one xs (subst (λ m. AllByRecursion (λ (u : Term). monomial_cmp u.monomial m ≡ Less) xs) one h.falling.0) in
    ap (λ ys. x ∷ ys) rest ∙ ap (λ y. y ∷ []) (ap (λ m. let u : Term = record { monomial = m; coeff = x.coeff } in u) one) ∙ sym (constant_is x.coeff h.apart.0) ∙ ap (λ (u : Term). constant u.coeff) (sym same)
