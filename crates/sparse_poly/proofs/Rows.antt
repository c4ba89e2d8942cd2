-- The contributions that are handed in, and the sum of two polynomials.
use Rattle.std.specs.Prelude.{◌≡◌, ◌<◌, ℕ, zero, suc, ◌+◌, ℤ, pos, negsuc, neg_ℤ, ◌+ℤ◌, ◌*ℤ◌, unsigned_abs, List, [], ◌∷◌, ◌++◌, length, slice_index_or, refl}
use mathlib.Core.Logic.{inl}
use Rattle.std.proofs.Common.{arith, sym, ◌∙◌, ap, subst}
use Rattle.std.proofs.lemmas.Int.{ints}
use Rattle.std.proofs.lemmas.List.{append-nil}
use Rattle.std.specs.List.{AllByRecursion}
use Rattle.std.specs.declared.option.Option.TheVariants.{None}
use Rattle.monomial.specs.Monomials.{IsMonomial}
use Rattle.monomial.proofs.Exponents.{too_high-IsMonomial}
use Rattle.sparse_poly.specs.declared.Term.{Term}
use Rattle.sparse_poly.specs.declared.entry.Share.{Share}
use Rattle.sparse_poly.specs.declared.PolyFault.{PolyFault}
use Rattle.sparse_poly.specs.declared.PolyFault.TheVariants.{Degree, Heavy, OutOfMemory}
use Rattle.sparse_poly.specs.Polynomials.{coefficient, weight, row, products, negated}
use Rattle.sparse_poly.specs.Contributions.{higher, degree_of, contributions, IsFalling, IsFault, IsNoDegree}
use Rattle.sparse_poly.specs.Standing.{ssum, sweight, Agree, IsDescending, AllMonomials, IsMerged}
use Rattle.sparse_poly.proofs.Adding.{degree_of-append, higher-None}
use Rattle.sparse_poly.proofs.Evaluation.{coefficient-append, weight-append}
use Rattle.sparse_poly.proofs.Sums.{ssum-append, sweight-append}
use Rattle.sparse_poly.proofs.Standings.{agree_plus, agree_through, same_agrees, Stands-one}
use Rattle.sparse_poly.proofs.Descending.{all_front, all_back}

pub all_at : (P : Term → Type 0) (us : List Term) (k : ℕ) (u : Term) → k < length us → u ≡ slice_index_or us k u → AllByRecursion P us → P u
all_at P [] k u l e h = absurd (omega arith)
all_at P (x ∷ xs) zero u l e h = subst P (sym e) h.0
all_at P (x ∷ xs) (suc k) u l e h = all_at P xs k u (omega arith) e h.1

-- contributions that are handed in: some are shares, and the others are left
pub record Gathered (cs rest : List Term) (ss : List Share) : Type 0 where
  pub sums : (m : List (ℕ × ℕ)) → Agree (sweight ss m + weight rest m) (ssum ss m +ℤ coefficient rest m) (weight cs m) (coefficient cs m)
  pub degree : degree_of cs ≡ degree_of rest

pub Gathered-more : (cs rest left : List Term) (ss zs : List Share) (t : Term) (s : Share) → Gathered cs rest ss → rest ≡ left ++ t ∷ [] → zs ≡ ss ++ s ∷ [] → s.monomial ≡ t.monomial → Agree s.weight s.sum (unsigned_abs t.coeff) t.coeff → IsMonomial t.monomial → Gathered cs left zs
Gathered-more cs rest left ss zs t s g e f i a h = record {
  sums = λ m. agree_through _ _ _ _ _ _
      (same_agrees _ _ _ _ (ap (λ xs. sweight xs m + weight left m) f ∙ ap (λ n. n + weight left m) (sweight-append m ss (s ∷ [])) ∙ turned (sweight ss m) (sweight (s ∷ []) m) (weight left m))
      (ap (λ xs. ssum xs m +ℤ coefficient left m) f ∙ ap (λ n. n +ℤ coefficient left m) (ssum-append m ss (s ∷ [])) ∙ turned_sum (ssum ss m) (ssum (s ∷ []) m) (coefficient left m)))
      (agree_through _ _ _ _ _ _
      (agree_plus _ _ _ _ _ _ _ _ (inl (refl, refl)) (agree_plus _ _ _ _ _ _ _ _ (inl (refl, refl)) (Stands-one s t i a m)))
      (agree_through _ _ _ _ _ _
      (same_agrees _ _ _ _ (ap (λ n. sweight ss m + n) (sym (ap (λ xs. weight xs m) e ∙ weight-append m left (t ∷ []))))
      (ap (λ n. ssum ss m +ℤ n) (sym (ap (λ xs. coefficient xs m) e ∙ coefficient-append m left (t ∷ [])))))
      (g.sums m)));
  degree = g.degree ∙ ap degree_of e ∙ degree_of-append left (t ∷ []) ∙ ap (λ o. higher (degree_of left) (higher o None)) (too_high-IsMonomial t.monomial h) ∙ higher-None (degree_of left);
}
  where
    turned : (a b c : ℕ) → (a + b) + c ≡ a + (c + b)
    turned a b c = omega arith

    turned_sum : (a b c : ℤ) → (a +ℤ b) +ℤ c ≡ a +ℤ (c +ℤ b)
    turned_sum a b c = omega (arith, ints)

-- a polynomial is the row of the term 1 with it
row_one : (ps : List Term) → row (record { monomial = []; coeff = pos 1 }) ps ≡ ps
row_one [] = refl
row_one (p ∷ ps) = ap (λ c. (let t : Term = record { monomial = p.monomial; coeff = c } in t) ∷ row (record { monomial = []; coeff = pos 1 }) ps) (once p.coeff) ∙ ap (λ ts. p ∷ ts) (row_one ps)
  where
    once : (z : ℤ) → pos 1 *ℤ z ≡ z
    once z = omega (arith, ints)

row_minus_one : (ps : List Term) → negated (row (record { monomial = []; coeff = negsuc 0 }) ps) ≡ ps
row_minus_one [] = refl
row_minus_one (p ∷ ps) = ap (λ c. (let t : Term = record { monomial = p.monomial; coeff = c } in t) ∷ negated (row (record { monomial = []; coeff = negsuc 0 }) ps)) (twice p.coeff) ∙ ap (λ ts. p ∷ ts) (row_minus_one ps)
  where
    twice : (z : ℤ) → neg_ℤ (negsuc 0 *ℤ z) ≡ z
    twice z = omega (arith, ints)

pub degree_of-monomials : (ps : List Term) → AllMonomials ps → degree_of ps ≡ None
degree_of-monomials [] h = refl
degree_of-monomials (p ∷ ps) h = ap (λ o. higher o (degree_of ps)) (too_high-IsMonomial p.monomial h.0) ∙ degree_of-monomials ps h.1

-- a product with 1
pub Agree-once : (w : ℕ) (z c : ℤ) → Agree w z (unsigned_abs (c *ℤ pos 1)) (c *ℤ pos 1) → Agree w z (unsigned_abs c) c
Agree-once w z c a = subst (λ y. Agree w z (unsigned_abs y) y) (once c) a
  where
    once : (z : ℤ) → z *ℤ pos 1 ≡ z
    once z = omega (arith, ints)

-- the rows of two parts of a list of terms, merged
pub halves_order : (ts us xs ys : List Term) (fs bs zs : List Share) → ts ≡ xs ++ ys → (AllMonomials xs → AllMonomials us → IsFalling us → IsDescending fs) → (AllMonomials ys → AllMonomials us → IsFalling us → IsDescending bs) → IsMerged fs bs zs → AllMonomials ts → AllMonomials us → IsFalling us → IsDescending zs
halves_order ts us xs ys fs bs zs e f b m h i o =
    let both : AllMonomials (xs ++ ys) = subst AllMonomials e h in
    m.falling (f (all_front _ xs ys both) i o) (b (all_back _ xs ys both) i o)

-- the degree of a sum of two polynomials
pub degree_of-sum : (ps qs : List Term) → AllMonomials ps → AllMonomials qs → degree_of (ps ++ qs) ≡ None
degree_of-sum ps qs h i = degree_of-append ps qs ∙ ap (λ o. higher o (degree_of qs)) (degree_of-monomials ps h) ∙ degree_of-monomials qs i

-- its contributions: one times the first polynomial, less minus one times the second
pub sum_contributions : (one minus : Term) (ps qs : List Term) → one ≡ record { monomial = []; coeff = pos 1 } → minus ≡ record { monomial = []; coeff = negsuc 0 } → contributions (one ∷ []) ps (minus ∷ []) qs ≡ ps ++ qs
sum_contributions one minus ps qs e f =
    ap (λ t. products (t ∷ []) ps ++ negated (products (minus ∷ []) qs)) e
    ∙ ap (λ t. products (record { monomial = []; coeff = pos 1 } ∷ []) ps ++ negated (products (t ∷ []) qs)) f
    ∙ ap (λ cs. cs ++ negated (products (record { monomial = []; coeff = negsuc 0 } ∷ []) qs)) (append-nil _ ∙ row_one ps)
    ∙ ap (λ cs. ps ++ cs) (ap negated (append-nil _) ∙ row_minus_one qs)

pub no_high : (cs : List Term) (e : PolyFault) → degree_of cs ≡ None → IsFault cs e → IsNoDegree e
no_high cs (Degree v) n h = absurd (cc (sym h ∙ n))
no_high cs (Heavy m) n h = tt
no_high cs OutOfMemory n h = tt
