-- Products of few symbols have small exponents, and sums of few products have small weights.
use Rattle.std.specs.Prelude.{◌≡◌, ℕ, zero, suc, ◌+◌, ◌≤◌, ◌<◌, Bool, true, false, if◌then◌else◌, nat_lt, Option, Some, None, ℤ, pos, negsuc, neg_ℤ, unsigned_abs, List, [], ◌∷◌, ◌++◌, length, take, slice_index_or, refl}
use Rattle.std.proofs.Common.{arith, sym as back, ◌∙◌, ap, subst, append_assoc}
use Rattle.std.proofs.lemmas.List.{take_more, flat_map_more}
use Rattle.std.proofs.lemmas.Bool.Decides.{nat_tests}
use Rattle.std.specs.Ordering.{nat_cmp}
use Rattle.std.specs.FinMap.Entries.{by_order}
use Rattle.std.specs.declared.cmp.Ordering.{Ordering}
use Rattle.std.specs.declared.cmp.Ordering.TheVariants.{Less, Equal, Greater}
use Rattle.monomial.specs.Monomials.{monomial_times, too_high}
use Rattle.sparse_poly.specs.declared.Term.{Term}
use Rattle.sparse_poly.specs.Polynomials.{is_of, coefficient, weight, products, negated}
use Rattle.sparse_poly.specs.Contributions.{max_coeff, degree_of, IsResult, IsHeaviest}
use Rattle.sparse_poly.proofs.Evaluation.{weight-append}
use Rattle.fusion_ring.specs.Fusion.{Fusion}
use Rattle.symbol_index.specs.declared.Symbol.{Symbol}
use Rattle.symbol_index.specs.declared.Standing.{Standing}
use Rattle.symbol_index.specs.declared.Standing.TheVariants.{Unit as unit_symbol, Unknown, NotAdmissible}
use Rattle.symbol_index.specs.Symbols.{standing}
use Rattle.symbol_equations.specs.Differences.{standing_terms, product_terms, side_terms, IsDifference}
use Rattle.symbol_equations.specs.Contributions.{optional_terms, with_coeff, IsLow}

-- ---- a product of symbols has one term, or none
abbrev pub standing_times : Standing → Option (List (ℕ × ℕ)) → Option (List (ℕ × ℕ))
standing_times unit_symbol o = o
standing_times (Unknown i) None = None
standing_times (Unknown i) (Some m) = Some (monomial_times ((i, 1) ∷ []) m)
standing_times NotAdmissible o = None

abbrev pub product_monomial : Fusion → List Symbol → Option (List (ℕ × ℕ))
product_monomial r [] = Some []
product_monomial r (s ∷ ss) = standing_times (standing r s) (product_monomial r ss)

pub products-standing : (s : Standing) (o : Option (List (ℕ × ℕ))) → products (standing_terms s) (optional_terms o) ≡ optional_terms (standing_times s o)
products-standing unit_symbol None = refl
products-standing unit_symbol (Some m) = refl
products-standing (Unknown i) None = refl
products-standing (Unknown i) (Some m) = refl
products-standing NotAdmissible o = refl

pub product_terms_are : (r : Fusion) (ss : List Symbol) → product_terms r ss ≡ optional_terms (product_monomial r ss)
product_terms_are r [] = refl
product_terms_are r (s ∷ ss) = ap (products (standing_terms (standing r s))) (product_terms_are r ss) ∙ products-standing (standing r s) (product_monomial r ss)

-- ---- exponents
pub IsLow-mono : (n k : ℕ) (m : List (ℕ × ℕ)) → n ≤ k → IsLow n m → IsLow k m
IsLow-mono n k [] h w = tt
IsLow-mono n k (p ∷ ps) h w = (omega (arith, w.0), IsLow-mono n k ps h w.1)

IsLow-by_order : (o : Ordering) (i n : ℕ) (b : ℕ × ℕ) (bs more : List (ℕ × ℕ)) → IsLow n (b ∷ bs) → IsLow (n + 1) more → IsLow (n + 1) (by_order o (b ∷ more) ((i, 1 + b.1) ∷ bs) ((i, 1) ∷ b ∷ bs))
IsLow-by_order Less i n b bs more w k = (omega (arith, w.0), k)
IsLow-by_order Equal i n b bs more w k = (omega (arith, w.0), IsLow-mono n (n + 1) bs (omega arith) w.1)
IsLow-by_order Greater i n b bs more w k = (omega arith, (omega (arith, w.0), IsLow-mono n (n + 1) bs (omega arith) w.1))

pub IsLow-times_unknown : (i n : ℕ) (m : List (ℕ × ℕ)) → IsLow n m → IsLow (n + 1) (monomial_times ((i, 1) ∷ []) m)
IsLow-times_unknown i n [] w = (omega arith, tt)
IsLow-times_unknown i n (b ∷ bs) w = IsLow-by_order (nat_cmp i b.0) i n b bs (monomial_times ((i, 1) ∷ []) bs) w (IsLow-times_unknown i n bs w.1)

pub too_high-low : (n : ℕ) (m : List (ℕ × ℕ)) → n ≤ 65535 → IsLow n m → too_high m ≡ None
too_high-low n [] h w = refl
too_high-low n (p ∷ ps) h w = by_test (nat_lt 65535 p.1) (too_high-low n ps h w.1) refl
  where
    by_test : (b : Bool) → too_high ps ≡ None → nat_lt 65535 p.1 ≡ b → (if b then Some p.0 else too_high ps) ≡ None
    by_test true e t = absurd (above p.1 (omega (arith, w.0)) t)
      where
        above : (k : ℕ) → k ≤ 65535 → nat_lt 65535 k ≡ true → ⊥
        above k h t = grind (arith, nat_tests)
    by_test false e t = e

abbrev pub IsLowOption : ℕ → Option (List (ℕ × ℕ)) → Type 0
IsLowOption n None = Unit {0}
IsLowOption n (Some m) = IsLow n m

IsLow-standing_times : (s : Standing) (n : ℕ) (o : Option (List (ℕ × ℕ))) → IsLowOption n o → IsLowOption (n + 1) (standing_times s o)
IsLow-standing_times unit_symbol n None w = tt
IsLow-standing_times unit_symbol n (Some m) w = IsLow-mono n (n + 1) m (omega arith) w
IsLow-standing_times (Unknown i) n None w = tt
IsLow-standing_times (Unknown i) n (Some m) w = IsLow-times_unknown i n m w
IsLow-standing_times NotAdmissible n o w = tt

IsLowOption-mono : (n k : ℕ) (o : Option (List (ℕ × ℕ))) → n ≤ k → IsLowOption n o → IsLowOption k o
IsLowOption-mono n k None h w = tt
IsLowOption-mono n k (Some m) h w = IsLow-mono n k m h w

pub IsLow-product : (r : Fusion) (ss : List Symbol) (n : ℕ) → length ss ≤ n → IsLowOption n (product_monomial r ss)
IsLow-product r [] n h = tt
IsLow-product r (s ∷ ss) zero h = absurd (omega arith)
IsLow-product r (s ∷ ss) (suc n) h =
    IsLowOption-mono (n + 1) (suc n) (product_monomial r (s ∷ ss)) (omega arith)
    (IsLow-standing_times (standing r s) n (product_monomial r ss) (IsLow-product r ss n (omega arith)))

-- ---- sums of products
pub with_coeff-append : (c : ℤ) (ts us : List Term) → with_coeff c (ts ++ us) ≡ with_coeff c ts ++ with_coeff c us
with_coeff-append c [] us = refl
with_coeff-append c (t ∷ ts) us = ap (λ xs. record { monomial = t.monomial; coeff = c } ∷ xs) (with_coeff-append c ts us)

-- a product of an unknown and a monomial with small exponents is made
pub no_degree : (i v n : ℕ) (power m : List (ℕ × ℕ)) → power ≡ (i, 1) ∷ [] → n + 1 ≤ 65535 → IsLow n m → too_high (monomial_times power m) ≡ Some v → ⊥
no_degree i v n power m e h w t = apart (back (ap (λ p. too_high (monomial_times p m)) e ∙ too_high-low (n + 1) _ h (IsLow-times_unknown i n m w)) ∙ t)
  where
    apart : ◌≡◌ {A = Option ℕ} None (Some v) → ⊥
    apart q = absurd (cc q)

-- the monomial of a product of n symbols at most
abbrev first_of : List Term → Option (List (ℕ × ℕ))
first_of [] = None
first_of (t ∷ ts) = Some t.monomial

first_of-optional : (o : Option (List (ℕ × ℕ))) → first_of (optional_terms o) ≡ o
first_of-optional None = refl
first_of-optional (Some m) = refl

pub IsLow-of_terms : (r : Fusion) (ss : List Symbol) (n : ℕ) (o : Option (List (ℕ × ℕ))) (m : List (ℕ × ℕ)) → o ≡ Some m → optional_terms o ≡ product_terms r ss → length ss ≤ n → IsLow n m
IsLow-of_terms r ss n o m e h k =
    let same : product_monomial r ss ≡ o = back (first_of-optional (product_monomial r ss)) ∙ ap first_of (back (product_terms_are r ss) ∙ back h) ∙ first_of-optional o in
    subst (IsLowOption n) (same ∙ e) (IsLow-product r ss n k)

-- ---- sides
pub side_more : (r : Fusion) (c : ℤ) (side : List (List Symbol)) (i : ℕ) (ss : List Symbol) (start old new : List Term) → i < length side → ss ≡ slice_index_or side i ss →
    old ≡ start ++ with_coeff c (side_terms r (take i side)) → new ≡ old ++ with_coeff c (product_terms r ss) → new ≡ start ++ with_coeff c (side_terms r (take (i + 1) side))
side_more r c side i ss start old new h s e g =
    g ∙ ap (λ ts. ts ++ with_coeff c (product_terms r ss)) e
    ∙ append_assoc start (with_coeff c (side_terms r (take i side))) (with_coeff c (product_terms r ss))
    ∙ ap (λ ts. start ++ ts) (back (with_coeff-append c (side_terms r (take i side)) (product_terms r ss)))
    ∙ ap (λ ts. start ++ with_coeff c ts) (flat_map_more (product_terms r) [] (take i side) ss)
    ∙ ap (λ t. start ++ with_coeff c (side_terms r (take i side ++ t ∷ []))) s
    ∙ ap (λ t. start ++ with_coeff c (side_terms r t)) (back (take_more side i ss h))

negated-append : (ts us : List Term) → negated (ts ++ us) ≡ negated ts ++ negated us
negated-append [] us = refl
negated-append (t ∷ ts) us = ap (λ xs. record { monomial = t.monomial; coeff = neg_ℤ t.coeff } ∷ xs) (negated-append ts us)

with_one : (o : Option (List (ℕ × ℕ))) → with_coeff (pos 1) (optional_terms o) ≡ optional_terms o
with_one None = refl
with_one (Some m) = refl

with_minus_one : (o : Option (List (ℕ × ℕ))) → with_coeff (negsuc 0) (optional_terms o) ≡ negated (optional_terms o)
with_minus_one None = refl
with_minus_one (Some m) = refl

one_side : (r : Fusion) (side : List (List Symbol)) → with_coeff (pos 1) (side_terms r side) ≡ side_terms r side
one_side r [] = refl
one_side r (ss ∷ side) =
    with_coeff-append (pos 1) (product_terms r ss) (side_terms r side)
    ∙ ap (λ ts. ts ++ with_coeff (pos 1) (side_terms r side)) (ap (with_coeff (pos 1)) (product_terms_are r ss) ∙ with_one (product_monomial r ss) ∙ back (product_terms_are r ss))
    ∙ ap (λ ts. product_terms r ss ++ ts) (one_side r side)

minus_one_side : (r : Fusion) (side : List (List Symbol)) → with_coeff (negsuc 0) (side_terms r side) ≡ negated (side_terms r side)
minus_one_side r [] = refl
minus_one_side r (ss ∷ side) =
    with_coeff-append (negsuc 0) (product_terms r ss) (side_terms r side)
    ∙ ap (λ ts. ts ++ with_coeff (negsuc 0) (side_terms r side)) (ap (with_coeff (negsuc 0)) (product_terms_are r ss) ∙ with_minus_one (product_monomial r ss) ∙ ap negated (back (product_terms_are r ss)))
    ∙ ap (λ ts. negated (product_terms r ss) ++ ts) (minus_one_side r side)
    ∙ back (negated-append (product_terms r ss) (side_terms r side))

-- the terms that the code collects for both sides
abbrev pub collected : Fusion → List (List Symbol) → List (List Symbol) → List Term
collected r left right = with_coeff (pos 1) (side_terms r left) ++ with_coeff (negsuc 0) (side_terms r right)

pub collected_are : (r : Fusion) (left right : List (List Symbol)) → collected r left right ≡ side_terms r left ++ negated (side_terms r right)
collected_are r left right = ap (λ ts. ts ++ with_coeff (negsuc 0) (side_terms r right)) (one_side r left) ∙ ap (λ ts. side_terms r left ++ ts) (minus_one_side r right)

weight-optional : (c : ℤ) (o : Option (List (ℕ × ℕ))) (m : List (ℕ × ℕ)) → unsigned_abs c ≤ 1 → weight (with_coeff c (optional_terms o)) m ≤ 1
weight-optional c None m h = omega arith
weight-optional c (Some k) m h = by_test (is_of m (record { monomial = k; coeff = c }))
  where
    by_test : (b : Bool) → (if b then unsigned_abs c else 0) + 0 ≤ 1
    by_test true = omega arith
    by_test false = omega arith

weight-side : (r : Fusion) (c : ℤ) (side : List (List Symbol)) (m : List (ℕ × ℕ)) → unsigned_abs c ≤ 1 → weight (with_coeff c (side_terms r side)) m ≤ length side
weight-side r c [] m h = omega arith
weight-side r c (ss ∷ side) m h =
    let split : weight (with_coeff c (side_terms r (ss ∷ side))) m ≡ weight (with_coeff c (product_terms r ss)) m + weight (with_coeff c (side_terms r side)) m = ap (λ ts. weight ts m) (with_coeff-append c (product_terms r ss) (side_terms r side)) ∙ weight-append m (with_coeff c (product_terms r ss)) (with_coeff c (side_terms r side)) in
    let first : weight (with_coeff c (product_terms r ss)) m ≤ 1 = subst (λ ts. weight (with_coeff c ts) m ≤ 1) (back (product_terms_are r ss)) (weight-optional c (product_monomial r ss) m h) in
    let rest : weight (with_coeff c (side_terms r side)) m ≤ length side = weight-side r c side m h in
    subst (λ n. n ≤ length (ss ∷ side)) (back split) (sum_fits (weight (with_coeff c (product_terms r ss)) m) _ (length side) first rest)
  where
    sum_fits : (a b n : ℕ) → a ≤ 1 → b ≤ n → a + b ≤ suc n
    sum_fits a b n h k = omega arith

pub collected_light : (r : Fusion) (left right : List (List Symbol)) (m : List (ℕ × ℕ)) → length left ≤ 1000 → length right ≤ 1000 → max_coeff < weight (collected r left right) m → ⊥
collected_light r left right m h k w =
    let split = weight-append m (with_coeff (pos 1) (side_terms r left)) (with_coeff (negsuc 0) (side_terms r right)) in
    apart (weight (with_coeff (pos 1) (side_terms r left)) m) (weight (with_coeff (negsuc 0) (side_terms r right)) m) (length left) (length right)
    (weight-side r (pos 1) left m (omega arith)) (weight-side r (negsuc 0) right m (omega arith)) h k (subst (λ n. max_coeff < n) split w)
  where
    apart : (a b n k : ℕ) → a ≤ n → b ≤ k → n ≤ 1000 → k ≤ 1000 → max_coeff < a + b → ⊥
    apart a b n k f g h i j = omega arith

-- ---- what the code collects, and what it makes of it
pub collected_from : (r : Fusion) (left right : List (List Symbol)) (none first both : List Term) → none ≡ [] → first ≡ none ++ with_coeff (pos 1) (side_terms r left) → both ≡ first ++ with_coeff (negsuc 0) (side_terms r right) → both ≡ collected r left right
collected_from r left right none first both d e g = g ∙ ap (λ ts. ts ++ with_coeff (negsuc 0) (side_terms r right)) (e ∙ ap (λ ts. ts ++ with_coeff (pos 1) (side_terms r left)) d)

pub difference_from : (r : Fusion) (left right : List (List Symbol)) (cs p : List Term) → cs ≡ collected r left right → IsResult cs p → IsDifference r left right p
difference_from r left right cs p e h = (h.poly, λ m. h.sums m ∙ ap (λ ts. coefficient ts m) (e ∙ collected_are r left right))

pub not_heavy : (r : Fusion) (left right : List (List Symbol)) (cs : List Term) (m : List (ℕ × ℕ)) → length left ≤ 1000 → length right ≤ 1000 → cs ≡ collected r left right → (degree_of cs ≡ None) × IsHeaviest cs m → ⊥
not_heavy r left right cs m h k e t = collected_light r left right m h k (subst (λ ts. max_coeff < weight ts m) e t.1.heavy)

pub side_all : (r : Fusion) (c d : ℤ) (side all : List (List Symbol)) (start ts : List Term) → ts ≡ start ++ with_coeff c (side_terms r side) → side ≡ all → c ≡ d → ts ≡ start ++ with_coeff d (side_terms r all)
side_all r c d side all start ts e s k = e ∙ ap (λ ps. start ++ with_coeff c (side_terms r ps)) s ∙ ap (λ k. start ++ with_coeff k (side_terms r all)) k
