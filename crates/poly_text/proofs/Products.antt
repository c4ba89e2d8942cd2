-- The product of factors, by parts.
use Rattle.std.specs.Prelude.{◌≡◌, ℕ, ◌+◌, ◌-◌, ◌<◌, ◌≤◌, List, [], ◌∷◌, ◌++◌, length, take, drop, refl}
use mathlib.Core.Logic.{◌⊎◌, inl, inr}
use Rattle.std.proofs.Common.{sym, ◌∙◌, ap, arith, append_assoc}
use Rattle.std.proofs.Math.ListN.{drop_of_length-le}
use Rattle.std.proofs.lemmas.List.{take_rest, append-nil, take-append-drop}
use Rattle.std.proofs.lemmas.Cmp.{ranked}
use Rattle.std.specs.Ordering.{nat_cmp, MatchOrdering}
use Rattle.std.specs.Cmp.{nat_cmp_is}
use Rattle.std.specs.FinMap.Entries.{by_order}
use Rattle.std.specs.declared.cmp.Ordering.{Ordering}
use Rattle.std.specs.declared.cmp.Ordering.TheVariants.{Less, Equal, Greater}
use Rattle.monomial.specs.Monomials.{monomial_times}
use Rattle.monomial.proofs.Steps.{times-end}
use Rattle.poly_text.specs.Order.{product, AreAtMost}
use Rattle.poly_text.proofs.Orders.{at_most_more}

-- ---- the first power of a product

times_less : (a b : ℕ × ℕ) (xs ys : List (ℕ × ℕ)) → a.0 < b.0 → monomial_times (a ∷ xs) (b ∷ ys) ≡ b ∷ monomial_times (a ∷ xs) ys
times_less a b xs ys h = ap (λ o. by_order o (b ∷ monomial_times (a ∷ xs) ys) ((a.0, a.1 + b.1) ∷ monomial_times xs ys) (a ∷ monomial_times xs (b ∷ ys))) (sym (nat_cmp_is a.0 b.0 Less h))

times_equal : (a b : ℕ × ℕ) (xs ys : List (ℕ × ℕ)) → a.0 ≡ b.0 → monomial_times (a ∷ xs) (b ∷ ys) ≡ (a.0, a.1 + b.1) ∷ monomial_times xs ys
times_equal a b xs ys h = ap (λ o. by_order o (b ∷ monomial_times (a ∷ xs) ys) ((a.0, a.1 + b.1) ∷ monomial_times xs ys) (a ∷ monomial_times xs (b ∷ ys))) (sym (nat_cmp_is a.0 b.0 Equal h))

times_greater : (a b : ℕ × ℕ) (xs ys : List (ℕ × ℕ)) → b.0 < a.0 → monomial_times (a ∷ xs) (b ∷ ys) ≡ a ∷ monomial_times xs (b ∷ ys)
times_greater a b xs ys h = ap (λ o. by_order o (b ∷ monomial_times (a ∷ xs) ys) ((a.0, a.1 + b.1) ∷ monomial_times xs ys) (a ∷ monomial_times xs (b ∷ ys))) (sym (nat_cmp_is a.0 b.0 Greater h))

-- ---- a power times a product of two

-- the second begins with a power above both
below_second : (p a b : ℕ × ℕ) (xs ys : List (ℕ × ℕ)) → p.0 < b.0 → a.0 < b.0 → monomial_times (monomial_times (p ∷ []) (a ∷ xs)) (b ∷ ys) ≡ b ∷ monomial_times (monomial_times (p ∷ []) (a ∷ xs)) ys
below_second p a b xs ys h i = by (nat_cmp p.0 a.0) (ranked p.0 a.0 (nat_cmp p.0 a.0) refl)
  where
    by : (o : Ordering) → MatchOrdering o (p.0 < a.0) (p.0 ≡ a.0) (a.0 < p.0) → monomial_times (monomial_times (p ∷ []) (a ∷ xs)) (b ∷ ys) ≡ b ∷ monomial_times (monomial_times (p ∷ []) (a ∷ xs)) ys
    by Less m = rw (times_less p a [] xs m) (times_less a b (monomial_times (p ∷ []) xs) ys i)
    by Equal m = rw (times_equal p a [] xs m) (times_less (p.0, p.1 + a.1) b xs ys h)
    by Greater m = rw (times_greater p a [] xs m) (times_less p b (a ∷ xs) ys h)

less_case : (p a b : ℕ × ℕ) (xs ys : List (ℕ × ℕ)) → a.0 < b.0 → monomial_times (p ∷ []) (monomial_times (a ∷ xs) ys) ≡ monomial_times (monomial_times (p ∷ []) (a ∷ xs)) ys → monomial_times (p ∷ []) (monomial_times (a ∷ xs) (b ∷ ys)) ≡ monomial_times (monomial_times (p ∷ []) (a ∷ xs)) (b ∷ ys)
less_case p a b xs ys h rest = ap (monomial_times (p ∷ [])) (times_less a b xs ys h) ∙ by (nat_cmp p.0 b.0) (ranked p.0 b.0 (nat_cmp p.0 b.0) refl)
  where
    by : (o : Ordering) → MatchOrdering o (p.0 < b.0) (p.0 ≡ b.0) (b.0 < p.0) → monomial_times (p ∷ []) (b ∷ monomial_times (a ∷ xs) ys) ≡ monomial_times (monomial_times (p ∷ []) (a ∷ xs)) (b ∷ ys)
    by Less m = times_less p b [] (monomial_times (a ∷ xs) ys) m ∙ ap (λ l. b ∷ l) rest ∙ sym (below_second p a b xs ys m h)
    by Equal m =
        let l : a.0 < p.0 = omega arith in
        times_equal p b [] (monomial_times (a ∷ xs) ys) m ∙ sym (ap (λ l. monomial_times l (b ∷ ys)) (times_greater p a [] xs l) ∙ times_equal p b (a ∷ xs) ys m)
    by Greater m =
        let l : a.0 < p.0 = omega arith in
        times_greater p b [] (monomial_times (a ∷ xs) ys) m ∙ sym (ap (λ l. monomial_times l (b ∷ ys)) (times_greater p a [] xs l) ∙ times_greater p b (a ∷ xs) ys m ∙ ap (λ l. p ∷ l) (times_less a b xs ys h))

equal_case : (p a b : ℕ × ℕ) (xs ys : List (ℕ × ℕ)) → a.0 ≡ b.0 → monomial_times (p ∷ []) (monomial_times xs ys) ≡ monomial_times (monomial_times (p ∷ []) xs) ys → monomial_times (p ∷ []) (monomial_times (a ∷ xs) (b ∷ ys)) ≡ monomial_times (monomial_times (p ∷ []) (a ∷ xs)) (b ∷ ys)
equal_case p a b xs ys h rest = ap (monomial_times (p ∷ [])) (times_equal a b xs ys h) ∙ by (nat_cmp p.0 a.0) (ranked p.0 a.0 (nat_cmp p.0 a.0) refl)
  where
    by : (o : Ordering) → MatchOrdering o (p.0 < a.0) (p.0 ≡ a.0) (a.0 < p.0) → monomial_times (p ∷ []) ((a.0, a.1 + b.1) ∷ monomial_times xs ys) ≡ monomial_times (monomial_times (p ∷ []) (a ∷ xs)) (b ∷ ys)
    by Less m = times_less p (a.0, a.1 + b.1) [] (monomial_times xs ys) m ∙ ap (λ l. (a.0, a.1 + b.1) ∷ l) rest ∙ sym (ap (λ l. monomial_times l (b ∷ ys)) (times_less p a [] xs m) ∙ times_equal a b (monomial_times (p ∷ []) xs) ys h)
    by Equal m =
        let e : p.1 + (a.1 + b.1) ≡ (p.1 + a.1) + b.1 = omega arith in
        times_equal p (a.0, a.1 + b.1) [] (monomial_times xs ys) m ∙ ap (λ n. (p.0, n) ∷ monomial_times xs ys) e ∙ sym (ap (λ l. monomial_times l (b ∷ ys)) (times_equal p a [] xs m) ∙ times_equal (p.0, p.1 + a.1) b xs ys (m ∙ h))
    by Greater m =
        let l : b.0 < p.0 = omega arith in
        times_greater p (a.0, a.1 + b.1) [] (monomial_times xs ys) m ∙ sym (ap (λ l. monomial_times l (b ∷ ys)) (times_greater p a [] xs m) ∙ times_greater p b (a ∷ xs) ys l ∙ ap (λ l. p ∷ l) (times_equal a b xs ys h))

greater_case : (p a b : ℕ × ℕ) (xs ys : List (ℕ × ℕ)) → b.0 < a.0 → monomial_times (p ∷ []) (monomial_times xs (b ∷ ys)) ≡ monomial_times (monomial_times (p ∷ []) xs) (b ∷ ys) → monomial_times (p ∷ []) (monomial_times (a ∷ xs) (b ∷ ys)) ≡ monomial_times (monomial_times (p ∷ []) (a ∷ xs)) (b ∷ ys)
greater_case p a b xs ys h rest = ap (monomial_times (p ∷ [])) (times_greater a b xs ys h) ∙ by (nat_cmp p.0 a.0) (ranked p.0 a.0 (nat_cmp p.0 a.0) refl)
  where
    by : (o : Ordering) → MatchOrdering o (p.0 < a.0) (p.0 ≡ a.0) (a.0 < p.0) → monomial_times (p ∷ []) (a ∷ monomial_times xs (b ∷ ys)) ≡ monomial_times (monomial_times (p ∷ []) (a ∷ xs)) (b ∷ ys)
    by Less m = times_less p a [] (monomial_times xs (b ∷ ys)) m ∙ ap (λ l. a ∷ l) rest ∙ sym (ap (λ l. monomial_times l (b ∷ ys)) (times_less p a [] xs m) ∙ times_greater a b (monomial_times (p ∷ []) xs) ys h)
    by Equal m =
        let l : b.0 < p.0 = omega arith in
        times_equal p a [] (monomial_times xs (b ∷ ys)) m ∙ sym (ap (λ l. monomial_times l (b ∷ ys)) (times_equal p a [] xs m) ∙ times_greater (p.0, p.1 + a.1) b xs ys l)
    by Greater m =
        let l : b.0 < p.0 = omega arith in
        times_greater p a [] (monomial_times xs (b ∷ ys)) m ∙ sym (ap (λ l. monomial_times l (b ∷ ys)) (times_greater p a [] xs m) ∙ times_greater p b (a ∷ xs) ys l ∙ ap (λ l. p ∷ l) (times_greater a b xs ys h))

power_times : (p : ℕ × ℕ) (xs ys : List (ℕ × ℕ)) → monomial_times (p ∷ []) (monomial_times xs ys) ≡ monomial_times (monomial_times (p ∷ []) xs) ys
power_times p [] ys = refl
power_times p (a ∷ xs) [] = sym (times-end (monomial_times (p ∷ []) (a ∷ xs)))
power_times p (a ∷ xs) (b ∷ ys) = by (nat_cmp a.0 b.0) (ranked a.0 b.0 (nat_cmp a.0 b.0) refl) (power_times p (a ∷ xs) ys) (power_times p xs ys) (power_times p xs (b ∷ ys))
  where
    by : (o : Ordering) → MatchOrdering o (a.0 < b.0) (a.0 ≡ b.0) (b.0 < a.0) → monomial_times (p ∷ []) (monomial_times (a ∷ xs) ys) ≡ monomial_times (monomial_times (p ∷ []) (a ∷ xs)) ys → monomial_times (p ∷ []) (monomial_times xs ys) ≡ monomial_times (monomial_times (p ∷ []) xs) ys → monomial_times (p ∷ []) (monomial_times xs (b ∷ ys)) ≡ monomial_times (monomial_times (p ∷ []) xs) (b ∷ ys) → monomial_times (p ∷ []) (monomial_times (a ∷ xs) (b ∷ ys)) ≡ monomial_times (monomial_times (p ∷ []) (a ∷ xs)) (b ∷ ys)
    by Less m i j k = less_case p a b xs ys m i
    by Equal m i j k = equal_case p a b xs ys m j
    by Greater m i j k = greater_case p a b xs ys m k

-- ---- the product of factors by parts

-- it is that of the products of two parts, whatever the order of the factors
product-append : (ps qs : List (ℕ × ℕ)) → product (ps ++ qs) ≡ monomial_times (product ps) (product qs)
product-append [] qs = refl
product-append (p ∷ ps) qs = ap (monomial_times (p ∷ [])) (product-append ps qs) ∙ power_times p (product ps) (product qs)

pub product_halves : (n : ℕ) (ps first second : List (ℕ × ℕ)) → first ≡ product (take n ps) → second ≡ product (drop n ps) → monomial_times first second ≡ product ps
product_halves n ps first second f s =
    ap (λ l. monomial_times l second) f ∙ ap (monomial_times (product (take n ps))) s ∙ sym (product-append (take n ps) (drop n ps)) ∙ ap product (take-append-drop n ps)

-- ---- exponents of a product

both_at_most : (m n : ℕ) (a b : ℕ × ℕ) (x y z : List (ℕ × ℕ)) (o : Ordering) → a.1 ≤ m → b.1 ≤ n → AreAtMost (m + n) x → AreAtMost (m + n) y → AreAtMost (m + n) z → AreAtMost (m + n) (by_order o (b ∷ x) ((a.0, a.1 + b.1) ∷ y) (a ∷ z))
both_at_most m n a b x y z Less h i j k l = (omega arith, j)
both_at_most m n a b x y z Equal h i j k l = (omega arith, k)
both_at_most m n a b x y z Greater h i j k l = (omega arith, l)

pub times_at_most_sum : (m n : ℕ) (xs ys : List (ℕ × ℕ)) → AreAtMost m xs → AreAtMost n ys → AreAtMost (m + n) (monomial_times xs ys)
times_at_most_sum m n [] ys h i = at_most_more n (m + n) ys (omega arith) i
times_at_most_sum m n (a ∷ xs) [] h i = at_most_more m (m + n) (a ∷ xs) (omega arith) h
times_at_most_sum m n (a ∷ xs) (b ∷ ys) h i =
    both_at_most m n a b _ _ _ (nat_cmp a.0 b.0) h.0 i.0 (times_at_most_sum m n (a ∷ xs) ys h i.1) (times_at_most_sum m n xs ys h.1 i.1) (times_at_most_sum m n xs (b ∷ ys) h.1 i)

-- ---- what is left where one of two lists has ended

times_ended : (xs ys : List (ℕ × ℕ)) (i j : ℕ) → (length xs ≤ i) ⊎ (length ys ≤ j) → monomial_times (drop i xs) (drop j ys) ≡ drop i xs ++ drop j ys
times_ended xs ys i j (inl h) =
    let e : drop i xs ≡ [] = drop_of_length-le xs h in
    ap (λ l. monomial_times l (drop j ys)) e ∙ sym (ap (λ l. l ++ drop j ys) e)
times_ended xs ys i j (inr h) =
    let e : drop j ys ≡ [] = drop_of_length-le ys h in
    ap (monomial_times (drop i xs)) e ∙ times-end (drop i xs) ∙ sym (ap (λ l. drop i xs ++ l) e ∙ append-nil (drop i xs))

pub left_over : (xs ys out first second : List (ℕ × ℕ)) (i j : ℕ) → (length xs ≤ i) ⊎ (length ys ≤ j) → monomial_times xs ys ≡ out ++ monomial_times (drop i xs) (drop j ys) → first ≡ out ++ take (length xs - i) (drop i xs) → second ≡ first ++ take (length ys - j) (drop j ys) → second ≡ monomial_times xs ys
left_over xs ys out first second i j h m f s =
    s ∙ ap (λ l. first ++ l) (take_rest ys j) ∙ ap (λ l. l ++ drop j ys) (f ∙ ap (λ l. out ++ l) (take_rest xs i)) ∙ append_assoc out (drop i xs) (drop j ys) ∙ sym (m ∙ ap (λ l. out ++ l) (times_ended xs ys i j h))
