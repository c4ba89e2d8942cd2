-- Steps of the product of two monomials.
use Rattle.std.specs.Prelude.{◌≡◌, ℕ, ◌+◌, ◌<◌, ◌≤◌, List, [], ◌∷◌, ◌++◌, drop, length, slice_index_or, refl}
use Rattle.std.proofs.Common.{arith, sym, ◌∙◌, ap, drop-cons, append_assoc}
use Rattle.std.proofs.Math.Numerals.{add-one}
use Rattle.std.proofs.lemmas.Bool.Decides.{nat_tests}
use Rattle.monomial.specs.Monomials.{monomial_times, too_high}

pub times-end : (as' : List (ℕ × ℕ)) → monomial_times as' [] ≡ as'
times-end [] = refl
times-end (a ∷ as') = refl

drop_one : (xs : List (ℕ × ℕ)) (k : ℕ) → k < length xs → drop k xs ≡ slice_index_or xs k (0, 0) ∷ drop (k + 1) xs
drop_one xs k h = drop-cons xs k (0, 0) h ∙ ap (λ n. slice_index_or xs k (0, 0) ∷ drop n xs) (sym (add-one k))

drop_end : (xs : List (ℕ × ℕ)) (k : ℕ) → k ≡ length xs → drop k xs ≡ []
drop_end xs k e = ap (λ n. drop n xs) e ∙ all xs
  where
    all : (xs : List (ℕ × ℕ)) → drop (length xs) xs ≡ []
    all [] = refl
    all (x ∷ xs) = all xs

high_cons : (p : ℕ × ℕ) (ps : List (ℕ × ℕ)) → p.1 ≤ 65535 → too_high (p ∷ ps) ≡ too_high ps
high_cons p ps h = grind (arith, nat_tests)

joined : (out rest : List (ℕ × ℕ)) (p : ℕ × ℕ) → out ++ (p ∷ rest) ≡ (out ++ p ∷ []) ++ rest
joined out rest p = sym (append_assoc out (p ∷ []) rest)

-- how far a product of two lists of powers has come
pub record Met (xs ys : List (ℕ × ℕ)) (i j : ℕ) (out : List (ℕ × ℕ)) : Type 0 where
  pub first_in : i ≤ length xs
  pub second_in : j ≤ length ys
  pub made : monomial_times xs ys ≡ out ++ monomial_times (drop i xs) (drop j ys)
  pub high : too_high (monomial_times xs ys) ≡ too_high (monomial_times (drop i xs) (drop j ys))

-- one more power p, where the rest of the product begins with it
next : (xs ys out : List (ℕ × ℕ)) (i j a b : ℕ) (p : ℕ × ℕ) → a ≤ length xs → b ≤ length ys → p.1 ≤ 65535 → monomial_times (drop i xs) (drop j ys) ≡ p ∷ monomial_times (drop a xs) (drop b ys) → Met xs ys i j out → Met xs ys a b (out ++ p ∷ [])
next xs ys out i j a b p f g small e m = record {
  first_in = f;
  second_in = g;
  made = m.made ∙ ap (λ r. out ++ r) e ∙ joined out _ p;
  high = m.high ∙ ap too_high e ∙ high_cons p (monomial_times (drop a xs) (drop b ys)) small;
}

-- the second list is used up
pub Met-left : (xs ys out : List (ℕ × ℕ)) (i j : ℕ) → i < length xs → j ≡ length ys → (slice_index_or xs i (0, 0)).1 ≤ 65535 → Met xs ys i j out → Met xs ys (i + 1) j (out ++ slice_index_or xs i (0, 0) ∷ [])
Met-left xs ys out i j h g small m =
    next xs ys out i j (i + 1) j _ (omega arith) (omega arith) small
    (rw (drop_end ys j g, drop_one xs i h) (ap (λ r. slice_index_or xs i (0, 0) ∷ r) (sym (times-end (drop (i + 1) xs))))) m
