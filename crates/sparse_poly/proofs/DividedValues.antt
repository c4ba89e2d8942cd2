-- The value of a product at a point of signs is the product of the values.
use Rattle.std.specs.Prelude.{◌≡◌, ◌<◌, ℕ, zero, suc, ◌+◌, ◌*◌, ◌/◌, ◌%◌, Bool, true, false, ◌&&◌, nat_eq, if◌then◌else◌, ℤ, pos, negsuc, neg_ℤ, ◌+ℤ◌, ◌-ℤ◌, ◌*ℤ◌, List, [], ◌∷◌, ◌++◌, refl}
use Rattle.std.proofs.Common.{arith, sym, ◌∙◌, ap, div-add-mod', mod-lt}
use Rattle.std.proofs.lemmas.Nat.{mod_low}
use Rattle.std.proofs.lemmas.Int.{ints}
use Rattle.std.proofs.Math.IntN.{*ℤ_comm, *ℤ-zero, *ℤ-negsuc}
use Rattle.std.specs.Ordering.{nat_cmp}
use Rattle.std.specs.FinMap.{nat_cmp-IsAntisymmetric}
use Rattle.std.specs.FinMap.Entries.{by_order}
use Rattle.std.specs.declared.cmp.Ordering.{Ordering}
use Rattle.std.specs.declared.cmp.Ordering.TheVariants.{Less, Equal, Greater}
use Rattle.field_laws.specs.Whole.{*ℤ-+ℤ}
use Rattle.monomial.specs.Monomials.{monomial_times}
use Rattle.sparse_poly.specs.declared.Term.{Term}
use Rattle.sparse_poly.specs.Polynomials.{row, products}
use Rattle.sparse_poly.specs.Clearing.{DividesOpenly}
use Rattle.sparse_poly.specs.Signs.{sum_with, is_minus, is_minus_power, both_minus, is_minus_monomial, sign, value_at}
use Rattle.sparse_poly.proofs.ProductSums.{*ℤ_assoc, +ℤ-*ℤ, zero_times, times_one, sum_with-same}
use Rattle.sparse_poly.proofs.Evaluation.{zero_plus}

sum_with-append : (f : List (ℕ × ℕ) → ℤ) (ts us : List Term) → sum_with f (ts ++ us) ≡ sum_with f ts +ℤ sum_with f us
sum_with-append f [] us = sym (zero_plus _)
sum_with-append f (t ∷ ts) us = more _ _ _ _ (sum_with-append f ts us)
  where
    more : (a b c d : ℤ) → b ≡ c +ℤ d → a +ℤ b ≡ (a +ℤ c) +ℤ d
    more a b c d e = omega (arith, ints)

times_pairs : (a b c d : ℤ) → (a *ℤ b) *ℤ (c *ℤ d) ≡ (a *ℤ c) *ℤ (b *ℤ d)
times_pairs a b c d =
    *ℤ_assoc a b (c *ℤ d)
    ∙ ap (λ x. a *ℤ x) (sym (*ℤ_assoc b c d) ∙ ap (λ x. x *ℤ d) (*ℤ_comm b c) ∙ *ℤ_assoc c b d)
    ∙ sym (*ℤ_assoc a c (b *ℤ d))

-- where f of a product of monomials is the product
module _ (f : List (ℕ × ℕ) → ℤ) (f-times : (m n : List (ℕ × ℕ)) → f (monomial_times m n) ≡ f m *ℤ f n) where
  sum_with-row : (t : Term) (us : List Term) → sum_with f (row t us) ≡ (t.coeff *ℤ f t.monomial) *ℤ sum_with f us
  sum_with-row t [] = sym (*ℤ-zero (t.coeff *ℤ f t.monomial))
  sum_with-row t (u ∷ us) =
      ap (λ z. ((t.coeff *ℤ u.coeff) *ℤ z) +ℤ sum_with f (row t us)) (f-times t.monomial u.monomial)
      ∙ ap (λ z. z +ℤ sum_with f (row t us)) (times_pairs t.coeff u.coeff (f t.monomial) (f u.monomial))
      ∙ ap (λ z. ((t.coeff *ℤ f t.monomial) *ℤ (u.coeff *ℤ f u.monomial)) +ℤ z) (sum_with-row t us)
      ∙ sym (*ℤ-+ℤ (t.coeff *ℤ f t.monomial) (u.coeff *ℤ f u.monomial) (sum_with f us))

  sum_with-products : (ts us : List Term) → sum_with f (products ts us) ≡ sum_with f ts *ℤ sum_with f us
  sum_with-products [] us = sym (zero_times (sum_with f us))
  sum_with-products (t ∷ ts) us =
      sum_with-append f (row t us) (products ts us)
      ∙ ap (λ z. z +ℤ sum_with f (products ts us)) (sum_with-row t us)
      ∙ ap (λ z. ((t.coeff *ℤ f t.monomial) *ℤ sum_with f us) +ℤ z) (sum_with-products ts us)
      ∙ sym (+ℤ-*ℤ (t.coeff *ℤ f t.monomial) (sum_with f ts) (sum_with f us))

both-swap : (p a b : Bool) → both_minus p (both_minus a b) ≡ both_minus a (both_minus p b)
both-swap true true b = refl
both-swap true false b = refl
both-swap false true b = refl
both-swap false false b = refl

pub both-assoc : (a b c : Bool) → both_minus (both_minus a b) c ≡ both_minus a (both_minus b c)
both-assoc true true true = refl
both-assoc true true false = refl
both-assoc true false c = refl
both-assoc false b c = refl

both-pairs : (p q a b : Bool) → both_minus (both_minus p q) (both_minus a b) ≡ both_minus (both_minus p a) (both_minus q b)
both-pairs p q a b = both-assoc p q (both_minus a b) ∙ ap (both_minus p) (both-swap q a b) ∙ sym (both-assoc p a (both_minus q b))

low_digit : (n h x : ℕ) → n ≡ h * 2 + x → x < 2 → n % 2 ≡ x
low_digit n h x e l = ap (λ m. m % 2) e ∙ mod_low h 1 x l

odd-add : (a b : ℕ) → nat_eq ((a + b) % 2) 1 ≡ both_minus (nat_eq (a % 2) 1) (nat_eq (b % 2) 1)
odd-add a b = by (a % 2) (b % 2) (div-add-mod' a 2) (div-add-mod' b 2) (mod-lt a (omega arith)) (mod-lt b (omega arith))
  where
    is_one : ℕ → Bool
    is_one n = nat_eq n 1

    by : (x y : ℕ) → a / 2 * 2 + x ≡ a → b / 2 * 2 + y ≡ b → x < 2 → y < 2 → is_one ((a + b) % 2) ≡ both_minus (is_one x) (is_one y)
    by zero zero e f h i = ap is_one (low_digit (a + b) (a / 2 + b / 2) 0 (omega arith) (omega arith))
    by zero (suc zero) e f h i = ap is_one (low_digit (a + b) (a / 2 + b / 2) 1 (omega arith) (omega arith))
    by (suc zero) zero e f h i = ap is_one (low_digit (a + b) (a / 2 + b / 2) 1 (omega arith) (omega arith))
    by (suc zero) (suc zero) e f h i = ap is_one (low_digit (a + b) (a / 2 + b / 2 + 1) 0 (omega arith) (omega arith))
    by (suc (suc x)) y e f h i = absurd (omega arith)
    by zero (suc (suc y)) e f h i = absurd (omega arith)
    by (suc zero) (suc (suc y)) e f h i = absurd (omega arith)

power-add : (k v a b : ℕ) → is_minus_power k (v, a + b) ≡ both_minus (is_minus_power k (v, a)) (is_minus_power k (v, b))
power-add k v a b = elim (is_minus k v) as (λ m. m && nat_eq ((a + b) % 2) 1 ≡ both_minus (m && nat_eq (a % 2) 1) (m && nat_eq (b % 2) 1)) [ true ↦ odd-add a b | false ↦ refl ]

minus-by_order : (k : ℕ) (a b : ℕ × ℕ) (xs ys : List (ℕ × ℕ)) (o : Ordering) → nat_cmp a.0 b.0 ≡ o →
    is_minus_monomial k (monomial_times (a ∷ xs) ys) ≡ both_minus (is_minus_monomial k (a ∷ xs)) (is_minus_monomial k ys) →
    is_minus_monomial k (monomial_times xs ys) ≡ both_minus (is_minus_monomial k xs) (is_minus_monomial k ys) →
    is_minus_monomial k (monomial_times xs (b ∷ ys)) ≡ both_minus (is_minus_monomial k xs) (is_minus_monomial k (b ∷ ys)) →
    is_minus_monomial k (by_order o (b ∷ monomial_times (a ∷ xs) ys) ((a.0, a.1 + b.1) ∷ monomial_times xs ys) (a ∷ monomial_times xs (b ∷ ys))) ≡ both_minus (is_minus_monomial k (a ∷ xs)) (is_minus_monomial k (b ∷ ys))
minus-by_order k a b xs ys Less e g h i =
    ap (both_minus (is_minus_power k b)) g ∙ both-swap (is_minus_power k b) (is_minus_monomial k (a ∷ xs)) (is_minus_monomial k ys)
minus-by_order k a b xs ys Equal e g h i =
    ap (λ p. both_minus p (is_minus_monomial k (monomial_times xs ys))) (power-add k a.0 a.1 b.1)
    ∙ ap (both_minus (both_minus (is_minus_power k a) (is_minus_power k (a.0, b.1)))) h
    ∙ both-pairs (is_minus_power k a) (is_minus_power k (a.0, b.1)) (is_minus_monomial k xs) (is_minus_monomial k ys)
    ∙ ap (λ v. both_minus (is_minus_monomial k (a ∷ xs)) (both_minus (is_minus_power k (v, b.1)) (is_minus_monomial k ys))) (nat_cmp-IsAntisymmetric a.0 b.0 e)
minus-by_order k a b xs ys Greater e g h i =
    ap (both_minus (is_minus_power k a)) i ∙ sym (both-assoc (is_minus_power k a) (is_minus_monomial k xs) (is_minus_monomial k (b ∷ ys)))

both-none : (a : Bool) → a ≡ both_minus a false
both-none true = refl
both-none false = refl

minus-times : (k : ℕ) (xs ys : List (ℕ × ℕ)) → is_minus_monomial k (monomial_times xs ys) ≡ both_minus (is_minus_monomial k xs) (is_minus_monomial k ys)
minus-times k [] ys = refl
minus-times k (a ∷ xs) [] = both-none _
minus-times k (a ∷ xs) (b ∷ ys) = minus-by_order k a b xs ys (nat_cmp a.0 b.0) refl (minus-times k (a ∷ xs) ys) (minus-times k xs ys) (minus-times k xs (b ∷ ys))

sign_of-both : (a b : Bool) → (if both_minus a b then negsuc 0 else pos 1) ≡ (if a then negsuc 0 else pos 1) *ℤ (if b then negsuc 0 else pos 1)
sign_of-both true true = refl
sign_of-both true false = refl
sign_of-both false true = refl
sign_of-both false false = refl

sign-times : (k : ℕ) (m n : List (ℕ × ℕ)) → sign k (monomial_times m n) ≡ sign k m *ℤ sign k n
sign-times k m n = ap (λ b. if b then negsuc 0 else pos 1) (minus-times k m n) ∙ sign_of-both (is_minus_monomial k m) (is_minus_monomial k n)

-- the value of a polynomial that is divided is a multiple of that of the divisor
pub value-divided : (k : ℕ) (n p g : List Term) → DividesOpenly n p g → value_at k g *ℤ value_at k n ≡ value_at k p
value-divided k n p g d = sym (sum_with-same (sign k) p (products g n) d.product.sums ∙ sum_with-products (sign k) (sign-times k) g n)

-- one more term of a sum
pub next_term : (f : List (ℕ × ℕ) → ℤ) (t : Term) (v z rest all : ℤ) → v +ℤ ((t.coeff *ℤ f t.monomial) +ℤ rest) ≡ all → z ≡ v +ℤ (t.coeff *ℤ f t.monomial) → z +ℤ rest ≡ all
next_term f t v z rest all e h = plain z v (t.coeff *ℤ f t.monomial) rest all e h
  where
    plain : (z v x rest all : ℤ) → v +ℤ (x +ℤ rest) ≡ all → z ≡ v +ℤ x → z +ℤ rest ≡ all
    plain z v x rest all e h = omega (arith, ints)

pub plus_one : (v c z : ℤ) (b : Bool) → b ≡ false → z ≡ v +ℤ c → z ≡ v +ℤ (c *ℤ (if b then negsuc 0 else pos 1))
plus_one v c z b e h = h ∙ ap (λ x. v +ℤ x) (sym (times_one c)) ∙ ap (λ b. v +ℤ (c *ℤ (if b then negsuc 0 else pos 1))) (sym e)

pub minus_one : (v c z : ℤ) (b : Bool) → b ≡ true → z ≡ v -ℤ c → z ≡ v +ℤ (c *ℤ (if b then negsuc 0 else pos 1))
minus_one v c z b e h = plain z v c (c *ℤ pos 1) h (times_one c) ∙ ap (λ x. v +ℤ x) (sym (*ℤ-negsuc c 0)) ∙ ap (λ b. v +ℤ (c *ℤ (if b then negsuc 0 else pos 1))) (sym e)
  where
    plain : (z v c d : ℤ) → z ≡ v -ℤ c → d ≡ c → z ≡ v +ℤ neg_ℤ d
    plain z v c d e h = omega (arith, ints)
