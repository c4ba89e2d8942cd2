-- What follows from the laws of a field: signs, powers, finite sums and whole numbers in it.
use Rattle.std.specs.Prelude.{◌≡◌, ◌≢◌, ℕ, zero, suc, ◌+◌, ◌*◌, ℤ, pos, negsuc, ◌+ℤ◌, ◌*ℤ◌, neg_ℤ, List, [], ◌∷◌, ◌++◌, refl}
use Rattle.std.proofs.Common.{arith, sym, ◌∙◌, ap}
use Rattle.std.proofs.Math.Nat.{add-suc, add-zero}
use borrow.Author.Differences.{up, down, sum_is_lem, product_is}
use lib.IntN.{+ℤ_invr}
use Rattle.field_laws.specs.Field.{Field, IsField, IsElement, natural, whole, total, power, AllElements}

module _ {E : Type 0} (f : Field E) (l : IsField f) where
  open f use {plus, minus, times, inverse}

  pub zero-plus : (a : E) → IsElement f a → plus f.zero a ≡ a
  zero-plus a p = l.plus_comm f.zero a l.zero_is p ∙ l.plus-zero a p

  pub minus-plus : (a : E) → IsElement f a → plus (minus a) a ≡ f.zero
  minus-plus a p = l.plus_comm _ a (l.minus_is a p) p ∙ l.plus-minus a p

  pub plus_swap : (a b c : E) → IsElement f a → IsElement f b → IsElement f c → plus a (plus b c) ≡ plus b (plus a c)
  plus_swap a b c p q r = sym (l.plus_assoc a b c p q r) ∙ ap (λ x. plus x c) (l.plus_comm a b p q) ∙ l.plus_assoc b a c q p r

  pub plus_cancel : (a b c : E) → IsElement f a → IsElement f b → IsElement f c → plus a b ≡ plus a c → b ≡ c
  plus_cancel a b c p q r e = sym (back b q) ∙ ap (λ x. plus (minus a) x) e ∙ back c r
    where
      back : (b : E) → IsElement f b → plus (minus a) (plus a b) ≡ b
      back b q = sym (l.plus_assoc _ a b (l.minus_is a p) p q) ∙ ap (λ x. plus x b) (minus-plus a p) ∙ zero-plus b q

  pub times-zero : (a : E) → IsElement f a → times a f.zero ≡ f.zero
  times-zero a p =
      let t = l.times_is a f.zero p l.zero_is in
      plus_cancel (times a f.zero) (times a f.zero) f.zero t t l.zero_is
      (sym (l.times-plus a f.zero f.zero p l.zero_is l.zero_is) ∙ ap (λ x. times a x) (l.plus-zero f.zero l.zero_is) ∙ sym (l.plus-zero _ t))

  pub zero-times : (a : E) → IsElement f a → times f.zero a ≡ f.zero
  zero-times a p = l.times_comm f.zero a l.zero_is p ∙ times-zero a p

  pub one-times : (a : E) → IsElement f a → times f.one a ≡ a
  one-times a p = l.times_comm f.one a l.one_is p ∙ l.times-one a p

  pub plus-times : (a b c : E) → IsElement f a → IsElement f b → IsElement f c → times (plus a b) c ≡ plus (times a c) (times b c)
  plus-times a b c p q r =
      l.times_comm _ c (l.plus_is a b p q) r ∙ l.times-plus c a b r p q
      ∙ ap (λ x. plus x (times c b)) (l.times_comm c a r p) ∙ ap (λ x. plus (times a c) x) (l.times_comm c b r q)

  pub times_swap : (a b c : E) → IsElement f a → IsElement f b → IsElement f c → times a (times b c) ≡ times b (times a c)
  times_swap a b c p q r = sym (l.times_assoc a b c p q r) ∙ ap (λ x. times x c) (l.times_comm a b p q) ∙ l.times_assoc b a c q p r

  -- the only one that adds up to f.zero
  pub minus_unique : (a b : E) → IsElement f a → IsElement f b → plus a b ≡ f.zero → b ≡ minus a
  minus_unique a b p q e = plus_cancel a b (minus a) p q (l.minus_is a p) (e ∙ sym (l.plus-minus a p))

  pub minus-minus : (a : E) → IsElement f a → minus (minus a) ≡ a
  minus-minus a p = sym (minus_unique (minus a) a (l.minus_is a p) p (minus-plus a p))

  pub times-minus : (a b : E) → IsElement f a → IsElement f b → times a (minus b) ≡ minus (times a b)
  times-minus a b p q =
      minus_unique (times a b) (times a (minus b)) (l.times_is a b p q) (l.times_is a _ p (l.minus_is b q))
      (sym (l.times-plus a b _ p q (l.minus_is b q)) ∙ ap (λ x. times a x) (l.plus-minus b q) ∙ times-zero a p)

  pub minus-times : (a b : E) → IsElement f a → IsElement f b → times (minus a) b ≡ minus (times a b)
  minus-times a b p q = l.times_comm _ b (l.minus_is a p) q ∙ times-minus b a q p ∙ ap minus (l.times_comm b a q p)

  pub minus-plus_both : (a b : E) → IsElement f a → IsElement f b → minus (plus a b) ≡ plus (minus a) (minus b)
  minus-plus_both a b p q =
      let m = l.minus_is a p in
      let n = l.minus_is b q in
      sym (minus_unique (plus a b) (plus (minus a) (minus b)) (l.plus_is a b p q) (l.plus_is _ _ m n)
      (l.plus_assoc a b _ p q (l.plus_is _ _ m n) ∙ ap (λ x. plus a x) (plus_swap b (minus a) (minus b) q m n)
      ∙ sym (l.plus_assoc a _ _ p m (l.plus_is _ _ q n)) ∙ ap (λ x. plus x (plus b (minus b))) (l.plus-minus a p)
      ∙ zero-plus _ (l.plus_is _ _ q n) ∙ l.plus-minus b q))

  pub minus-zero : minus f.zero ≡ f.zero
  minus-zero = sym (minus_unique f.zero f.zero l.zero_is l.zero_is (l.plus-zero f.zero l.zero_is))

  -- a product is f.zero only where a factor is
  pub other_zero : (a b : E) → IsElement f a → IsElement f b → a ≢ f.zero → times a b ≡ f.zero → b ≡ f.zero
  other_zero a b p q h e =
      let i = l.inverse_is a p h in
      sym (one-times b q) ∙ ap (λ x. times x b) (sym (l.times_comm _ a i p ∙ l.times-inverse a p h))
      ∙ l.times_assoc _ a b i p q ∙ ap (λ x. times (inverse a) x) e ∙ times-zero _ i

  -- two values are the same exactly where their difference is f.zero
  pub same_of_difference : (a b : E) → IsElement f a → IsElement f b → plus a (minus b) ≡ f.zero → a ≡ b
  same_of_difference a b p q e = sym (minus-minus a p) ∙ ap minus (sym (minus_unique a (minus b) p (l.minus_is b q) e)) ∙ minus-minus b q

  pub difference_of_same : (a b : E) → IsElement f a → a ≡ b → plus a (minus b) ≡ f.zero
  difference_of_same a b p e = ap (λ x. plus a (minus x)) (sym e) ∙ l.plus-minus a p

  -- from a - b = c to a = b + c
  pub sum_of_difference : (a b c : E) → IsElement f a → IsElement f b → plus a (minus b) ≡ c → a ≡ plus b c
  sum_of_difference a b c p q e = sym (l.plus-zero a p) ∙ ap (plus a) (sym (l.plus-minus b q)) ∙ plus_swap a b (minus b) p q (l.minus_is b q) ∙ ap (plus b) e

  -- ---- finite sums
  pub total_is : (as' : List E) → AllElements f as' → IsElement f (total f as')
  total_is [] p = l.zero_is
  total_is (a ∷ as') p = l.plus_is a _ p.0 (total_is as' p.1)

  pub total-append : (as' bs : List E) → AllElements f as' → AllElements f bs → total f (as' ++ bs) ≡ plus (total f as') (total f bs)
  total-append [] bs p q = sym (zero-plus _ (total_is bs q))
  total-append (a ∷ as') bs p q = ap (λ x. plus a x) (total-append as' bs p.1 q) ∙ sym (l.plus_assoc a _ _ p.0 (total_is as' p.1) (total_is bs q))

  -- ---- powers
  pub power_is : (a : E) (n : ℕ) → IsElement f a → IsElement f (power f a n)
  power_is a zero p = l.one_is
  power_is a (suc n) p = l.times_is a _ p (power_is a n p)

  pub power-add : (a : E) (m n : ℕ) → IsElement f a → power f a (m + n) ≡ times (power f a m) (power f a n)
  power-add a zero n p = ap (power f a) (omega arith) ∙ sym (one-times _ (power_is a n p))
  power-add a (suc m) n p =
      ap (power f a) (suc_sum m n) ∙ ap (λ x. times a x) (power-add a m n p) ∙ sym (l.times_assoc a _ _ p (power_is a m p) (power_is a n p))
    where
      suc_sum : (m n : ℕ) → suc m + n ≡ suc (m + n)
      suc_sum m n = omega arith

  -- ---- whole numbers
  pub natural_is : (n : ℕ) → IsElement f (natural f n)
  natural_is zero = l.zero_is
  natural_is (suc n) = l.plus_is _ _ (natural_is n) l.one_is

  pub whole_is : (z : ℤ) → IsElement f (whole f z)
  whole_is (pos n) = natural_is n
  whole_is (negsuc n) = l.minus_is _ (natural_is (suc n))

  pub natural-add : (m n : ℕ) → natural f (m + n) ≡ plus (natural f m) (natural f n)
  natural-add m zero = ap (natural f) (add-zero m) ∙ sym (l.plus-zero _ (natural_is m))
  natural-add m (suc n) = ap (natural f) (add-suc m n) ∙ ap (λ x. plus x f.one) (natural-add m n) ∙ l.plus_assoc _ _ _ (natural_is m) (natural_is n) l.one_is

  pub natural-mul : (m n : ℕ) → natural f (m * n) ≡ times (natural f m) (natural f n)
  natural-mul m zero = ap (natural f) (none_of m) ∙ sym (times-zero _ (natural_is m))
    where
      none_of : (m : ℕ) → m * zero ≡ zero
      none_of m = omega arith
  natural-mul m (suc n) =
      ap (natural f) (more m n) ∙ natural-add (m * n) m ∙ ap (λ x. plus x (natural f m)) (natural-mul m n)
      ∙ ap (λ x. plus (times (natural f m) (natural f n)) x) (sym (l.times-one _ (natural_is m)))
      ∙ sym (l.times-plus _ _ _ (natural_is m) (natural_is n) l.one_is)
    where
      more : (m n : ℕ) → m * suc n ≡ m * n + m
      more m n = omega arith

  -- a whole number is the difference of its two parts
  pub parts : ℕ → ℕ → E
  parts p m = plus (natural f p) (minus (natural f m))

  pub whole_parts : (z : ℤ) → whole f z ≡ parts (up z) (down z)
  unfolding parts
  whole_parts (pos n) = sym (ap (λ x. plus (natural f n) x) minus-zero ∙ l.plus-zero _ (natural_is n))
  whole_parts (negsuc n) = sym (zero-plus _ (l.minus_is _ (natural_is (suc n))))

  pub plus_cancel_right : (a b c : E) → IsElement f a → IsElement f b → IsElement f c → plus a c ≡ plus b c → a ≡ b
  plus_cancel_right a b c p q r e = plus_cancel c a b r p q (l.plus_comm c a r p ∙ e ∙ l.plus_comm b c q r)

  pub plus_pairs : (a b c d : E) → IsElement f a → IsElement f b → IsElement f c → IsElement f d → plus (plus a b) (plus c d) ≡ plus (plus a c) (plus b d)
  plus_pairs a b c d p q r s =
      l.plus_assoc a b _ p q (l.plus_is c d r s) ∙ ap (λ x. plus a x) (plus_swap b c d q r s) ∙ sym (l.plus_assoc a c _ p r (l.plus_is b d q s))

  parts_is : (p m : ℕ) → IsElement f (parts p m)
  unfolding parts
  parts_is p m = l.plus_is _ _ (natural_is p) (l.minus_is _ (natural_is m))

  parts_up : (p m : ℕ) → plus (parts p m) (natural f m) ≡ natural f p
  unfolding parts
  parts_up p m =
      l.plus_assoc _ _ _ (natural_is p) (l.minus_is _ (natural_is m)) (natural_is m)
      ∙ ap (λ x. plus (natural f p) x) (minus-plus _ (natural_is m)) ∙ l.plus-zero _ (natural_is p)

  pub parts_same : (p m q n : ℕ) → p + n ≡ q + m → parts p m ≡ parts q n
  parts_same p m q n e =
      plus_cancel_right _ _ (natural f (m + n)) (parts_is p m) (parts_is q n) (natural_is (m + n))
      (raised p m n ∙ ap (natural f) e ∙ sym (ap (λ x. plus (parts q n) (natural f x)) (turned m n) ∙ raised q n m))
    where
      turned : (m n : ℕ) → m + n ≡ n + m
      turned m n = omega arith

      raised : (p m n : ℕ) → plus (parts p m) (natural f (m + n)) ≡ natural f (p + n)
      raised p m n =
          ap (λ x. plus (parts p m) x) (natural-add m n) ∙ sym (l.plus_assoc _ _ _ (parts_is p m) (natural_is m) (natural_is n))
          ∙ ap (λ x. plus x (natural f n)) (parts_up p m) ∙ sym (natural-add p n)

  parts-plus : (p m q n : ℕ) → parts (p + q) (m + n) ≡ plus (parts p m) (parts q n)
  unfolding parts
  parts-plus p m q n =
      let P = natural_is p in
      let M = natural_is m in
      let Q = natural_is q in
      let N = natural_is n in
      ap (λ x. plus x (minus (natural f (m + n)))) (natural-add p q) ∙ ap (λ x. plus (plus (natural f p) (natural f q)) (minus x)) (natural-add m n)
      ∙ ap (λ x. plus (plus (natural f p) (natural f q)) x) (minus-plus_both _ _ M N)
      ∙ plus_pairs _ _ _ _ P Q (l.minus_is _ M) (l.minus_is _ N)

  parts-times : (p m q n : ℕ) → times (parts p m) (parts q n) ≡ parts (p * q + m * n) (p * n + m * q)
  unfolding parts
  parts-times p m q n =
      let P = natural_is p in
      let M = natural_is m in
      let Q = natural_is q in
      let N = natural_is n in
      let PQ = l.times_is _ _ P Q in
      let PN = l.times_is _ _ P N in
      let MQ = l.times_is _ _ M Q in
      let MN = l.times_is _ _ M N in
      let n' = l.minus_is _ N in
      let m' = l.minus_is _ M in
      plus-times _ _ _ P m' (l.plus_is _ _ Q n')
      ∙ ap (λ x. plus x (times (minus (natural f m)) (plus (natural f q) (minus (natural f n)))))
      (l.times-plus _ _ _ P Q n' ∙ ap (λ x. plus (times (natural f p) (natural f q)) x) (times-minus _ _ P N))
      ∙ ap (λ x. plus (plus (times (natural f p) (natural f q)) (minus (times (natural f p) (natural f n)))) x)
      (l.times-plus _ _ _ m' Q n' ∙ ap (λ x. plus x (times (minus (natural f m)) (minus (natural f n)))) (minus-times _ _ M Q)
      ∙ ap (λ x. plus (minus (times (natural f m) (natural f q))) x) (minus-times _ _ M n' ∙ ap minus (times-minus _ _ M N) ∙ minus-minus _ MN)
      ∙ l.plus_comm _ _ (l.minus_is _ MQ) MN)
      ∙ plus_pairs _ _ _ _ PQ (l.minus_is _ PN) MN (l.minus_is _ MQ)
      ∙ ap (λ x. plus (plus (times (natural f p) (natural f q)) (times (natural f m) (natural f n))) x) (sym (minus-plus_both _ _ PN MQ))
      ∙ sym (ap (λ x. plus x (minus (natural f (p * n + m * q)))) (natural-add (p * q) (m * n) ∙ ap (λ x. plus x (natural f (m * n))) (natural-mul p q) ∙ ap (λ x. plus (times (natural f p) (natural f q)) x) (natural-mul m n))
      ∙ ap (λ x. plus (plus (times (natural f p) (natural f q)) (times (natural f m) (natural f n))) (minus x)) (natural-add (p * n) (m * q) ∙ ap (λ x. plus x (natural f (m * q))) (natural-mul p n) ∙ ap (λ x. plus (times (natural f p) (natural f n)) x) (natural-mul m q)))

  pub whole-+ℤ : (a b : ℤ) → whole f (a +ℤ b) ≡ plus (whole f a) (whole f b)
  whole-+ℤ a b =
      whole_parts (a +ℤ b) ∙ parts_same _ _ (up a + up b) (down a + down b) (omega (arith, sum_is_lem a b))
      ∙ parts-plus (up a) (down a) (up b) (down b) ∙ ap (λ x. plus x (parts (up b) (down b))) (sym (whole_parts a)) ∙ ap (λ x. plus (whole f a) x) (sym (whole_parts b))

  pub whole-*ℤ : (a b : ℤ) → whole f (a *ℤ b) ≡ times (whole f a) (whole f b)
  whole-*ℤ a b =
      whole_parts (a *ℤ b) ∙ parts_same _ _ (up a * up b + down a * down b) (up a * down b + down a * up b) (omega (arith, (product_is a b).0, (product_is a b).1))
      ∙ sym (parts-times (up a) (down a) (up b) (down b)) ∙ ap (λ x. times x (parts (up b) (down b))) (sym (whole_parts a)) ∙ ap (λ x. times (whole f a) x) (sym (whole_parts b))

  pub whole-one : whole f (pos 1) ≡ f.one
  whole-one = zero-plus f.one l.one_is

  pub whole-neg_ℤ : (z : ℤ) → whole f (neg_ℤ z) ≡ minus (whole f z)
  whole-neg_ℤ z =
      minus_unique _ _ (whole_is z) (whole_is (neg_ℤ z)) (sym (whole-+ℤ z (neg_ℤ z)) ∙ ap (whole f) (+ℤ_invr z))

  pub whole_apart : (z : ℤ) → z ≢ pos 0 → whole f z ≢ f.zero
  whole_apart (pos zero) h e = h refl
  whole_apart (pos (suc n)) h e = l.characteristic_zero n e
  whole_apart (negsuc n) h e = l.characteristic_zero n (sym (minus-minus _ (natural_is (suc n))) ∙ ap minus e ∙ minus-zero)
