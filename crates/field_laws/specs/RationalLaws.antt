-- The rational numbers meet the laws of a field of characteristic zero.
use Prim.Native.Nat.{◌∣◌}
use Rattle.std.specs.Prelude.{◌≡◌, ◌≢◌, ℕ, zero, suc, ◌+◌, ◌*◌, ◌/◌, ◌<◌, IsTrue, ◌&&◌, ◌==◌, nat_lt, ℤ, pos, negsuc, ◌+ℤ◌, ◌*ℤ◌, neg_ℤ, nat_abs, refl}
use Rattle.std.proofs.Common.{arith, sym, ◌∙◌, ap, subst, lit≤}
use Rattle.std.specs.Int.{IsGcd}
use Rattle.std.proofs.Math.Nat.{div-mul_cancel, pos_of_dvd_of_pos, dvd_antisymm, dvd_refl, dvd-zero, dvd-mul_left, dvd-mul_right, one-dvd, one-mul, dvd_of_mul-dvd-mul_right, mul-dvd-mul_right}
use Rattle.std.proofs.lemmas.Nat.Gcd.{same_from_IsGcd, IsGcd-swap}
use Rattle.std.proofs.lemmas.Int.{unsigned_abs-mul}
use Rattle.std.proofs.lemmas.Bool.Decides.{nat_tests}
use lib.IntN.{zero-*ℤ}
use Rattle.field_laws.specs.Field.{IsField, natural}
use Rattle.field_laws.specs.Rational.{gcd, part, reduced, is_reduced, rational_plus, rational_minus, rational_times, rational_inverse, rationals}
use Rattle.field_laws.specs.Whole.{diff, is_diff, pos_is_diff, diff-minus, diff-times, diffs, same_diff, drop_factor}
use Rattle.field_laws.specs.Gcd.{IsGcd-gcd, divides_other}

-- in lowest terms, as facts
pub record IsReduced (q : ℤ × ℕ) : Type 0 where
  pub some : 0 < q.1
  pub apart : IsGcd (nat_abs q.0) q.1 1

both_tests : (d g : ℕ) → IsTrue (nat_lt 0 d && (g == 1)) → (0 < d) × (g ≡ 1)
both_tests d g t = grind (arith, nat_tests)

tests_both : (d g : ℕ) → 0 < d → g ≡ 1 → IsTrue (nat_lt 0 d && (g == 1))
tests_both d g h e = grind (arith, nat_tests)

pub IsReduced-is_reduced : (q : ℤ × ℕ) → IsTrue (is_reduced q) → IsReduced q
unfolding is_reduced
IsReduced-is_reduced q t =
    let b = both_tests q.1 (gcd (nat_abs q.0) q.1) t in
    record { some = b.0; apart = subst (λ g. IsGcd (nat_abs q.0) q.1 g) b.1 (IsGcd-gcd (nat_abs q.0) q.1) }

pub is_reduced-IsReduced : (q : ℤ × ℕ) → IsReduced q → IsTrue (is_reduced q)
unfolding is_reduced
is_reduced-IsReduced q r = tests_both q.1 (gcd (nat_abs q.0) q.1) r.some (same_from_IsGcd _ _ _ _ (IsGcd-gcd (nat_abs q.0) q.1) r.apart)

-- q is n / d
pub record Stands (q : ℤ × ℕ) (n : ℤ) (d : ℕ) : Type 0 where
  pub below : 0 < d
  pub equal : q.0 *ℤ pos d ≡ n *ℤ pos q.1

negative_times : (x g n : ℕ) → x * g ≡ suc n → neg_ℤ (pos x) *ℤ pos g ≡ negsuc n
negative_times x g n h =
    ap (λ z. z *ℤ pos g) (ap neg_ℤ (pos_is_diff x) ∙ diff-minus x 0) ∙ ap (λ z. diff 0 x *ℤ z) (pos_is_diff g) ∙ diff-times 0 x g 0
    ∙ same_diff (0 * g + x * 0) (0 * 0 + x * g) 0 (suc n) (omega (arith, h)) ∙ sym (is_diff (negsuc n))

part-times : (n : ℤ) (g : ℕ) → g ∣ nat_abs n → part n g *ℤ pos g ≡ n
part-times (pos n) g h = ap pos (div-mul_cancel g h)
part-times (negsuc n) g h = negative_times (suc n / g) g n (div-mul_cancel g h)

exchanged : (x n : ℤ) (k g d : ℕ) → x *ℤ pos g ≡ n → k * g ≡ d → x *ℤ pos d ≡ n *ℤ pos k
exchanged x n k g d e f = rw (← e, ← f, is_diff x) (simp (diffs, pos_is_diff) (same_diff _ _ _ _ (omega arith)))

pub reduced_stands : (n : ℤ) (d : ℕ) → 0 < d → Stands (reduced n d) n d
unfolding reduced
reduced_stands n d h =
    let g = IsGcd-gcd (nat_abs n) d in
    record { below = h; equal = exchanged _ n _ _ d (part-times n _ g.0) (div-mul_cancel _ g.1) }

nat_abs-neg_ℤ : (x : ℕ) → nat_abs (neg_ℤ (pos x)) ≡ x
nat_abs-neg_ℤ zero = refl
nat_abs-neg_ℤ (suc x) = refl

nat_abs-part : (n : ℤ) (g : ℕ) → nat_abs (part n g) ≡ nat_abs n / g
nat_abs-part (pos n) g = refl
nat_abs-part (negsuc n) g = nat_abs-neg_ℤ (suc n / g)

lowest : (a d g : ℕ) → 0 < d → IsGcd a d g → (0 < d / g) × IsGcd (a / g) (d / g) 1
lowest a d g h i =
    let e = div-mul_cancel g i.1 in
    let f = div-mul_cancel g i.0 in
    let k : 0 < g = pos_of_dvd_of_pos i.1 h in (
      pos_of_dvd_of_pos (subst (λ x. d / g ∣ x) e (dvd-mul_right (d / g) g)) h,
      (
        one-dvd _,
        one-dvd _,
        λ x p q. dvd_of_mul-dvd-mul_right x k (rw one-mul (i.2 (x * g) (rw f at (mul-dvd-mul_right x p g)) (rw e at (mul-dvd-mul_right x q g)))),
      ),
    )

pub reduced_is_reduced : (n : ℤ) (d : ℕ) → 0 < d → IsReduced (reduced n d)
unfolding reduced
reduced_is_reduced n d h =
    let l = lowest (nat_abs n) d _ h (IsGcd-gcd (nat_abs n) d) in
    record { some = l.0; apart = rw nat_abs-part l.1 }

pair_same : (a c : ℤ) (b d : ℕ) → a ≡ c → b ≡ d → ◌≡◌ {A = ℤ × ℕ} (a, b) (c, d)
pair_same a c b d e f = cc

some_product : (d e : ℕ) → 0 < d → 0 < e → 0 < d * e
some_product d e h k = grind arith

divides_by : (a b c d : ℕ) → IsGcd a b 1 → a * d ≡ c * b → b ∣ d
divides_by a b c d h e = divides_other b a d (IsGcd-swap a b 1 h) (rw e (dvd-mul_left b c))

same_lowest : (p q : ℤ × ℕ) → IsReduced p → IsReduced q → p.0 *ℤ pos q.1 ≡ q.0 *ℤ pos p.1 → p ≡ q
same_lowest p q r s e =
    let f : nat_abs p.0 * q.1 ≡ nat_abs q.0 * p.1 = sym (unsigned_abs-mul p.0 (pos q.1)) ∙ ap nat_abs e ∙ unsigned_abs-mul q.0 (pos p.1) in
    let g : p.1 ≡ q.1 = dvd_antisymm (divides_by _ _ _ _ r.apart f) (divides_by _ _ _ _ s.apart (sym f)) in
    pair_same p.0 q.0 p.1 q.1 (drop_factor p.0 q.0 q.1 s.some (subst (λ x. p.0 *ℤ pos q.1 ≡ q.0 *ℤ pos x) g e)) g

crossed : (p n q m : ℤ) (a b d e : ℕ) → p *ℤ pos d ≡ n *ℤ pos a → q *ℤ pos e ≡ m *ℤ pos b → n *ℤ pos e ≡ m *ℤ pos d → (p *ℤ pos b) *ℤ pos (d * e) ≡ (q *ℤ pos a) *ℤ pos (d * e)
crossed p n q m a b d e h k l =
    one p a b d e ∙ ap (λ x. x *ℤ pos (b * e)) h ∙ two n a b e ∙ ap (λ x. x *ℤ pos (a * b)) l ∙ three m a b d ∙ ap (λ x. x *ℤ pos (a * d)) (sym k) ∙ four q a d e
  where
    one : (p : ℤ) (a b d e : ℕ) → (p *ℤ pos b) *ℤ pos (d * e) ≡ (p *ℤ pos d) *ℤ pos (b * e)
    one p a b d e = rw (is_diff p) (simp (diffs, pos_is_diff) (same_diff _ _ _ _ (omega arith)))

    two : (n : ℤ) (a b e : ℕ) → (n *ℤ pos a) *ℤ pos (b * e) ≡ (n *ℤ pos e) *ℤ pos (a * b)
    two p a b e = rw (is_diff p) (simp (diffs, pos_is_diff) (same_diff _ _ _ _ (omega arith)))

    three : (m : ℤ) (a b d : ℕ) → (m *ℤ pos d) *ℤ pos (a * b) ≡ (m *ℤ pos b) *ℤ pos (a * d)
    three p a b e = rw (is_diff p) (simp (diffs, pos_is_diff) (same_diff _ _ _ _ (omega arith)))

    four : (q : ℤ) (a d e : ℕ) → (q *ℤ pos e) *ℤ pos (a * d) ≡ (q *ℤ pos a) *ℤ pos (d * e)
    four p a d e = rw (is_diff p) (simp (diffs, pos_is_diff) (same_diff _ _ _ _ (omega arith)))

-- two pairs in lowest terms that stand for one number are one
pub same_stands : (p q : ℤ × ℕ) (n m : ℤ) (d e : ℕ) → IsReduced p → IsReduced q → Stands p n d → Stands q m e → n *ℤ pos e ≡ m *ℤ pos d → p ≡ q
same_stands p q n m d e r s a b h =
    same_lowest p q r s (drop_factor _ _ (d * e) (some_product d e a.below b.below) (crossed p.0 n q.0 m p.1 q.1 d e a.equal b.equal h))

plus_crossed : (p q s n m : ℤ) (a b c d e : ℕ) → s *ℤ pos (a * b) ≡ ((p *ℤ pos b) +ℤ (q *ℤ pos a)) *ℤ pos c → p *ℤ pos d ≡ n *ℤ pos a → q *ℤ pos e ≡ m *ℤ pos b → (s *ℤ pos (d * e)) *ℤ pos (a * b) ≡ (((n *ℤ pos e) +ℤ (m *ℤ pos d)) *ℤ pos c) *ℤ pos (a * b)
plus_crossed p q s n m a b c d e h k l =
    one s a b d e ∙ ap (λ x. x *ℤ pos (d * e)) h ∙ two p q a b c d e ∙ ap (λ x. (x *ℤ pos (b * e * c)) +ℤ ((q *ℤ pos e) *ℤ pos (a * d * c))) k ∙ ap (λ x. ((n *ℤ pos a) *ℤ pos (b * e * c)) +ℤ (x *ℤ pos (a * d * c))) l ∙ three n m a b c d e
  where
    one : (s : ℤ) (a b d e : ℕ) → (s *ℤ pos (d * e)) *ℤ pos (a * b) ≡ (s *ℤ pos (a * b)) *ℤ pos (d * e)
    one p a b d e = rw (is_diff p) (simp (diffs, pos_is_diff) (same_diff _ _ _ _ (omega arith)))

    two : (p q : ℤ) (a b c d e : ℕ) → (((p *ℤ pos b) +ℤ (q *ℤ pos a)) *ℤ pos c) *ℤ pos (d * e) ≡ ((p *ℤ pos d) *ℤ pos (b * e * c)) +ℤ ((q *ℤ pos e) *ℤ pos (a * d * c))
    two p q a b c d e = rw (is_diff p, is_diff q) (simp (diffs, pos_is_diff) (same_diff _ _ _ _ (omega arith)))

    three : (n m : ℤ) (a b c d e : ℕ) → ((n *ℤ pos a) *ℤ pos (b * e * c)) +ℤ ((m *ℤ pos b) *ℤ pos (a * d * c)) ≡ (((n *ℤ pos e) +ℤ (m *ℤ pos d)) *ℤ pos c) *ℤ pos (a * b)
    three p q a b c d e = rw (is_diff p, is_diff q) (simp (diffs, pos_is_diff) (same_diff _ _ _ _ (omega arith)))

pub plus_stands : (p q : ℤ × ℕ) (n m : ℤ) (d e : ℕ) → 0 < p.1 → 0 < q.1 → Stands p n d → Stands q m e → Stands (rational_plus p q) ((n *ℤ pos e) +ℤ (m *ℤ pos d)) (d * e)
unfolding rational_plus
plus_stands p q n m d e i j a b =
    let k = some_product p.1 q.1 i j in
    let s = reduced_stands ((p.0 *ℤ pos q.1) +ℤ (q.0 *ℤ pos p.1)) (p.1 * q.1) k in
    record { below = some_product d e a.below b.below; equal = drop_factor _ _ (p.1 * q.1) k (plus_crossed p.0 q.0 _ n m p.1 q.1 _ d e s.equal a.equal b.equal) }

times_crossed : (p q s n m : ℤ) (a b c d e : ℕ) → s *ℤ pos (a * b) ≡ (p *ℤ q) *ℤ pos c → p *ℤ pos d ≡ n *ℤ pos a → q *ℤ pos e ≡ m *ℤ pos b → (s *ℤ pos (d * e)) *ℤ pos (a * b) ≡ ((n *ℤ m) *ℤ pos c) *ℤ pos (a * b)
times_crossed p q s n m a b c d e h k l =
    one s a b d e ∙ ap (λ x. x *ℤ pos (d * e)) h ∙ two p q c d e ∙ ap (λ x. (x *ℤ (q *ℤ pos e)) *ℤ pos c) k ∙ ap (λ x. ((n *ℤ pos a) *ℤ x) *ℤ pos c) l ∙ three n m a b c
  where
    one : (s : ℤ) (a b d e : ℕ) → (s *ℤ pos (d * e)) *ℤ pos (a * b) ≡ (s *ℤ pos (a * b)) *ℤ pos (d * e)
    one p a b d e = rw (is_diff p) (simp (diffs, pos_is_diff) (same_diff _ _ _ _ (omega arith)))

    two : (p q : ℤ) (c d e : ℕ) → ((p *ℤ q) *ℤ pos c) *ℤ pos (d * e) ≡ ((p *ℤ pos d) *ℤ (q *ℤ pos e)) *ℤ pos c
    two p q c d e = rw (is_diff p, is_diff q) (simp (diffs, pos_is_diff) (same_diff _ _ _ _ (omega arith)))

    three : (n m : ℤ) (a b c : ℕ) → ((n *ℤ pos a) *ℤ (m *ℤ pos b)) *ℤ pos c ≡ ((n *ℤ m) *ℤ pos c) *ℤ pos (a * b)
    three p q a b c = rw (is_diff p, is_diff q) (simp (diffs, pos_is_diff) (same_diff _ _ _ _ (omega arith)))

pub times_stands : (p q : ℤ × ℕ) (n m : ℤ) (d e : ℕ) → 0 < p.1 → 0 < q.1 → Stands p n d → Stands q m e → Stands (rational_times p q) (n *ℤ m) (d * e)
unfolding rational_times
times_stands p q n m d e i j a b =
    let k = some_product p.1 q.1 i j in
    let s = reduced_stands (p.0 *ℤ q.0) (p.1 * q.1) k in
    record { below = some_product d e a.below b.below; equal = drop_factor _ _ (p.1 * q.1) k (times_crossed p.0 q.0 _ n m p.1 q.1 _ d e s.equal a.equal b.equal) }

pub minus_stands : (p : ℤ × ℕ) (n : ℤ) (d : ℕ) → Stands p n d → Stands (rational_minus p) (neg_ℤ n) d
unfolding rational_minus
minus_stands p n d a = record { below = a.below; equal = left p.0 d ∙ ap neg_ℤ a.equal ∙ sym (left n p.1) }
  where
    left : (p : ℤ) (d : ℕ) → neg_ℤ p *ℤ pos d ≡ neg_ℤ (p *ℤ pos d)
    left p d = rw (is_diff p) (simp (diffs, pos_is_diff) (same_diff _ _ _ _ (omega arith)))

pub self_stands : (p : ℤ × ℕ) → IsReduced p → Stands p p.0 p.1
self_stands p r = record { below = r.some; equal = refl }

pub plus_reduced : (p q : ℤ × ℕ) → IsReduced p → IsReduced q → IsReduced (rational_plus p q)
unfolding rational_plus
plus_reduced p q r s = reduced_is_reduced _ _ (some_product p.1 q.1 r.some s.some)

pub times_reduced : (p q : ℤ × ℕ) → IsReduced p → IsReduced q → IsReduced (rational_times p q)
unfolding rational_times
times_reduced p q r s = reduced_is_reduced _ _ (some_product p.1 q.1 r.some s.some)

nat_abs-neg : (n : ℤ) → nat_abs (neg_ℤ n) ≡ nat_abs n
nat_abs-neg (pos zero) = refl
nat_abs-neg (pos (suc n)) = refl
nat_abs-neg (negsuc n) = refl

pub minus_reduced : (p : ℤ × ℕ) → IsReduced p → IsReduced (rational_minus p)
unfolding rational_minus
minus_reduced p r = record { some = r.some; apart = rw nat_abs-neg r.apart }

zero_reduced : IsReduced (pos 0, 1)
zero_reduced = record { some = lit≤ tt; apart = (one-dvd 0, one-dvd 1, λ d p q. q) }

one_reduced : IsReduced (pos 1, 1)
one_reduced = record { some = lit≤ tt; apart = (one-dvd 1, one-dvd 1, λ d p q. q) }

zero_stands : (d : ℕ) → 0 < d → Stands (pos 0, 1) (pos 0) d
zero_stands d h = record { below = h; equal = zero-*ℤ (pos d) ∙ sym (zero-*ℤ (pos 1)) }

plus_comm : (p q : ℤ × ℕ) → IsReduced p → IsReduced q → rational_plus p q ≡ rational_plus q p
plus_comm p q r s =
    same_stands _ _ _ _ _ _ (plus_reduced p q r s) (plus_reduced q p s r)
    (plus_stands p q _ _ _ _ r.some s.some (self_stands p r) (self_stands q s))
    (plus_stands q p _ _ _ _ s.some r.some (self_stands q s) (self_stands p r))
    (law p.0 q.0 p.1 q.1)
  where
    law : (p q : ℤ) (a b : ℕ) → ((p *ℤ pos b) +ℤ (q *ℤ pos a)) *ℤ pos (b * a) ≡ ((q *ℤ pos a) +ℤ (p *ℤ pos b)) *ℤ pos (a * b)
    law p q a b = rw (is_diff p, is_diff q) (simp (diffs, pos_is_diff) (same_diff _ _ _ _ (omega arith)))

plus_assoc : (p q t : ℤ × ℕ) → IsReduced p → IsReduced q → IsReduced t → rational_plus (rational_plus p q) t ≡ rational_plus p (rational_plus q t)
plus_assoc p q t r s u =
    let pq = plus_reduced p q r s in
    let qt = plus_reduced q t s u in
    same_stands _ _ _ _ _ _ (plus_reduced _ t pq u) (plus_reduced p _ r qt)
    (plus_stands _ t _ _ _ _ pq.some u.some (plus_stands p q _ _ _ _ r.some s.some (self_stands p r) (self_stands q s)) (self_stands t u))
    (plus_stands p _ _ _ _ _ r.some qt.some (self_stands p r) (plus_stands q t _ _ _ _ s.some u.some (self_stands q s) (self_stands t u)))
    (law p.0 q.0 t.0 p.1 q.1 t.1)
  where
    law : (p q t : ℤ) (a b c : ℕ) → ((((p *ℤ pos b) +ℤ (q *ℤ pos a)) *ℤ pos c) +ℤ (t *ℤ pos (a * b))) *ℤ pos (a * (b * c)) ≡ ((p *ℤ pos (b * c)) +ℤ (((q *ℤ pos c) +ℤ (t *ℤ pos b)) *ℤ pos a)) *ℤ pos (a * b * c)
    law p q t a b c = rw (is_diff p, is_diff q, is_diff t) (simp (diffs, pos_is_diff) (same_diff _ _ _ _ (omega arith)))

plus-minus : (p : ℤ × ℕ) → IsReduced p → rational_plus p (rational_minus p) ≡ (pos 0, 1)
plus-minus p r =
    let m = minus_reduced p r in
    same_stands _ _ _ _ _ _ (plus_reduced p _ r m) zero_reduced
    (plus_stands p _ _ _ _ _ r.some m.some (self_stands p r) (minus_stands p _ _ (self_stands p r)))
    (zero_stands 1 (lit≤ tt))
    (law p.0 p.1)
  where
    law : (p : ℤ) (a : ℕ) → ((p *ℤ pos a) +ℤ (neg_ℤ p *ℤ pos a)) *ℤ pos 1 ≡ pos 0 *ℤ pos (a * a)
    law p a = rw (is_diff p) (simp (diffs, pos_is_diff) (same_diff _ _ _ _ (omega arith)))

times-plus : (p q t : ℤ × ℕ) → IsReduced p → IsReduced q → IsReduced t → rational_times p (rational_plus q t) ≡ rational_plus (rational_times p q) (rational_times p t)
times-plus p q t r s u =
    let qt = plus_reduced q t s u in
    let pq = times_reduced p q r s in
    let pt = times_reduced p t r u in
    same_stands _ _ _ _ _ _ (times_reduced p _ r qt) (plus_reduced _ _ pq pt)
    (times_stands p _ _ _ _ _ r.some qt.some (self_stands p r) (plus_stands q t _ _ _ _ s.some u.some (self_stands q s) (self_stands t u)))
    (plus_stands _ _ _ _ _ _ pq.some pt.some (times_stands p q _ _ _ _ r.some s.some (self_stands p r) (self_stands q s)) (times_stands p t _ _ _ _ r.some u.some (self_stands p r) (self_stands t u)))
    (law p.0 q.0 t.0 p.1 q.1 t.1)
  where
    law : (p q t : ℤ) (a b c : ℕ) → (p *ℤ ((q *ℤ pos c) +ℤ (t *ℤ pos b))) *ℤ pos ((a * b) * (a * c)) ≡ (((p *ℤ q) *ℤ pos (a * c)) +ℤ ((p *ℤ t) *ℤ pos (a * b))) *ℤ pos (a * (b * c))
    law p q t a b c = rw (is_diff p, is_diff q, is_diff t) (simp (diffs, pos_is_diff) (same_diff _ _ _ _ (omega arith)))

times_comm : (p q : ℤ × ℕ) → IsReduced p → IsReduced q → rational_times p q ≡ rational_times q p
times_comm p q r s =
    same_stands _ _ _ _ _ _ (times_reduced p q r s) (times_reduced q p s r)
    (times_stands p q _ _ _ _ r.some s.some (self_stands p r) (self_stands q s))
    (times_stands q p _ _ _ _ s.some r.some (self_stands q s) (self_stands p r))
    (law p.0 q.0 p.1 q.1)
  where
    law : (p q : ℤ) (a b : ℕ) → (p *ℤ q) *ℤ pos (b * a) ≡ (q *ℤ p) *ℤ pos (a * b)
    law p q a b = rw (is_diff p, is_diff q) (simp (diffs, pos_is_diff) (same_diff _ _ _ _ (omega arith)))

times_assoc : (p q t : ℤ × ℕ) → IsReduced p → IsReduced q → IsReduced t → rational_times (rational_times p q) t ≡ rational_times p (rational_times q t)
times_assoc p q t r s u =
    let pq = times_reduced p q r s in
    let qt = times_reduced q t s u in
    same_stands _ _ _ _ _ _ (times_reduced _ t pq u) (times_reduced p _ r qt)
    (times_stands _ t _ _ _ _ pq.some u.some (times_stands p q _ _ _ _ r.some s.some (self_stands p r) (self_stands q s)) (self_stands t u))
    (times_stands p _ _ _ _ _ r.some qt.some (self_stands p r) (times_stands q t _ _ _ _ s.some u.some (self_stands q s) (self_stands t u)))
    (law p.0 q.0 t.0 p.1 q.1 t.1)
  where
    law : (p q t : ℤ) (a b c : ℕ) → ((p *ℤ q) *ℤ t) *ℤ pos (a * (b * c)) ≡ (p *ℤ (q *ℤ t)) *ℤ pos (a * b * c)
    law p q t a b c = rw (is_diff p, is_diff q, is_diff t) (simp (diffs, pos_is_diff) (same_diff _ _ _ _ (omega arith)))

plus-zero : (p : ℤ × ℕ) → IsReduced p → rational_plus p (pos 0, 1) ≡ p
plus-zero p r =
    same_stands _ _ _ _ _ _ (plus_reduced p _ r zero_reduced) r
    (plus_stands p _ _ _ _ _ r.some zero_reduced.some (self_stands p r) (zero_stands 1 (lit≤ tt)))
    (self_stands p r)
    (law p.0 p.1)
  where
    law : (p : ℤ) (a : ℕ) → ((p *ℤ pos 1) +ℤ (pos 0 *ℤ pos a)) *ℤ pos a ≡ p *ℤ pos (a * 1)
    law p a = rw (is_diff p) (simp (diffs, pos_is_diff) (same_diff _ _ _ _ (omega arith)))

times-one : (p : ℤ × ℕ) → IsReduced p → rational_times p (pos 1, 1) ≡ p
times-one p r =
    same_stands _ _ _ _ _ _ (times_reduced p _ r one_reduced) r
    (times_stands p _ _ _ _ _ r.some one_reduced.some (self_stands p r) (self_stands _ one_reduced))
    (self_stands p r)
    (law p.0 p.1)
  where
    law : (p : ℤ) (a : ℕ) → (p *ℤ pos 1) *ℤ pos a ≡ p *ℤ pos (a * 1)
    law p a = rw (is_diff p) (simp (diffs, pos_is_diff) (same_diff _ _ _ _ (omega arith)))

zero_at : (d : ℕ) → IsReduced (pos 0, d) → ◌≡◌ {A = ℤ × ℕ} (pos 0, d) (pos 0, 1)
zero_at d r = pair_same (pos 0) (pos 0) d 1 refl (dvd_antisymm (r.apart.2 d (dvd-zero d) (dvd_refl d)) (one-dvd d))

inverse_reduced : (p : ℤ × ℕ) → IsReduced p → p ≢ (pos 0, 1) → IsReduced (rational_inverse p)
unfolding rational_inverse
inverse_reduced (pos zero, d) r h = absurd (h (zero_at d r))
inverse_reduced (pos (suc n), d) r h = record { some = omega arith; apart = IsGcd-swap _ _ _ r.apart }
inverse_reduced (negsuc n, d) r h = record { some = omega arith; apart = rw nat_abs-neg_ℤ (IsGcd-swap _ _ _ r.apart) }

times-inverse : (p : ℤ × ℕ) → IsReduced p → p ≢ (pos 0, 1) → rational_times p (rational_inverse p) ≡ (pos 1, 1)
unfolding rational_inverse
times-inverse p r h =
    let i = inverse_reduced p r h in
    same_stands _ _ _ _ _ _ (times_reduced p _ r i) one_reduced
    (times_stands p _ _ _ _ _ r.some i.some (self_stands p r) (self_stands _ i))
    (self_stands _ one_reduced)
    (law p r h)
  where
    back : (n d : ℕ) → (pos n *ℤ pos d) *ℤ pos 1 ≡ pos 1 *ℤ pos (d * n)
    back n d = simp (diffs, pos_is_diff) (same_diff _ _ _ _ (omega arith))

    under : (n d : ℕ) → (negsuc n *ℤ neg_ℤ (pos d)) *ℤ pos 1 ≡ pos 1 *ℤ pos (d * suc n)
    under n d =
        ap (λ z. (negsuc n *ℤ z) *ℤ pos 1) (ap neg_ℤ (pos_is_diff d) ∙ diff-minus d 0) ∙ ap (λ z. (z *ℤ diff 0 d) *ℤ pos 1) (is_diff (negsuc n))
        ∙ simp (diffs, pos_is_diff) (same_diff _ _ _ _ (omega arith))

    law : (p : ℤ × ℕ) → IsReduced p → p ≢ (pos 0, 1) → (p.0 *ℤ (rational_inverse p).0) *ℤ pos 1 ≡ pos 1 *ℤ pos (p.1 * (rational_inverse p).1)
    law (pos zero, d) r h = absurd (h (zero_at d r))
    law (pos (suc n), d) r h = back (suc n) d
    law (negsuc n, d) r h = under n d

whole_reduced : (n : ℤ) → IsReduced (n, 1)
whole_reduced n = record { some = lit≤ tt; apart = (one-dvd _, one-dvd 1, λ d p q. q) }

pub natural-rationals : (n : ℕ) → natural rationals n ≡ (pos n, 1)
natural-rationals zero = refl
natural-rationals (suc n) =
    ap (λ x. rational_plus x (pos 1, 1)) (natural-rationals n)
    ∙ same_stands _ _ _ _ _ _ (plus_reduced _ _ (whole_reduced (pos n)) one_reduced) (whole_reduced (pos (suc n)))
    (plus_stands _ _ _ _ _ _ (lit≤ tt) (lit≤ tt) (self_stands _ (whole_reduced (pos n))) (self_stands _ one_reduced))
    (self_stands _ (whole_reduced (pos (suc n))))
    (law n)
  where
    law : (n : ℕ) → ((pos n *ℤ pos 1) +ℤ (pos 1 *ℤ pos 1)) *ℤ pos 1 ≡ pos (suc n) *ℤ pos (1 * 1)
    law n = simp (diffs, pos_is_diff) (same_diff _ _ _ _ (omega arith))

above_zero : (n : ℕ) → natural rationals (suc n) ≢ (pos 0, 1)
above_zero n e = apart n (ap (λ (q : ℤ × ℕ). q.0) (sym (natural-rationals (suc n)) ∙ e))
  where
    apart : (n : ℕ) → pos (suc n) ≡ pos 0 → ⊥
    apart n e = cc

pub rational_laws : IsField rationals
rational_laws = record {
  zero_is = is_reduced-IsReduced _ zero_reduced;
  one_is = is_reduced-IsReduced _ one_reduced;
  plus_is = λ a b p q. is_reduced-IsReduced _ (plus_reduced a b (IsReduced-is_reduced a p) (IsReduced-is_reduced b q));
  minus_is = λ a p. is_reduced-IsReduced _ (minus_reduced a (IsReduced-is_reduced a p));
  times_is = λ a b p q. is_reduced-IsReduced _ (times_reduced a b (IsReduced-is_reduced a p) (IsReduced-is_reduced b q));
  inverse_is = λ a p h. is_reduced-IsReduced _ (inverse_reduced a (IsReduced-is_reduced a p) h);
  plus_comm = λ a b p q. plus_comm a b (IsReduced-is_reduced a p) (IsReduced-is_reduced b q);
  plus_assoc = λ a b c p q r. plus_assoc a b c (IsReduced-is_reduced a p) (IsReduced-is_reduced b q) (IsReduced-is_reduced c r);
  plus-zero = λ a p. plus-zero a (IsReduced-is_reduced a p);
  plus-minus = λ a p. plus-minus a (IsReduced-is_reduced a p);
  times_comm = λ a b p q. times_comm a b (IsReduced-is_reduced a p) (IsReduced-is_reduced b q);
  times_assoc = λ a b c p q r. times_assoc a b c (IsReduced-is_reduced a p) (IsReduced-is_reduced b q) (IsReduced-is_reduced c r);
  times-one = λ a p. times-one a (IsReduced-is_reduced a p);
  times-plus = λ a b c p q r. times-plus a b c (IsReduced-is_reduced a p) (IsReduced-is_reduced b q) (IsReduced-is_reduced c r);
  times-inverse = λ a p h. times-inverse a (IsReduced-is_reduced a p) h;
  characteristic_zero = above_zero;
}
