-- A polynomial has one primitive part.
use Rattle.std.specs.Prelude.{◌≡◌, ◌≢◌, ◌<◌, ℕ, zero, suc, ◌*◌, ℤ, pos, negsuc, neg_ℤ, ◌+ℤ◌, ◌*ℤ◌, ◌<ℤ◌, unsigned_abs, List, [], ◌∷◌, refl}
use Prim.Native.Nat.{◌∣◌}
use Rattle.std.proofs.Common.{arith, sym, ◌∙◌, ap, subst}
use Rattle.std.proofs.lemmas.Int.{ints, unsigned_abs-mul}
use Rattle.std.proofs.Math.IntN.{pos-*ℤ-pos, negsuc-*ℤ-pos}
use Rattle.field_laws.specs.Whole.{*ℤ-+ℤ}
use Rattle.std.specs.List.{AllByRecursion}
use Rattle.std.proofs.lemmas.Nat.Gcd.{dvd-zero, dvd_trans, dvd_antisymm}
use Rattle.std.proofs.Math.Nat.{zero-mul, one-mul, dvd-mul_right, mul-pos}
use Rattle.field_laws.specs.Rational.{gcd}
use Rattle.field_laws.specs.Gcd.{IsGcd-gcd, IsGcd-scaled_within}
use Rattle.sparse_poly.specs.declared.Term.{Term}
use Rattle.sparse_poly.specs.Polynomials.{scaled}
use Rattle.sparse_poly.specs.Primitive.{DividesAll, IsPrimitive, IsPrimitivePart}
use Rattle.sparse_poly.specs.OrderLaws.{same_term}

-- the greatest common divisor of the coefficients
pub content : List Term → ℕ
content [] = 0
content (t ∷ ts) = gcd (unsigned_abs t.coeff) (content ts)

pub all_weaker : (d e : ℕ) (ts : List Term) → d ∣ e → DividesAll e ts → DividesAll d ts
all_weaker d e [] h a = tt
all_weaker d e (t ∷ ts) h a = (dvd_trans d h a.0, all_weaker d e ts h a.1)

pub content_divides : (ts : List Term) → DividesAll (content ts) ts
unfolding content
content_divides [] = tt
content_divides (t ∷ ts) =
    let g = IsGcd-gcd (unsigned_abs t.coeff) (content ts) in
    (g.0, all_weaker _ (content ts) ts g.1 (content_divides ts))

-- what divides all multiples by c divides that of the content
pub divides_scaled : (d c : ℕ) (ts : List Term) → AllByRecursion (λ (t : Term). d ∣ unsigned_abs t.coeff * c) ts → d ∣ content ts * c
unfolding content
divides_scaled d c [] h = subst (λ n. d ∣ n) (sym (zero-mul c)) (dvd-zero d)
divides_scaled d c (t ∷ ts) h =
    (IsGcd-scaled_within c (content ts) (unsigned_abs t.coeff) (content ts) (omega arith)).2 d h.0 (divides_scaled d c ts h.1)

-- a primitive polynomial's content is 1
primitive_divides : (d c : ℕ) (t : Term) (ts : List Term) → IsPrimitive (t ∷ ts) → AllByRecursion (λ (u : Term). d ∣ unsigned_abs u.coeff * c) (t ∷ ts) → d ∣ c
primitive_divides d c t ts h a =
    let one : content (t ∷ ts) ≡ 1 = h.1 (content (t ∷ ts)) (content_divides (t ∷ ts)) in
    subst (λ n. d ∣ n) (ap (λ n. n * c) one ∙ one-mul c) (divides_scaled d c (t ∷ ts) a)

positive : (a b : ℕ) → 0 < a → 0 < b → 0 < a * b
positive a b h i = mul-pos h i

pub swap : (a b : ℕ) → a * b ≡ b * a
swap a b = omega arith

first_same : (k j : ℤ) (a b : Term) (as' bs : List Term) → scaled k (a ∷ as') ≡ scaled j (b ∷ bs) → (a.monomial ≡ b.monomial) × (k *ℤ a.coeff ≡ j *ℤ b.coeff) × (scaled k as' ≡ scaled j bs)
first_same k j a b as' bs e =
    let t : Term = record { monomial = a.monomial; coeff = k *ℤ a.coeff } in
    let u : Term = record { monomial = b.monomial; coeff = j *ℤ b.coeff } in
    let h : t ≡ u = cc e in
    let rest : scaled k as' ≡ scaled j bs = cc e in
    (ap (λ (x : Term). x.monomial) h, ap (λ (x : Term). x.coeff) h, rest)

-- the size of one factor divides all multiples of the size of the other
sizes : (k j : ℤ) (as' bs : List Term) → scaled k as' ≡ scaled j bs → AllByRecursion (λ (u : Term). unsigned_abs k ∣ unsigned_abs u.coeff * unsigned_abs j) bs
sizes k j [] [] e = tt
sizes k j [] (b ∷ bs) e = absurd (cc e)
sizes k j (a ∷ as') [] e = absurd (cc e)
sizes k j (a ∷ as') (b ∷ bs) e =
    let h = first_same k j a b as' bs e in
    (subst (λ n. unsigned_abs k ∣ n) (sym (unsigned_abs-mul k a.coeff) ∙ ap unsigned_abs h.1 ∙ unsigned_abs-mul j b.coeff ∙ swap (unsigned_abs j) (unsigned_abs b.coeff)) (dvd-mul_right (unsigned_abs k) (unsigned_abs a.coeff)), sizes k j as' bs h.2)

-- two numbers of one size, which times positive numbers are the same
same_sign : (k j a b : ℤ) → pos 0 <ℤ a → pos 0 <ℤ b → unsigned_abs k ≡ unsigned_abs j → k *ℤ a ≡ j *ℤ b → k ≡ j
same_sign (pos m) (pos n) a b h i e f = ap pos e
same_sign (negsuc m) (negsuc n) a b h i e f = ap negsuc (omega (arith, e))
same_sign (pos m) (negsuc n) (pos a) (pos b) h i e f =
    let some : 0 < suc n * b = positive (suc n) b (omega arith) (omega (arith, ints, i)) in
    absurd (apart (m * a) (suc n * b) some (sym (pos-*ℤ-pos m a) ∙ f ∙ negsuc-*ℤ-pos n b))
  where
    apart : (x y : ℕ) → 0 < y → pos x ≡ neg_ℤ (pos y) → ⊥
    apart x y l e = absurd (omega (arith, ints, e))
same_sign (pos m) (negsuc n) (negsuc a) b h i e f = absurd (omega (arith, ints, h))
same_sign (pos m) (negsuc n) (pos a) (negsuc b) h i e f = absurd (omega (arith, ints, i))
same_sign (negsuc m) (pos n) (pos a) (pos b) h i e f =
    let some : 0 < suc m * a = positive (suc m) a (omega arith) (omega (arith, ints, h)) in
    absurd (apart (n * b) (suc m * a) some (sym (pos-*ℤ-pos n b) ∙ sym f ∙ negsuc-*ℤ-pos m a))
  where
    apart : (x y : ℕ) → 0 < y → pos x ≡ neg_ℤ (pos y) → ⊥
    apart x y l e = absurd (omega (arith, ints, e))
same_sign (negsuc m) (pos n) (negsuc a) b h i e f = absurd (omega (arith, ints, h))
same_sign (negsuc m) (pos n) (pos a) (negsuc b) h i e f = absurd (omega (arith, ints, i))

pub some_size : (z : ℤ) → z ≢ pos 0 → 0 < unsigned_abs z
some_size (pos zero) n = absurd (n refl)
some_size (pos (suc m)) n = omega arith
some_size (negsuc m) n = omega arith

-- what is nonzero cancels
pub cancel_factor : (k a b : ℤ) → k ≢ pos 0 → k *ℤ a ≡ k *ℤ b → a ≡ b
cancel_factor k a b n e =
    let split : k *ℤ b ≡ (k *ℤ (a +ℤ neg_ℤ b)) +ℤ (k *ℤ b) = sym e ∙ ap (λ z. k *ℤ z) (apart a b) ∙ *ℤ-+ℤ k (a +ℤ neg_ℤ b) b in
    let zero_product : k *ℤ (a +ℤ neg_ℤ b) ≡ pos 0 = none _ _ split in
    let sizes_are : unsigned_abs k * unsigned_abs (a +ℤ neg_ℤ b) ≡ 0 = sym (unsigned_abs-mul k (a +ℤ neg_ℤ b)) ∙ ap unsigned_abs zero_product in
    same (nothing (unsigned_abs k) (unsigned_abs (a +ℤ neg_ℤ b)) (some_size k n) sizes_are)
  where
    apart : (x y : ℤ) → x ≡ (x +ℤ neg_ℤ y) +ℤ y
    apart x y = omega (arith, ints)

    none : (x y : ℤ) → y ≡ x +ℤ y → x ≡ pos 0
    none x y e = omega (arith, ints)

    nothing : (x y : ℕ) → 0 < x → x * y ≡ 0 → y ≡ 0
    nothing x zero l e = refl
    nothing x (suc y) l e = absurd (omega (arith, positive x (suc y) l (omega arith)))

    same : unsigned_abs (a +ℤ neg_ℤ b) ≡ 0 → a ≡ b
    same h = omega (arith, ints, h)

pub scaled_cancel : (k : ℤ) (as' bs : List Term) → k ≢ pos 0 → scaled k as' ≡ scaled k bs → as' ≡ bs
scaled_cancel k [] [] n e = refl
scaled_cancel k [] (b ∷ bs) n e = absurd (cc e)
scaled_cancel k (a ∷ as') [] n e = absurd (cc e)
scaled_cancel k (a ∷ as') (b ∷ bs) n e =
    let h = first_same k k a b as' bs e in
    ap (λ t. t ∷ as') (same_term a b h.0 (cancel_factor k a.coeff b.coeff n h.1)) ∙ ap (λ ts. b ∷ ts) (scaled_cancel k as' bs n h.2)

-- primitive polynomials with one multiple are the same, and so are the factors
pub same_primitive : (k j : ℤ) (q r : List Term) → k ≢ pos 0 → IsPrimitive q → IsPrimitive r → scaled k q ≡ scaled j r → q ≡ r
same_primitive k j [] [] n h i e = refl
same_primitive k j [] (b ∷ bs) n h i e = absurd (cc e)
same_primitive k j (a ∷ as') [] n h i e = absurd (cc e)
same_primitive k j (a ∷ as') (b ∷ bs) n h i e =
    let one = primitive_divides (unsigned_abs k) (unsigned_abs j) b bs i (sizes k j (a ∷ as') (b ∷ bs) e) in
    let two = primitive_divides (unsigned_abs j) (unsigned_abs k) a as' h (sizes j k (b ∷ bs) (a ∷ as') (sym e)) in
    let same : k ≡ j = same_sign k j a.coeff b.coeff h.0 i.0 (dvd_antisymm one two) (first_same k j a b as' bs e).1 in
    scaled_cancel k (a ∷ as') (b ∷ bs) n (e ∙ ap (λ z. scaled z (b ∷ bs)) (sym same))

-- a polynomial has one primitive part
pub one_primitive_part : (p q r : List Term) → IsPrimitivePart p q → IsPrimitivePart p r → q ≡ r
one_primitive_part p q r h i = same_primitive h.content i.content q r h.nonzero h.primitive i.primitive (h.product ∙ sym i.product)
