-- Contents and exact quotients.
use Rattle.std.specs.Prelude.{◌≡◌, ◌≢◌, ◌<◌, ◌≤◌, ℕ, zero, suc, ◌+◌, ◌*◌, ◌/◌, ◌%◌, ◌⊎◌, ℤ, pos, negsuc, neg_ℤ, ◌+ℤ◌, ◌*ℤ◌, ◌<ℤ◌, unsigned_abs, List, [], ◌∷◌, ◌++◌, length, slice_index_or, slice_get, take, drop, min, int_div, int_rem, refl}
use Prim.Native.Nat.{◌∣◌}
use mathlib.Core.Logic.{inl, inr}
use Rattle.std.proofs.Common.{arith, sym, ◌∙◌, ap, subst}
use Rattle.std.proofs.lemmas.Int.{ints, unsigned_abs-mul, quot-rem, rem_below}
use Rattle.std.proofs.Math.IntN.{*ℤ-zero, *ℤ_comm, pos-*ℤ-negsuc, negsuc-*ℤ-negsuc}
use Rattle.std.proofs.Math.Nat.{div-add-mod', mul-dvd-mul_right, eq-zero_of_zero-dvd, one-dvd}
use Rattle.std.proofs.lemmas.List.{take-append-drop}
use Rattle.std.proofs.lemmas.Nat.Gcd.{le_of_dvd, mod-eq-zero_of_dvd}
use Rattle.std.specs.Int.{IsGcd}
use Rattle.std.specs.List.{AllByRecursion}
use Rattle.std.specs.declared.option.Option.TheVariants.{Some}
use Rattle.std.specs.declared.cmp.Ordering.TheVariants.{Less}
use Rattle.field_laws.specs.Whole.{*ℤ-+ℤ}
use Rattle.monomial.specs.Monomials.{exponent, monomial_cmp, monomial_times, IsMonomial, IsPowers}
use Rattle.monomial.proofs.Lower.{monomial_cmp-times_back}
use Rattle.sparse_poly.specs.declared.Term.{Term}
use Rattle.sparse_poly.specs.Polynomials.{row, term_times}
use Rattle.sparse_poly.specs.Contributions.{max_coeff, IsFalling, IsPoly}
use Rattle.sparse_poly.specs.Primitive.{DividesAll, IsPrimitive}
use Rattle.sparse_poly.specs.Standing.{AllMonomials}
use Rattle.sparse_poly.specs.Factors.{IsCommonDivisor, HasLeadingSign, IsSignedSize, IsContent, IsQuotient, least_exponent}
use Rattle.sparse_poly.proofs.Adding.{take_one}
use Rattle.sparse_poly.proofs.Descending.{all_more}
use Rattle.sparse_poly.specs.OrderLaws.{same_term}
use Rattle.sparse_poly.proofs.PrimitiveParts.{some_size, all_weaker, swap}

-- what has a divisor's multiples between it and a smaller one
nothing_between : (d y : ℕ) → d * y < d → y ≡ 0
nothing_between d zero l = refl
nothing_between d (suc y) l = absurd (omega arith)

zero_size : (z : ℤ) → unsigned_abs z ≡ 0 → z ≡ pos 0
zero_size z e = omega (arith, ints, e)

small_multiple : (r d y : ℤ) → unsigned_abs r ≡ unsigned_abs (d *ℤ y) → unsigned_abs r < unsigned_abs d → r ≡ pos 0
small_multiple r d y e l =
    let size : unsigned_abs r ≡ unsigned_abs d * unsigned_abs y = e ∙ unsigned_abs-mul d y in
    let none : unsigned_abs y ≡ 0 = nothing_between (unsigned_abs d) (unsigned_abs y) (omega (arith, l, size)) in
    zero_size r (size ∙ ap (λ n. unsigned_abs d * n) none ∙ times_zero (unsigned_abs d))
  where
    times_zero : (n : ℕ) → n * 0 ≡ 0
    times_zero n = omega arith

-- a remainder of what divides
pub no_remainder : (d q r a m : ℤ) → (q *ℤ d) +ℤ r ≡ a → (a ≡ d *ℤ m) ⊎ (a ≡ neg_ℤ (d *ℤ m)) → unsigned_abs r < unsigned_abs d → r ≡ pos 0
no_remainder d q r a m e (inl f) l =
    let split : d *ℤ m ≡ (d *ℤ (m +ℤ neg_ℤ q)) +ℤ (d *ℤ q) = ap (λ z. d *ℤ z) (back m q) ∙ *ℤ-+ℤ d (m +ℤ neg_ℤ q) q in
    small_multiple r d (m +ℤ neg_ℤ q) (ap unsigned_abs (same (q *ℤ d) (d *ℤ q) r a (d *ℤ m) (d *ℤ (m +ℤ neg_ℤ q)) (*ℤ_comm q d) e f split)) l
  where
    back : (x y : ℤ) → x ≡ (x +ℤ neg_ℤ y) +ℤ y
    back x y = omega (arith, ints)

    same : (qd dq r a dm z : ℤ) → qd ≡ dq → qd +ℤ r ≡ a → a ≡ dm → dm ≡ z +ℤ dq → r ≡ z
    same qd dq r a dm z e f g h = omega (arith, ints)
no_remainder d q r a m e (inr f) l =
    small_multiple r d (m +ℤ q) (ap unsigned_abs (same (q *ℤ d) (d *ℤ q) r a (d *ℤ m) (d *ℤ (m +ℤ q)) (*ℤ_comm q d) e f (*ℤ-+ℤ d m q)) ∙ turned (d *ℤ (m +ℤ q))) l
  where
    same : (qd dq r a dm z : ℤ) → qd ≡ dq → qd +ℤ r ≡ a → a ≡ neg_ℤ dm → z ≡ dm +ℤ dq → r ≡ neg_ℤ z
    same qd dq r a dm z e f g h = omega (arith, ints)

    turned : (z : ℤ) → unsigned_abs (neg_ℤ z) ≡ unsigned_abs z
    turned z = omega (arith, ints)

either_sign : (a b : ℤ) → unsigned_abs a ≡ unsigned_abs b → (a ≡ b) ⊎ (a ≡ neg_ℤ b)
either_sign (pos m) (pos n) e = inl (ap pos e)
either_sign (pos m) (negsuc n) e = inr (omega (arith, ints, e))
either_sign (negsuc m) (pos n) e = inr (omega (arith, ints, e))
either_sign (negsuc m) (negsuc n) e = inl (omega (arith, ints, e))

-- the quotient by what divides
pub exact_quotient : (a d : ℤ) → d ≢ pos 0 → unsigned_abs d ∣ unsigned_abs a → d *ℤ int_div a d ≡ a
exact_quotient a d n h =
    let k = unsigned_abs a / unsigned_abs d in
    let none : unsigned_abs a % unsigned_abs d ≡ 0 = mod-eq-zero_of_dvd (unsigned_abs d) h in
    let whole : unsigned_abs a ≡ unsigned_abs d * k = omega (arith, none, div-add-mod' (unsigned_abs a) (unsigned_abs d)) in
    let sign = either_sign a (d *ℤ pos k) (whole ∙ sym (unsigned_abs-mul d (pos k))) in
    let gone : int_rem a d ≡ pos 0 = no_remainder d (int_div a d) (int_rem a d) a (pos k) (quot-rem a d) sign (rem_below a d (some_size d n)) in
    *ℤ_comm d (int_div a d) ∙ plain (int_div a d *ℤ d) (int_rem a d) a (quot-rem a d) gone
  where
    plain : (x r a : ℤ) → x +ℤ r ≡ a → r ≡ pos 0 → x ≡ a
    plain x r a e f = omega (arith, ints)

-- a factor of a product is no greater than the product
pub factor_small : (d y a : ℤ) → d ≢ pos 0 → d *ℤ y ≡ a → unsigned_abs y ≤ unsigned_abs a
factor_small d y a n e = least (unsigned_abs d) (unsigned_abs y) (unsigned_abs a) (some_size d n) (sym (unsigned_abs-mul d y) ∙ ap unsigned_abs e)
  where
    least : (d y a : ℕ) → 0 < d → d * y ≡ a → y ≤ a
    least zero y a l e = absurd (omega arith)
    least (suc d) y a l e = omega (arith, e)

-- common divisors
front_all : (d : ℕ) (ts us : List Term) → DividesAll d (ts ++ us) → DividesAll d ts
front_all d [] us h = tt
front_all d (t ∷ ts) us h = (h.0, front_all d ts us h.1)

last_all : (d : ℕ) (ts : List Term) (t : Term) → DividesAll d (ts ++ t ∷ []) → d ∣ unsigned_abs t.coeff
last_all d [] t h = h.0
last_all d (u ∷ us) t h = last_all d us t h.1

pub IsCommonDivisor-more : (ts : List Term) (k : ℕ) (t : Term) (g n h : ℕ) → k < length ts → t ≡ slice_index_or ts k t → IsCommonDivisor (take k ts) g → n ≡ unsigned_abs t.coeff → IsGcd g n h → IsCommonDivisor (take (k + 1) ts) h
IsCommonDivisor-more ts k t g n h l e c s i =
    let longer : take (k + 1) ts ≡ take k ts ++ t ∷ [] = take_one ts k t l e in
    subst (λ us. IsCommonDivisor us h) (sym longer) (record {
      divides = all_more (λ (u : Term). h ∣ unsigned_abs u.coeff) (take k ts) t (all_weaker h g (take k ts) i.0 c.divides) (subst (λ m. h ∣ m) s i.1);
      greatest = λ d a. i.2 d (c.greatest d (front_all d (take k ts) (t ∷ []) a)) (subst (λ m. d ∣ m) (sym s) (last_all d (take k ts) t a));
    })

-- one is the greatest common divisor of all where it is that of some
one_all : (ts : List Term) → DividesAll 1 ts
one_all [] = tt
one_all (t ∷ ts) = (one-dvd (unsigned_abs t.coeff), one_all ts)

pub IsCommonDivisor-one : (ts : List Term) (k : ℕ) → IsCommonDivisor (take k ts) 1 → IsCommonDivisor ts 1
IsCommonDivisor-one ts k c = record {
  divides = one_all ts;
  greatest = λ d a. c.greatest d (front_all d (take k ts) (drop k ts) (subst (DividesAll d) (sym (take-append-drop k ts)) a));
}

-- the content
size_some : (n : ℕ) (z : ℤ) → z ≢ pos 0 → n ∣ unsigned_abs z → 0 < n
size_some zero z n h = absurd (omega (arith, some_size z n, eq-zero_of_zero-dvd h))
size_some (suc m) z n h = omega arith

size_of : (z c : ℤ) (n : ℕ) → IsSignedSize z n c → unsigned_abs c ≡ n
size_of z c n (inl h) = ap unsigned_abs h.0
size_of z c n (inr h) = ap unsigned_abs h.0 ∙ turned n
  where
    turned : (n : ℕ) → unsigned_abs (neg_ℤ (pos n)) ≡ n
    turned n = omega (arith, ints)

pub content_small : (ts : List Term) (t : Term) (g : ℕ) → Some t ≡ slice_get ts 0 → IsPoly ts → IsCommonDivisor ts g → (t.coeff ≢ pos 0) × (g ≤ max_coeff)
content_small [] t g e h c = absurd (cc e)
content_small (x ∷ xs) t g e h c =
    let same : t ≡ x = cc e in
    let fits : unsigned_abs x.coeff ≤ max_coeff = h.in_range.0 in
    let part : g ≤ unsigned_abs x.coeff = le_of_dvd (some_size x.coeff h.apart.0) c.divides.0 in
    (λ z. h.apart.0 (ap (λ (u : Term). u.coeff) (sym same) ∙ z), omega arith)

pub IsContent-from : (ts : List Term) (t : Term) (g : ℕ) (c : ℤ) → Some t ≡ slice_get ts 0 → IsPoly ts → IsCommonDivisor ts g → g ≤ max_coeff → IsSignedSize t.coeff g c → IsContent ts c
IsContent-from [] t g c e h d l s = absurd (cc e)
IsContent-from (x ∷ xs) t g c e h d l s =
    let same : t ≡ x = cc e in
    let size : unsigned_abs c ≡ g = size_of t.coeff c g s in
    let some : 0 < g = size_some g x.coeff h.apart.0 d.divides.0 in
    record {
      small = omega arith;
      divides = subst (λ n. DividesAll n (x ∷ xs)) (sym size) d.divides;
      greatest = λ n m a. subst (λ k. n ∣ k) (sym size) (d.greatest n a);
      sign = signs (subst (λ (u : Term). IsSignedSize u.coeff g c) same s) some;
    }
  where
    signs : IsSignedSize x.coeff g c → 0 < g → HasLeadingSign c (x ∷ xs)
    signs (inl h) l = inl (positive c g h.0 l, h.1)
      where
        positive : (c : ℤ) (g : ℕ) → c ≡ pos g → 0 < g → pos 0 <ℤ c
        positive c g e l = omega (arith, ints)
    signs (inr h) l = inr (negative c g h.0 l, h.1)
      where
        negative : (c : ℤ) (g : ℕ) → c ≡ neg_ℤ (pos g) → 0 < g → c <ℤ pos 0
        negative c g e l = omega (arith, ints)

pub content_nonzero : (ts : List Term) (c : ℤ) → HasLeadingSign c ts → c ≢ pos 0
content_nonzero [] c h e = absurd (omega (arith, ints, h, e))
content_nonzero (t ∷ ts) c (inl h) e = absurd (omega (arith, ints, h.0, e))
content_nonzero (t ∷ ts) c (inr h) e = absurd (omega (arith, ints, h.0, e))

-- quotients
pub IsQuotient-more : (ts : List Term) (k : ℕ) (t : Term) (g m : List (ℕ × ℕ)) (c y : ℤ) (qs zs : List Term) → k < length ts → t ≡ slice_index_or ts k t → IsQuotient (take k ts) (record { monomial = g; coeff = c }) qs → monomial_times g m ≡ t.monomial → c *ℤ y ≡ t.coeff → IsMonomial m → zs ≡ qs ++ (let u : Term = record { monomial = m; coeff = y } in u) ∷ [] → IsQuotient (take (k + 1) ts) (record { monomial = g; coeff = c }) zs
IsQuotient-more ts k t g m c y qs zs l e q f h i z =
    let u : Term = record { monomial = m; coeff = y } in
    let by : Term = record { monomial = g; coeff = c } in
    record {
      product = ap (row by) z ∙ rows by qs u ∙ ap (λ us. us ++ term_times by u ∷ []) q.product ∙ ap (λ v. take k ts ++ v ∷ []) (same_term (term_times by u) t f h) ∙ sym (take_one ts k t l e);
      monomials = subst AllMonomials (sym z) (all_more (λ (v : Term). IsMonomial v.monomial) qs u q.monomials i);
    }
  where
    rows : (t : Term) (us : List Term) (u : Term) → row t (us ++ u ∷ []) ≡ row t us ++ term_times t u ∷ []
    rows t [] u = refl
    rows t (v ∷ vs) u = ap (λ ws. term_times t v ∷ ws) (rows t vs u)

below_back : (t u : Term) (us : List Term) → IsPowers t.monomial → IsMonomial u.monomial → AllMonomials us → AllByRecursion (λ (v : Term). monomial_cmp v.monomial (monomial_times t.monomial u.monomial) ≡ Less) (row t us) → AllByRecursion (λ (v : Term). monomial_cmp v.monomial u.monomial ≡ Less) us
below_back t u [] g h i a = tt
below_back t u (v ∷ vs) g h i a = (monomial_cmp-times_back t.monomial v.monomial u.monomial g i.0.powers h.powers a.0, below_back t u vs g h i.1 a.1)

falling_back : (t : Term) (us : List Term) → IsPowers t.monomial → AllMonomials us → IsFalling (row t us) → IsFalling us
falling_back t [] g h f = tt
falling_back t (u ∷ us) g h f = (below_back t u us g h.0 h.1 f.0, falling_back t us g h.1 f.1)

apart_back : (t : Term) (us : List Term) → AllByRecursion (λ (v : Term). v.coeff ≢ pos 0) (row t us) → AllByRecursion (λ (v : Term). v.coeff ≢ pos 0) us
apart_back t [] a = tt
apart_back t (u ∷ us) a = (λ z. a.0 (ap (λ y. t.coeff *ℤ y) z ∙ *ℤ-zero t.coeff), apart_back t us a.1)

range_back : (t : Term) (us : List Term) → t.coeff ≢ pos 0 → AllByRecursion (λ (v : Term). unsigned_abs v.coeff ≤ max_coeff) (row t us) → AllByRecursion (λ (v : Term). unsigned_abs v.coeff ≤ max_coeff) us
range_back t [] n a = tt
range_back t (u ∷ us) n a =
    let less : unsigned_abs u.coeff ≤ unsigned_abs (t.coeff *ℤ u.coeff) = factor_small t.coeff u.coeff (t.coeff *ℤ u.coeff) n refl in
    let small : unsigned_abs (t.coeff *ℤ u.coeff) ≤ max_coeff = a.0 in
    (omega arith, range_back t us n a.1)

-- over the constant 1
row_of_one : (ts : List Term) → row (record { monomial = []; coeff = pos 1 }) ts ≡ ts
row_of_one [] = refl
row_of_one (t ∷ ts) =
    let one : pos 1 *ℤ t.coeff ≡ t.coeff = grind arith in
    ap (λ us. (let u : Term = record { monomial = t.monomial; coeff = pos 1 *ℤ t.coeff } in u) ∷ us) (row_of_one ts) ∙ ap (λ (z : ℤ). (let u : Term = record { monomial = t.monomial; coeff = z } in u) ∷ ts) one

pub IsQuotient-one : (ts : List Term) (m : List (ℕ × ℕ)) (c : ℤ) → m ≡ [] → c ≡ pos 1 → IsPoly ts → IsQuotient ts (record { monomial = m; coeff = c }) ts
IsQuotient-one ts m c e f p =
    let one : IsQuotient ts (record { monomial = []; coeff = pos 1 }) ts = record { product = row_of_one ts; monomials = p.monomials } in
    subst (λ (z : ℤ). IsQuotient ts (record { monomial = m; coeff = z }) ts) (sym f) (subst (λ n. IsQuotient ts (record { monomial = n; coeff = pos 1 }) ts) (sym e) one)

pub least_exponent-zero : (v : ℕ) (ts : List Term) → least_exponent v 0 ts ≡ 0
least_exponent-zero v [] = refl
least_exponent-zero v (t ∷ ts) =
    let least : min 0 (exponent t.monomial v) ≡ 0 = omega arith in
    ap (λ n. least_exponent v n ts) least ∙ least_exponent-zero v ts

pub IsPoly-quotient : (ts : List Term) (t : Term) (qs : List Term) → IsPoly ts → IsPowers t.monomial → t.coeff ≢ pos 0 → IsQuotient ts t qs → IsPoly qs
IsPoly-quotient ts t qs h g n q =
    let whole : IsPoly (row t qs) = subst IsPoly (sym q.product) h in
    record {
      falling = falling_back t qs g q.monomials whole.falling;
      monomials = q.monomials;
      apart = apart_back t qs whole.apart;
      in_range = range_back t qs n whole.in_range;
    }

-- what is left over the content is primitive
divides_multiples : (d : ℕ) (t : Term) (us : List Term) → DividesAll d us → DividesAll (d * unsigned_abs t.coeff) (row t us)
divides_multiples d t [] h = tt
divides_multiples d t (u ∷ us) h =
    (subst (λ n. d * unsigned_abs t.coeff ∣ n) (swap (unsigned_abs u.coeff) (unsigned_abs t.coeff) ∙ sym (unsigned_abs-mul t.coeff u.coeff)) (mul-dvd-mul_right d h.0 (unsigned_abs t.coeff)), divides_multiples d t us h.1)

one_left : (d n : ℕ) → 0 < n → d * n ∣ n → d ≡ 1
one_left zero n l h = absurd (omega (arith, l, eq-zero_of_zero-dvd (subst (λ k. k ∣ n) (none n) h)))
  where
    none : (n : ℕ) → 0 * n ≡ 0
    none n = omega arith
one_left (suc zero) n l h = refl
one_left (suc (suc d)) n l h = absurd (omega (arith, l, le_of_dvd l h))

leading_positive : (c y a : ℤ) → c *ℤ y ≡ a → ((pos 0 <ℤ c) × (pos 0 <ℤ a)) ⊎ ((c <ℤ pos 0) × (a <ℤ pos 0)) → pos 0 <ℤ y
leading_positive (pos m) (pos zero) a e (inl h) = absurd (omega (arith, ints, h.1, sym e ∙ *ℤ-zero (pos m)))
leading_positive (pos m) (pos (suc n)) a e (inl h) = omega (arith, ints)
leading_positive (pos m) (negsuc n) a e (inl h) = absurd (omega (arith, ints, h.1, sym e ∙ pos-*ℤ-negsuc m n))
leading_positive (negsuc m) y a e (inl h) = absurd (omega (arith, ints, h.0))
leading_positive (pos m) y a e (inr h) = absurd (omega (arith, ints, h.0))
leading_positive (negsuc m) (pos zero) a e (inr h) = absurd (omega (arith, ints, h.1, sym e ∙ *ℤ-zero (negsuc m)))
leading_positive (negsuc m) (pos (suc n)) a e (inr h) = omega (arith, ints)
leading_positive (negsuc m) (negsuc n) a e (inr h) = absurd (omega (arith, ints, h.1, sym e ∙ negsuc-*ℤ-negsuc m n))

pub IsPrimitive-quotient : (ts : List Term) (t : Term) (qs : List Term) → IsContent ts t.coeff → row t qs ≡ ts → IsPrimitive qs
IsPrimitive-quotient ts t [] c e = tt
IsPrimitive-quotient ts t (q ∷ qs) c e =
    let whole : IsContent (row t (q ∷ qs)) t.coeff = subst (λ us. IsContent us t.coeff) (sym e) c in
    let some : 0 < unsigned_abs t.coeff = some_size t.coeff (content_nonzero (row t (q ∷ qs)) t.coeff whole.sign) in
    (leading_positive t.coeff q.coeff (t.coeff *ℤ q.coeff) refl whole.sign, λ d a. one_left d (unsigned_abs t.coeff) some (whole.greatest (d * unsigned_abs t.coeff) (λ f. absurd (cc f)) (divides_multiples d t (q ∷ qs) a)))
