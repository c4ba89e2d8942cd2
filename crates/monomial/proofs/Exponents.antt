-- Exponents of products and quotients, and that a monomial is what its exponents are.
use Rattle.std.specs.Prelude.{◌≡◌, ◌≢◌, ◌<◌, ◌≤◌, ℕ, ◌+◌, ◌-◌, ◌^◌, true, false, if◌then◌else◌, nat_lt, ◌==◌, List, [], ◌∷◌, refl}
use mathlib.Core.Logic.{◌⊎◌, inl, inr}
use Rattle.std.proofs.Common.{arith, sym, ◌∙◌, ap, subst}
use Rattle.std.proofs.lemmas.Bool.Decides.{nat_tests, eqb_tells}
use Rattle.std.specs.List.{AllByRecursion}
use Rattle.std.specs.Ordering.{nat_cmp, MatchOrdering}
use Rattle.std.specs.FinMap.Entries.{by_order}
use Rattle.std.proofs.lemmas.Cmp.{ranked}
use Rattle.std.specs.declared.cmp.Ordering.{Ordering}
use Rattle.std.specs.declared.cmp.Ordering.TheVariants.{Less, Equal, Greater}
use Rattle.std.specs.declared.option.Option.TheVariants.{None, Some}
use Rattle.monomial.specs.Monomials.{exponent, monomial_times, too_high, IsBelow, IsPowers, IsMonomial, Divides, each_divides, lowered, without, IsProductOf}
use Rattle.monomial.proofs.Total.{pair_same}

-- the exponent at the first power, and at another
pub exponent_here : (p : ℕ × ℕ) (ps : List (ℕ × ℕ)) (v : ℕ) → p.0 ≡ v → exponent (p ∷ ps) v ≡ p.1
exponent_here p ps v e = grind (arith, nat_tests)

pub exponent_there : (p : ℕ × ℕ) (ps : List (ℕ × ℕ)) (v : ℕ) → p.0 ≢ v → exponent (p ∷ ps) v ≡ exponent ps v
exponent_there p ps v n = grind (arith, nat_tests)

pub IsBelow-more : (u v : ℕ) (ps : List (ℕ × ℕ)) → u ≤ v → IsBelow u ps → IsBelow v ps
IsBelow-more u v [] l h = tt
IsBelow-more u v (p ∷ ps) l h = (omega (arith, h.0), IsBelow-more u v ps l h.1)

-- no power is at or above a bound
pub exponent_above : (v : ℕ) (ps : List (ℕ × ℕ)) (w : ℕ) → IsBelow v ps → v ≤ w → exponent ps w ≡ 0
exponent_above v [] w h l = refl
exponent_above v (p ∷ ps) w h l =
    let low : p.0 < v = h.0 in
    exponent_there p ps w (λ e. absurd (omega arith)) ∙ exponent_above v ps w h.1 l

-- products
below-by_order : (v : ℕ) (a b : ℕ × ℕ) (x y z : List (ℕ × ℕ)) (o : Ordering) → a.0 < v → b.0 < v → IsBelow v x → IsBelow v y → IsBelow v z → IsBelow v (by_order o (b ∷ x) ((a.0, a.1 + b.1) ∷ y) (a ∷ z))
below-by_order v a b x y z Less h i j k l = (i, j)
below-by_order v a b x y z Equal h i j k l = (h, k)
below-by_order v a b x y z Greater h i j k l = (h, l)

pub IsBelow-times : (v : ℕ) (xs ys : List (ℕ × ℕ)) → IsBelow v xs → IsBelow v ys → IsBelow v (monomial_times xs ys)
IsBelow-times v [] ys h i = i
IsBelow-times v (a ∷ xs) [] h i = h
IsBelow-times v (a ∷ xs) (b ∷ ys) h i =
    below-by_order v a b _ _ _ (nat_cmp a.0 b.0) h.0 i.0 (IsBelow-times v (a ∷ xs) ys h i.1) (IsBelow-times v xs ys h.1 i.1) (IsBelow-times v xs (b ∷ ys) h.1 i)

powers-by_order : (a b : ℕ × ℕ) (xs ys : List (ℕ × ℕ)) (o : Ordering) → MatchOrdering o (a.0 < b.0) (a.0 ≡ b.0) (b.0 < a.0) → IsPowers (a ∷ xs) → IsPowers (b ∷ ys) → IsPowers (monomial_times (a ∷ xs) ys) → IsPowers (monomial_times xs ys) → IsPowers (monomial_times xs (b ∷ ys)) → IsPowers (by_order o (b ∷ monomial_times (a ∷ xs) ys) ((a.0, a.1 + b.1) ∷ monomial_times xs ys) (a ∷ monomial_times xs (b ∷ ys)))
powers-by_order a b xs ys Less m h i j k l = (i.0, IsBelow-times b.0 (a ∷ xs) ys (m, IsBelow-more a.0 b.0 xs (omega arith) h.1) i.1, j)
powers-by_order a b xs ys Equal m h i j k l =
    let some : 0 < a.1 = h.0 in
    (omega arith, IsBelow-times a.0 xs ys h.1 (IsBelow-more b.0 a.0 ys (omega arith) i.1), k)
powers-by_order a b xs ys Greater m h i j k l = (h.0, IsBelow-times a.0 xs (b ∷ ys) h.1 (m, IsBelow-more b.0 a.0 ys (omega arith) i.1), l)

pub IsPowers-times : (xs ys : List (ℕ × ℕ)) → IsPowers xs → IsPowers ys → IsPowers (monomial_times xs ys)
IsPowers-times [] ys h i = i
IsPowers-times (a ∷ xs) [] h i = h
IsPowers-times (a ∷ xs) (b ∷ ys) h i =
    powers-by_order a b xs ys (nat_cmp a.0 b.0) (ranked a.0 b.0 (nat_cmp a.0 b.0) refl) h i (IsPowers-times (a ∷ xs) ys h i.2) (IsPowers-times xs ys h.2 i.2) (IsPowers-times xs (b ∷ ys) h.2 i)

exponent-by_order : (a b : ℕ × ℕ) (xs ys : List (ℕ × ℕ)) (v : ℕ) (o : Ordering) → MatchOrdering o (a.0 < b.0) (a.0 ≡ b.0) (b.0 < a.0) → IsBelow a.0 xs → IsBelow b.0 ys →
    exponent (monomial_times (a ∷ xs) ys) v ≡ exponent (a ∷ xs) v + exponent ys v → exponent (monomial_times xs ys) v ≡ exponent xs v + exponent ys v → exponent (monomial_times xs (b ∷ ys)) v ≡ exponent xs v + exponent (b ∷ ys) v →
    exponent (by_order o (b ∷ monomial_times (a ∷ xs) ys) ((a.0, a.1 + b.1) ∷ monomial_times xs ys) (a ∷ monomial_times xs (b ∷ ys))) v ≡ exponent (a ∷ xs) v + exponent (b ∷ ys) v
exponent-by_order a b xs ys v Less m h i j k l = either (eqb_tells b.0 v)
  where
    either : ((b.0 == v ≡ true) × (b.0 ≡ v)) ⊎ ((b.0 == v ≡ false) × (b.0 ≢ v)) → exponent (b ∷ monomial_times (a ∷ xs) ys) v ≡ exponent (a ∷ xs) v + exponent (b ∷ ys) v
    either (inl (t, e)) =
        let gone : exponent (a ∷ xs) v ≡ 0 = exponent_above v (a ∷ xs) v (omega arith, IsBelow-more a.0 v xs (omega arith) h) (omega arith) in
        let first = exponent_here b (monomial_times (a ∷ xs) ys) v e in
        let second = exponent_here b ys v e in
        omega arith
    either (inr (t, n)) =
        let first = exponent_there b (monomial_times (a ∷ xs) ys) v n in
        let second = exponent_there b ys v n in
        omega arith
exponent-by_order a b xs ys v Equal m h i j k l = either (eqb_tells a.0 v)
  where
    either : ((a.0 == v ≡ true) × (a.0 ≡ v)) ⊎ ((a.0 == v ≡ false) × (a.0 ≢ v)) → exponent ((a.0, a.1 + b.1) ∷ monomial_times xs ys) v ≡ exponent (a ∷ xs) v + exponent (b ∷ ys) v
    either (inl (t, e)) =
        let first : exponent ((a.0, a.1 + b.1) ∷ monomial_times xs ys) v ≡ a.1 + b.1 = exponent_here (a.0, a.1 + b.1) (monomial_times xs ys) v e in
        let second = exponent_here a xs v e in
        let third = exponent_here b ys v (sym m ∙ e) in
        omega arith
    either (inr (t, n)) =
        let first : exponent ((a.0, a.1 + b.1) ∷ monomial_times xs ys) v ≡ exponent (monomial_times xs ys) v = exponent_there (a.0, a.1 + b.1) (monomial_times xs ys) v n in
        let second = exponent_there a xs v n in
        let third = exponent_there b ys v (λ e. n (m ∙ e)) in
        omega arith
exponent-by_order a b xs ys v Greater m h i j k l = either (eqb_tells a.0 v)
  where
    either : ((a.0 == v ≡ true) × (a.0 ≡ v)) ⊎ ((a.0 == v ≡ false) × (a.0 ≢ v)) → exponent (a ∷ monomial_times xs (b ∷ ys)) v ≡ exponent (a ∷ xs) v + exponent (b ∷ ys) v
    either (inl (t, e)) =
        let gone : exponent (b ∷ ys) v ≡ 0 = exponent_above v (b ∷ ys) v (omega arith, IsBelow-more b.0 v ys (omega arith) i) (omega arith) in
        let first = exponent_here a (monomial_times xs (b ∷ ys)) v e in
        let second = exponent_here a xs v e in
        omega arith
    either (inr (t, n)) =
        let first = exponent_there a (monomial_times xs (b ∷ ys)) v n in
        let second = exponent_there a xs v n in
        omega arith

-- the exponents of a product are the sums
pub exponent-times : (xs ys : List (ℕ × ℕ)) (v : ℕ) → IsPowers xs → IsPowers ys → exponent (monomial_times xs ys) v ≡ exponent xs v + exponent ys v
exponent-times [] ys v h i = omega arith
exponent-times (a ∷ xs) [] v h i = omega arith
exponent-times (a ∷ xs) (b ∷ ys) v h i =
    exponent-by_order a b xs ys v (nat_cmp a.0 b.0) (ranked a.0 b.0 (nat_cmp a.0 b.0) refl) h.1 i.1 (exponent-times (a ∷ xs) ys v h i.2) (exponent-times xs ys v h.2 i.2) (exponent-times xs (b ∷ ys) v h.2 i)

tail_same : (a b : ℕ × ℕ) (xs ys : List (ℕ × ℕ)) → a.0 ≡ b.0 → IsBelow a.0 xs → IsBelow b.0 ys → ((v : ℕ) → exponent (a ∷ xs) v ≡ exponent (b ∷ ys) v) → (v : ℕ) → exponent xs v ≡ exponent ys v
tail_same a b xs ys e h i f v = either (eqb_tells a.0 v)
  where
    either : ((a.0 == v ≡ true) × (a.0 ≡ v)) ⊎ ((a.0 == v ≡ false) × (a.0 ≢ v)) → exponent xs v ≡ exponent ys v
    either (inl (t, g)) = exponent_above a.0 xs v h (omega arith) ∙ sym (exponent_above b.0 ys v i (omega arith))
    either (inr (t, n)) = sym (exponent_there a xs v n) ∙ f v ∙ exponent_there b ys v (λ g. n (e ∙ g))

joined : (a b : ℕ × ℕ) (xs ys : List (ℕ × ℕ)) → a.0 ≡ b.0 → a.1 ≡ b.1 → xs ≡ ys → a ∷ xs ≡ b ∷ ys
joined a b xs ys e f g = ap (λ p. p ∷ xs) (pair_same a.0 b.0 a.1 b.1 e f) ∙ ap (λ zs. b ∷ zs) g

-- two monomials with the same exponents are the same
pub same_from_exponents : (xs ys : List (ℕ × ℕ)) → IsPowers xs → IsPowers ys → ((v : ℕ) → exponent xs v ≡ exponent ys v) → xs ≡ ys
same_from_exponents [] [] h i e = refl
same_from_exponents [] (b ∷ ys) h i e =
    let some : 0 < b.1 = i.0 in
    absurd (omega (arith, e b.0, exponent_here b ys b.0 refl))
same_from_exponents (a ∷ xs) [] h i e =
    let some : 0 < a.1 = h.0 in
    absurd (omega (arith, e a.0, exponent_here a xs a.0 refl))
same_from_exponents (a ∷ xs) (b ∷ ys) h i e =
    let first : 0 < a.1 = h.0 in
    let second : 0 < b.1 = i.0 in
    let not_less : a.0 < b.0 → ⊥ = λ l. absurd (omega (arith, e b.0, exponent_here b ys b.0 refl, exponent_above b.0 (a ∷ xs) b.0 (l, IsBelow-more a.0 b.0 xs (omega arith) h.1) (omega arith))) in
    let not_more : b.0 < a.0 → ⊥ = λ l. absurd (omega (arith, e a.0, exponent_here a xs a.0 refl, exponent_above a.0 (b ∷ ys) a.0 (l, IsBelow-more b.0 a.0 ys (omega arith) i.1) (omega arith))) in
    let same_var : a.0 ≡ b.0 = omega (arith, not_less, not_more) in
    let same_exp : a.1 ≡ b.1 = sym (exponent_here a xs a.0 refl) ∙ e a.0 ∙ exponent_here b ys a.0 (sym same_var) in
    joined a b xs ys same_var same_exp (same_from_exponents xs ys h.2 i.2 (tail_same a b xs ys same_var h.1 i.1 e))

-- quotients
each_divides_step : (a : ℕ × ℕ) (as' bs : List (ℕ × ℕ)) → each_divides (a ∷ as') bs ≡ true → (a.1 ≤ exponent bs a.0) × (each_divides as' bs ≡ true)
each_divides_step a as' bs e = (grind (arith, nat_tests), grind (arith, nat_tests))

pub Divides-from_each : (as' bs : List (ℕ × ℕ)) → each_divides as' bs ≡ true → Divides as' bs
Divides-from_each [] bs e v = omega arith
Divides-from_each (a ∷ as') bs e v = either (Divides-from_each as' bs (each_divides_step a as' bs e).1 v) (eqb_tells a.0 v)
  where
    either : exponent as' v ≤ exponent bs v → ((a.0 == v ≡ true) × (a.0 ≡ v)) ⊎ ((a.0 == v ≡ false) × (a.0 ≢ v)) → exponent (a ∷ as') v ≤ exponent bs v
    either rest (inl (t, g)) =
        let here = (each_divides_step a as' bs e).0 in
        let first = exponent_here a as' v g in
        let same : exponent bs a.0 ≡ exponent bs v = ap (exponent bs) g in
        omega arith
    either rest (inr (t, n)) =
        let first = exponent_there a as' v n in
        omega arith

pub each-from_Divides : (as' bs : List (ℕ × ℕ)) → IsPowers as' → Divides as' bs → each_divides as' bs ≡ true
each-from_Divides [] bs h d = refl
each-from_Divides (a ∷ as') bs h d =
    let here : a.1 ≤ exponent bs a.0 = omega (arith, d a.0, exponent_here a as' a.0 refl) in
    let rest : each_divides as' bs ≡ true = each-from_Divides as' bs h.2 (λ v. tail v (eqb_tells a.0 v)) in
    grind (arith, nat_tests)
  where
    tail : (v : ℕ) → ((a.0 == v ≡ true) × (a.0 ≡ v)) ⊎ ((a.0 == v ≡ false) × (a.0 ≢ v)) → exponent as' v ≤ exponent bs v
    tail v (inl (t, g)) = omega (arith, exponent_above a.0 as' v h.1 (omega arith))
    tail v (inr (t, n)) = omega (arith, d v, exponent_there a as' v n)

lowered_step : (a : ℕ × ℕ) (as' bs : List (ℕ × ℕ)) → ((exponent bs a.0 < a.1) × (lowered (a ∷ as') bs ≡ (a.0, a.1 - exponent bs a.0) ∷ lowered as' bs)) ⊎ ((a.1 ≤ exponent bs a.0) × (lowered (a ∷ as') bs ≡ lowered as' bs))
lowered_step a as' bs =
    elim (nat_lt (exponent bs a.0) a.1) as (λ b. nat_lt (exponent bs a.0) a.1 ≡ b → ((exponent bs a.0 < a.1) × ((if b then (a.0, a.1 - exponent bs a.0) ∷ lowered as' bs else lowered as' bs) ≡ (a.0, a.1 - exponent bs a.0) ∷ lowered as' bs)) ⊎ ((a.1 ≤ exponent bs a.0) × ((if b then (a.0, a.1 - exponent bs a.0) ∷ lowered as' bs else lowered as' bs) ≡ lowered as' bs))) [
      | true ↦ λ e. inl (grind (arith, nat_tests), refl)
      | false ↦ λ e. inr (grind (arith, nat_tests), refl)
    ] refl

pub IsBelow-lowered : (v : ℕ) (as' bs : List (ℕ × ℕ)) → IsBelow v as' → IsBelow v (lowered as' bs)
IsBelow-lowered v [] bs h = tt
IsBelow-lowered v (a ∷ as') bs h = either (IsBelow-lowered v as' bs h.1) (lowered_step a as' bs)
  where
    either : IsBelow v (lowered as' bs) → ((exponent bs a.0 < a.1) × (lowered (a ∷ as') bs ≡ (a.0, a.1 - exponent bs a.0) ∷ lowered as' bs)) ⊎ ((a.1 ≤ exponent bs a.0) × (lowered (a ∷ as') bs ≡ lowered as' bs)) → IsBelow v (lowered (a ∷ as') bs)
    either rest (inl (t, e)) = subst (IsBelow v) (sym e) (h.0, rest)
    either rest (inr (t, e)) = subst (IsBelow v) (sym e) rest

pub IsPowers-lowered : (as' bs : List (ℕ × ℕ)) → IsPowers as' → IsPowers (lowered as' bs)
IsPowers-lowered [] bs h = tt
IsPowers-lowered (a ∷ as') bs h = either (IsPowers-lowered as' bs h.2) (lowered_step a as' bs)
  where
    either : IsPowers (lowered as' bs) → ((exponent bs a.0 < a.1) × (lowered (a ∷ as') bs ≡ (a.0, a.1 - exponent bs a.0) ∷ lowered as' bs)) ⊎ ((a.1 ≤ exponent bs a.0) × (lowered (a ∷ as') bs ≡ lowered as' bs)) → IsPowers (lowered (a ∷ as') bs)
    either rest (inl (t, e)) = subst IsPowers (sym e) (omega arith, IsBelow-lowered a.0 as' bs h.1, rest)
    either rest (inr (t, e)) = subst IsPowers (sym e) rest

pub exponent-lowered : (as' bs : List (ℕ × ℕ)) (v : ℕ) → IsPowers as' → exponent (lowered as' bs) v ≡ exponent as' v - exponent bs v
exponent-lowered [] bs v h = omega arith
exponent-lowered (a ∷ as') bs v h = either (exponent-lowered as' bs v h.2) (lowered_step a as' bs) (eqb_tells a.0 v)
  where
    either : exponent (lowered as' bs) v ≡ exponent as' v - exponent bs v → ((exponent bs a.0 < a.1) × (lowered (a ∷ as') bs ≡ (a.0, a.1 - exponent bs a.0) ∷ lowered as' bs)) ⊎ ((a.1 ≤ exponent bs a.0) × (lowered (a ∷ as') bs ≡ lowered as' bs)) → ((a.0 == v ≡ true) × (a.0 ≡ v)) ⊎ ((a.0 == v ≡ false) × (a.0 ≢ v)) → exponent (lowered (a ∷ as') bs) v ≡ exponent (a ∷ as') v - exponent bs v
    either rest (inl (t, e)) (inl (u, g)) =
        ap (λ ps. exponent ps v) e ∙ exponent_here (a.0, a.1 - exponent bs a.0) (lowered as' bs) v g ∙ ap (λ n. a.1 - exponent bs n) g ∙ ap (λ n. n - exponent bs v) (sym (exponent_here a as' v g))
    either rest (inl (t, e)) (inr (u, n)) =
        ap (λ ps. exponent ps v) e ∙ exponent_there (a.0, a.1 - exponent bs a.0) (lowered as' bs) v n ∙ rest ∙ ap (λ n. n - exponent bs v) (sym (exponent_there a as' v n))
    either rest (inr (t, e)) (inl (u, g)) =
        let gone : exponent (lowered as' bs) v ≡ 0 = exponent_above a.0 (lowered as' bs) v (IsBelow-lowered a.0 as' bs h.1) (omega arith) in
        let same : exponent bs a.0 ≡ exponent bs v = ap (exponent bs) g in
        let first = exponent_here a as' v g in
        let whole : exponent (lowered (a ∷ as') bs) v ≡ exponent (lowered as' bs) v = ap (λ ps. exponent ps v) e in
        omega arith
    either rest (inr (t, e)) (inr (u, n)) =
        ap (λ ps. exponent ps v) e ∙ rest ∙ ap (λ n. n - exponent bs v) (sym (exponent_there a as' v n))

-- a quotient times the divisor
pub times-lowered : (as' bs : List (ℕ × ℕ)) → IsPowers as' → IsPowers bs → Divides bs as' → monomial_times bs (lowered as' bs) ≡ as'
times-lowered as' bs h i d =
    same_from_exponents _ _ (IsPowers-times bs (lowered as' bs) i (IsPowers-lowered as' bs h)) h
    (λ v. omega (arith, d v, exponent-times bs (lowered as' bs) v i (IsPowers-lowered as' bs h), exponent-lowered as' bs v h))

-- ranges
low_vars : (xs : List (ℕ × ℕ)) → AllByRecursion (λ (p : ℕ × ℕ). (p.0 < 2 ^ 32) × (p.1 ≤ 65535)) xs → IsBelow (2 ^ 32) xs
low_vars [] h = tt
low_vars (x ∷ xs) h = (h.0.0, low_vars xs h.1)

in_range_from : (xs : List (ℕ × ℕ)) → IsBelow (2 ^ 32) xs → too_high xs ≡ None → AllByRecursion (λ (p : ℕ × ℕ). (p.0 < 2 ^ 32) × (p.1 ≤ 65535)) xs
in_range_from [] h e = tt
in_range_from (x ∷ xs) h e =
    let low : x.1 ≤ 65535 = (step x xs e).0 in
    ((h.0, low), in_range_from xs h.1 (step x xs e).1)
  where
    step : (x : ℕ × ℕ) (xs : List (ℕ × ℕ)) → too_high (x ∷ xs) ≡ None → (x.1 ≤ 65535) × (too_high xs ≡ None)
    step x xs e =
        elim (nat_lt 65535 x.1) as (λ b. nat_lt 65535 x.1 ≡ b → (if b then Some x.0 else too_high xs) ≡ None → (x.1 ≤ 65535) × (too_high xs ≡ None)) [
          | true ↦ λ t e. absurd (cc e)
          | false ↦ λ t e. (grind (arith, nat_tests), e)
        ] refl e

-- no exponent of a monomial is above 65,535
pub too_high-IsMonomial : (xs : List (ℕ × ℕ)) → IsMonomial xs → too_high xs ≡ None
too_high-IsMonomial xs h = steps xs h.in_range
  where
    steps : (xs : List (ℕ × ℕ)) → AllByRecursion (λ (p : ℕ × ℕ). (p.0 < 2 ^ 32) × (p.1 ≤ 65535)) xs → too_high xs ≡ None
    steps [] h = refl
    steps (x ∷ xs) h =
        let low : x.1 ≤ 65535 = h.0.1 in
        let rest : too_high xs ≡ None = steps xs h.1 in
        grind (arith, nat_tests)

pub IsMonomial-times : (xs ys : List (ℕ × ℕ)) → IsMonomial xs → IsMonomial ys → too_high (monomial_times xs ys) ≡ None → IsMonomial (monomial_times xs ys)
IsMonomial-times xs ys h i e = record {
  powers = IsPowers-times xs ys h.powers i.powers;
  in_range = in_range_from (monomial_times xs ys) (IsBelow-times (2 ^ 32) xs ys (low_vars xs h.in_range) (low_vars ys i.in_range)) e;
}

pub IsMonomial-product : (xs ys m xs' ys' : List (ℕ × ℕ)) → IsMonomial xs → IsMonomial ys → xs' ≡ xs → ys' ≡ ys → IsProductOf xs' ys' m → IsMonomial m
IsMonomial-product xs ys m xs' ys' h i e f p =
    let same : monomial_times xs' ys' ≡ monomial_times xs ys = ap (λ zs. monomial_times zs ys') e ∙ ap (monomial_times xs) f in
    subst IsMonomial (sym (p.1 ∙ same)) (IsMonomial-times xs ys h i (ap too_high (sym same) ∙ p.0))

in_range-lowered : (as' bs : List (ℕ × ℕ)) → AllByRecursion (λ (p : ℕ × ℕ). (p.0 < 2 ^ 32) × (p.1 ≤ 65535)) as' → AllByRecursion (λ (p : ℕ × ℕ). (p.0 < 2 ^ 32) × (p.1 ≤ 65535)) (lowered as' bs)
in_range-lowered [] bs h = tt
in_range-lowered (a ∷ as') bs h = either (in_range-lowered as' bs h.1) (lowered_step a as' bs)
  where
    either : AllByRecursion (λ (p : ℕ × ℕ). (p.0 < 2 ^ 32) × (p.1 ≤ 65535)) (lowered as' bs) → ((exponent bs a.0 < a.1) × (lowered (a ∷ as') bs ≡ (a.0, a.1 - exponent bs a.0) ∷ lowered as' bs)) ⊎ ((a.1 ≤ exponent bs a.0) × (lowered (a ∷ as') bs ≡ lowered as' bs)) → AllByRecursion (λ (p : ℕ × ℕ). (p.0 < 2 ^ 32) × (p.1 ≤ 65535)) (lowered (a ∷ as') bs)
    either rest (inl (t, e)) = let low : a.1 ≤ 65535 = h.0.1 in subst (AllByRecursion (λ (p : ℕ × ℕ). (p.0 < 2 ^ 32) × (p.1 ≤ 65535))) (sym e) ((h.0.0, omega arith), rest)
    either rest (inr (t, e)) = subst (AllByRecursion (λ (p : ℕ × ℕ). (p.0 < 2 ^ 32) × (p.1 ≤ 65535))) (sym e) rest

pub IsMonomial-lowered : (xs ys : List (ℕ × ℕ)) → IsMonomial xs → IsMonomial (lowered xs ys)
IsMonomial-lowered xs ys h = record { powers = IsPowers-lowered xs ys h.powers; in_range = in_range-lowered xs ys h.in_range }

-- a monomial without a variable
without_step : (v : ℕ) (a : ℕ × ℕ) (as' : List (ℕ × ℕ)) → ((a.0 ≡ v) × (without v (a ∷ as') ≡ without v as')) ⊎ ((a.0 ≢ v) × (without v (a ∷ as') ≡ a ∷ without v as'))
without_step v a as' = either (eqb_tells a.0 v)
  where
    either : ((a.0 == v ≡ true) × (a.0 ≡ v)) ⊎ ((a.0 == v ≡ false) × (a.0 ≢ v)) → ((a.0 ≡ v) × (without v (a ∷ as') ≡ without v as')) ⊎ ((a.0 ≢ v) × (without v (a ∷ as') ≡ a ∷ without v as'))
    either (inl (t, g)) = inl (g, ap (λ b. if b then without v as' else a ∷ without v as') t)
    either (inr (t, n)) = inr (n, ap (λ b. if b then without v as' else a ∷ without v as') t)

pub IsBelow-without : (u v : ℕ) (as' : List (ℕ × ℕ)) → IsBelow u as' → IsBelow u (without v as')
IsBelow-without u v [] h = tt
IsBelow-without u v (a ∷ as') h = either (IsBelow-without u v as' h.1) (without_step v a as')
  where
    either : IsBelow u (without v as') → ((a.0 ≡ v) × (without v (a ∷ as') ≡ without v as')) ⊎ ((a.0 ≢ v) × (without v (a ∷ as') ≡ a ∷ without v as')) → IsBelow u (without v (a ∷ as'))
    either rest (inl (t, e)) = subst (IsBelow u) (sym e) rest
    either rest (inr (t, e)) = subst (IsBelow u) (sym e) (h.0, rest)

pub IsPowers-without : (v : ℕ) (as' : List (ℕ × ℕ)) → IsPowers as' → IsPowers (without v as')
IsPowers-without v [] h = tt
IsPowers-without v (a ∷ as') h = either (IsPowers-without v as' h.2) (without_step v a as')
  where
    either : IsPowers (without v as') → ((a.0 ≡ v) × (without v (a ∷ as') ≡ without v as')) ⊎ ((a.0 ≢ v) × (without v (a ∷ as') ≡ a ∷ without v as')) → IsPowers (without v (a ∷ as'))
    either rest (inl (t, e)) = subst IsPowers (sym e) rest
    either rest (inr (t, e)) = subst IsPowers (sym e) (h.0, IsBelow-without a.0 v as' h.1, rest)

in_range-without : (v : ℕ) (as' : List (ℕ × ℕ)) → AllByRecursion (λ (p : ℕ × ℕ). (p.0 < 2 ^ 32) × (p.1 ≤ 65535)) as' → AllByRecursion (λ (p : ℕ × ℕ). (p.0 < 2 ^ 32) × (p.1 ≤ 65535)) (without v as')
in_range-without v [] h = tt
in_range-without v (a ∷ as') h = either (in_range-without v as' h.1) (without_step v a as')
  where
    either : AllByRecursion (λ (p : ℕ × ℕ). (p.0 < 2 ^ 32) × (p.1 ≤ 65535)) (without v as') → ((a.0 ≡ v) × (without v (a ∷ as') ≡ without v as')) ⊎ ((a.0 ≢ v) × (without v (a ∷ as') ≡ a ∷ without v as')) → AllByRecursion (λ (p : ℕ × ℕ). (p.0 < 2 ^ 32) × (p.1 ≤ 65535)) (without v (a ∷ as'))
    either rest (inl (t, e)) = subst (AllByRecursion (λ (p : ℕ × ℕ). (p.0 < 2 ^ 32) × (p.1 ≤ 65535))) (sym e) rest
    either rest (inr (t, e)) = subst (AllByRecursion (λ (p : ℕ × ℕ). (p.0 < 2 ^ 32) × (p.1 ≤ 65535))) (sym e) (h.0, rest)

pub IsMonomial-without : (v : ℕ) (as' : List (ℕ × ℕ)) → IsMonomial as' → IsMonomial (without v as')
IsMonomial-without v as' h = record { powers = IsPowers-without v as' h.powers; in_range = in_range-without v as' h.in_range }

pub exponent-without_own : (v : ℕ) (as' : List (ℕ × ℕ)) → exponent (without v as') v ≡ 0
exponent-without_own v [] = refl
exponent-without_own v (a ∷ as') = either (exponent-without_own v as') (without_step v a as')
  where
    either : exponent (without v as') v ≡ 0 → ((a.0 ≡ v) × (without v (a ∷ as') ≡ without v as')) ⊎ ((a.0 ≢ v) × (without v (a ∷ as') ≡ a ∷ without v as')) → exponent (without v (a ∷ as')) v ≡ 0
    either rest (inl (t, e)) = ap (λ ps. exponent ps v) e ∙ rest
    either rest (inr (n, e)) = ap (λ ps. exponent ps v) e ∙ exponent_there a (without v as') v n ∙ rest

pub exponent-without : (v w : ℕ) (as' : List (ℕ × ℕ)) → v ≢ w → exponent (without v as') w ≡ exponent as' w
exponent-without v w [] n = refl
exponent-without v w (a ∷ as') n = either (exponent-without v w as' n) (without_step v a as')
  where
    either : exponent (without v as') w ≡ exponent as' w → ((a.0 ≡ v) × (without v (a ∷ as') ≡ without v as')) ⊎ ((a.0 ≢ v) × (without v (a ∷ as') ≡ a ∷ without v as')) → exponent (without v (a ∷ as')) w ≡ exponent (a ∷ as') w
    either rest (inl (t, e)) = ap (λ ps. exponent ps w) e ∙ rest ∙ sym (exponent_there a as' w (λ g. n (sym t ∙ g)))
    either rest (inr (t, e)) = ap (λ ps. exponent ps w) e ∙ ap (λ n. if a.0 == w then a.1 else n) rest
