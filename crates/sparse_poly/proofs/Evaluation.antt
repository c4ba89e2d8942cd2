-- The value of a polynomial in a field: it depends on the sums of coefficients alone, and that of a sum, a product and a difference.
use Rattle.std.specs.Prelude.{◌≡◌, ◌≢◌, ◌≤◌, ℕ, zero, suc, ◌+◌, true, false, if◌then◌else◌, ℤ, pos, neg_ℤ, ◌+ℤ◌, ◌*ℤ◌, List, [], ◌∷◌, ◌++◌, length, slice_index_or, refl}
use Rattle.std.proofs.Common.{arith, sym, ◌∙◌, ap}
use Rattle.std.proofs.lemmas.Int.{ints}
use Rattle.std.specs.Ordering.{is_eq, nat_cmp}
use Rattle.std.specs.FinMap.{nat_cmp-IsAntisymmetric}
use Rattle.std.specs.FinMap.Entries.{by_order}
use Rattle.std.specs.Cmp.{tied_itself}
use Rattle.std.specs.declared.cmp.Ordering.{Ordering}
use Rattle.std.specs.declared.cmp.Ordering.TheVariants.{Less, Equal, Greater}
use Rattle.field_laws.specs.Field.{Field, IsField, IsElement, power, AllElements, whole}
use Rattle.field_laws.proofs.FieldSteps.{power_is, power-add, whole_is, whole-+ℤ, whole-*ℤ, whole-neg_ℤ, whole_apart, one-times, times-zero, zero-times, zero-plus, plus-times, plus_swap, times_swap, minus-times, minus-plus_both, minus-zero, other_zero}
use Rattle.monomial.specs.Monomials.{monomial_cmp, monomial_times}
use Rattle.monomial.proofs.Total.{monomial_cmp-IsAntisymmetric, monomial_cmp-IsTotalOrder}
use Rattle.sparse_poly.specs.declared.Term.{Term}
use Rattle.sparse_poly.specs.Polynomials.{is_of, coefficient, weight, row, products, negated, scaled, monomial_value, term_value, eval}

pub tied : (o : Ordering) → is_eq o ≡ true → o ≡ Equal
tied Less e = absurd (cc e)
tied Equal e = refl
tied Greater e = absurd (cc e)

-- a term that is one of m has the monomial m
pub is_of-same : (m : List (ℕ × ℕ)) (t : Term) → is_of m t ≡ true → m ≡ t.monomial
is_of-same m t e = monomial_cmp-IsAntisymmetric m t.monomial (tied _ e)

pub is_of-own : (t : Term) → is_of t.monomial t ≡ true
is_of-own t = ap is_eq (tied_itself monomial_cmp-IsTotalOrder t.monomial)

-- the terms of other monomials
abbrev pub others : List (ℕ × ℕ) → List Term → List Term
others m [] = []
others m (t ∷ ts) = if is_of m t then others m ts else t ∷ others m ts

pub zero_plus : (z : ℤ) → pos 0 +ℤ z ≡ z
zero_plus z = grind arith

pub coefficient-append : (m : List (ℕ × ℕ)) (ts us : List Term) → coefficient (ts ++ us) m ≡ coefficient ts m +ℤ coefficient us m
coefficient-append m [] us = sym (zero_plus _)
coefficient-append m (t ∷ ts) us = let rest = coefficient-append m ts us in plus_more _ _ _ _ rest
  where
    plus_more : (a b c d : ℤ) → b ≡ c +ℤ d → a +ℤ b ≡ (a +ℤ c) +ℤ d
    plus_more a b c d e = omega (arith, ints)

pub weight-append : (m : List (ℕ × ℕ)) (ts us : List Term) → weight (ts ++ us) m ≡ weight ts m + weight us m
weight-append m [] us = omega arith
weight-append m (t ∷ ts) us = let rest = weight-append m ts us in omega arith

pub coefficient-negated : (m : List (ℕ × ℕ)) (ts : List Term) → coefficient (negated ts) m ≡ neg_ℤ (coefficient ts m)
coefficient-negated m [] = refl
coefficient-negated m (t ∷ ts) = let rest = coefficient-negated m ts in elim (is_of m t) as (λ b. (if b then neg_ℤ t.coeff else pos 0) +ℤ coefficient (negated ts) m ≡ neg_ℤ ((if b then t.coeff else pos 0) +ℤ coefficient ts m)) [ true ↦ more t.coeff _ _ rest | false ↦ more (pos 0) _ _ rest ]
  where
    more : (c a b : ℤ) → a ≡ neg_ℤ b → neg_ℤ c +ℤ a ≡ neg_ℤ (c +ℤ b)
    more c a b e = omega (arith, ints)

others-own : (m : List (ℕ × ℕ)) (ts : List Term) → coefficient (others m ts) m ≡ pos 0
others-own m [] = refl
others-own m (t ∷ ts) = elim (is_of m t) as (λ b. is_of m t ≡ b → coefficient (if b then others m ts else t ∷ others m ts) m ≡ pos 0) [
  | true ↦ λ e. others-own m ts
  | false ↦ λ e. ap (λ b. (if b then t.coeff else pos 0) +ℤ coefficient (others m ts) m) e ∙ zero_plus _ ∙ others-own m ts
] refl

-- where k is another monomial than m
others-apart : (m k : List (ℕ × ℕ)) (ts : List Term) → is_eq (monomial_cmp k m) ≡ false → coefficient (others m ts) k ≡ coefficient ts k
others-apart m k [] h = refl
others-apart m k (t ∷ ts) h = elim (is_of m t) as (λ b. is_of m t ≡ b → coefficient (if b then others m ts else t ∷ others m ts) k ≡ coefficient (t ∷ ts) k) [
  | true ↦ λ e. others-apart m k ts h ∙ sym (ap (λ b. (if b then t.coeff else pos 0) +ℤ coefficient ts k) (ap (λ n. is_eq (monomial_cmp k n)) (sym (is_of-same m t e)) ∙ h) ∙ zero_plus _)
  | false ↦ λ e. ap (λ z. (if is_of k t then t.coeff else pos 0) +ℤ z) (others-apart m k ts h)
] refl

-- lists with the same sums keep them where the terms of one monomial are left out
pub others-same : (m : List (ℕ × ℕ)) (ts us : List Term) → ((k : List (ℕ × ℕ)) → coefficient ts k ≡ coefficient us k) → (k : List (ℕ × ℕ)) → coefficient (others m ts) k ≡ coefficient (others m us) k
others-same m ts us h k = elim (is_eq (monomial_cmp k m)) as (λ b. is_eq (monomial_cmp k m) ≡ b → coefficient (others m ts) k ≡ coefficient (others m us) k) [
  | true ↦ λ e. let same : k ≡ m = monomial_cmp-IsAntisymmetric k m (tied _ e) in ap (coefficient (others m ts)) same ∙ others-own m ts ∙ sym (others-own m us) ∙ sym (ap (coefficient (others m us)) same)
  | false ↦ λ e. others-apart m k ts e ∙ h k ∙ sym (others-apart m k us e)
] refl

pub others-short : (m : List (ℕ × ℕ)) (ts : List Term) → length (others m ts) ≤ length ts
others-short m [] = omega arith
others-short m (t ∷ ts) = let h = others-short m ts in elim (is_of m t) as (λ b. length (if b then others m ts else t ∷ others m ts) ≤ length (t ∷ ts)) [ true ↦ omega arith | false ↦ omega arith ]

pub others-first : (t : Term) (ts : List Term) → others t.monomial (t ∷ ts) ≡ others t.monomial ts
others-first t ts = ap (λ b. if b then others t.monomial ts else t ∷ others t.monomial ts) (is_of-own t)

pub listed_is : {E : Type 0} (f : Field E) → IsField f → (s : List E) → AllElements f s → (v : ℕ) → IsElement f (slice_index_or s v f.zero)
listed_is f l [] p v = l.zero_is
listed_is f l (x ∷ xs) p zero = p.0
listed_is f l (x ∷ xs) p (suc v) = listed_is f l xs p.1 v

module _ {E : Type 0} (f : Field E) (l : IsField f) (s : List E) (p : AllElements f s) where
  open f use {plus, times}

  pub variable_is : (v : ℕ) → IsElement f (slice_index_or s v f.zero)
  variable_is v = listed_is f l s p v

  pub monomial_is : (m : List (ℕ × ℕ)) → IsElement f (monomial_value f s m)
  monomial_is [] = l.one_is
  monomial_is (q ∷ qs) = l.times_is _ _ (power_is f l _ q.1 (variable_is q.0)) (monomial_is qs)

  pub term_is : (m : List (ℕ × ℕ)) (c : ℤ) → IsElement f (term_value f s m c)
  term_is m c = l.times_is _ _ (whole_is f l c) (monomial_is m)

  pub eval_is : (ts : List Term) → IsElement f (eval f s ts)
  eval_is [] = l.zero_is
  eval_is (t ∷ ts) = l.plus_is _ _ (term_is t.monomial t.coeff) (eval_is ts)

  term_value-+ℤ : (m : List (ℕ × ℕ)) (c d : ℤ) → term_value f s m (c +ℤ d) ≡ plus (term_value f s m c) (term_value f s m d)
  term_value-+ℤ m c d = ap (λ x. times x (monomial_value f s m)) (whole-+ℤ f l c d) ∙ plus-times f l _ _ _ (whole_is f l c) (whole_is f l d) (monomial_is m)

  pub eval-append : (ts us : List Term) → eval f s (ts ++ us) ≡ plus (eval f s ts) (eval f s us)
  eval-append [] us = sym (zero-plus f l _ (eval_is us))
  eval-append (t ∷ ts) us = ap (λ x. plus (term_value f s t.monomial t.coeff) x) (eval-append ts us) ∙ sym (l.plus_assoc _ _ _ (term_is t.monomial t.coeff) (eval_is ts) (eval_is us))

  -- the terms of one monomial apart from the others
  eval-split : (m : List (ℕ × ℕ)) (ts : List Term) → eval f s ts ≡ plus (term_value f s m (coefficient ts m)) (eval f s (others m ts))
  eval-split m [] = sym (ap (λ x. plus x f.zero) (zero-times f l _ (monomial_is m)) ∙ zero-plus f l _ l.zero_is)
  eval-split m (t ∷ ts) = elim (is_of m t) as (λ b. is_of m t ≡ b → eval f s (t ∷ ts) ≡ plus (term_value f s m ((if b then t.coeff else pos 0) +ℤ coefficient ts m)) (eval f s (if b then others m ts else t ∷ others m ts))) [
    | true ↦ λ e.
        ap (λ x. plus (term_value f s t.monomial t.coeff) x) (eval-split m ts)
        ∙ ap (λ n. plus (term_value f s n t.coeff) (plus (term_value f s m (coefficient ts m)) (eval f s (others m ts)))) (sym (is_of-same m t e))
        ∙ sym (l.plus_assoc _ _ _ (term_is m t.coeff) (term_is m (coefficient ts m)) (eval_is (others m ts)))
        ∙ ap (λ x. plus x (eval f s (others m ts))) (sym (term_value-+ℤ m t.coeff (coefficient ts m)))
    | false ↦ λ e.
        ap (λ x. plus (term_value f s t.monomial t.coeff) x) (eval-split m ts)
        ∙ plus_swap f l _ _ _ (term_is t.monomial t.coeff) (term_is m (coefficient ts m)) (eval_is (others m ts))
        ∙ ap (λ z. plus (term_value f s m z) (plus (term_value f s t.monomial t.coeff) (eval f s (others m ts)))) (sym (zero_plus (coefficient ts m)))
  ] refl

  -- by the number of terms, n at most
  same_within : (n : ℕ) (ts us : List Term) → length ts + length us ≤ n → ((k : List (ℕ × ℕ)) → coefficient ts k ≡ coefficient us k) → eval f s ts ≡ eval f s us
  same_within n [] [] h e = refl
  same_within zero [] (u ∷ us) h e = absurd (omega arith)
  same_within zero (t ∷ ts) us h e = absurd (omega arith)
  same_within (suc n) [] (u ∷ us) h e =
      let m = u.monomial in
      let less = others-short m us in
      let small : length (others m []) + length (others m (u ∷ us)) ≤ n = rw (others-first u us) (omega arith) in
      eval-split m []
      ∙ ap (λ z. plus (term_value f s m z) (eval f s (others m []))) (e m)
      ∙ ap (λ x. plus (term_value f s m (coefficient (u ∷ us) m)) x) (same_within n (others m []) (others m (u ∷ us)) small (others-same m [] (u ∷ us) e))
      ∙ sym (eval-split m (u ∷ us))
  same_within (suc n) (t ∷ ts) us h e =
      let m = t.monomial in
      let less = others-short m ts in
      let also = others-short m us in
      let small : length (others m (t ∷ ts)) + length (others m us) ≤ n = rw (others-first t ts) (omega arith) in
      eval-split m (t ∷ ts)
      ∙ ap (λ z. plus (term_value f s m z) (eval f s (others m (t ∷ ts)))) (e m)
      ∙ ap (λ x. plus (term_value f s m (coefficient us m)) x) (same_within n (others m (t ∷ ts)) (others m us) small (others-same m (t ∷ ts) us e))
      ∙ sym (eval-split m us)

  pub eval-same : (ts us : List Term) → ((k : List (ℕ × ℕ)) → coefficient ts k ≡ coefficient us k) → eval f s ts ≡ eval f s us
  eval-same ts us e = same_within (length ts + length us) ts us (omega arith) e

module _ {E : Type 0} (f : Field E) (l : IsField f) (s : List E) (p : AllElements f s) where
  open f use {plus, minus, times}

  times_pairs : (a b c d : E) → IsElement f a → IsElement f b → IsElement f c → IsElement f d → times (times a b) (times c d) ≡ times (times a c) (times b d)
  times_pairs a b c d h i j k =
      l.times_assoc a b (times c d) h i (l.times_is c d j k)
      ∙ ap (λ x. times a x) (times_swap f l b c d i j k)
      ∙ sym (l.times_assoc a c (times b d) h j (l.times_is b d i k))

  factor_is : (a : ℕ × ℕ) → IsElement f (power f (slice_index_or s a.0 f.zero) a.1)
  factor_is a = power_is f l _ a.1 (variable_is f l s p a.0)

  value-by_order : (a b : ℕ × ℕ) (xs ys : List (ℕ × ℕ)) (o : Ordering) → nat_cmp a.0 b.0 ≡ o →
      monomial_value f s (monomial_times (a ∷ xs) ys) ≡ times (monomial_value f s (a ∷ xs)) (monomial_value f s ys) →
      monomial_value f s (monomial_times xs ys) ≡ times (monomial_value f s xs) (monomial_value f s ys) →
      monomial_value f s (monomial_times xs (b ∷ ys)) ≡ times (monomial_value f s xs) (monomial_value f s (b ∷ ys)) →
      monomial_value f s (by_order o (b ∷ monomial_times (a ∷ xs) ys) ((a.0, a.1 + b.1) ∷ monomial_times xs ys) (a ∷ monomial_times xs (b ∷ ys))) ≡ times (monomial_value f s (a ∷ xs)) (monomial_value f s (b ∷ ys))
  value-by_order a b xs ys Less e g h i =
      ap (λ x. times (power f (slice_index_or s b.0 f.zero) b.1) x) g
      ∙ times_swap f l _ _ _ (factor_is b) (monomial_is f l s p (a ∷ xs)) (monomial_is f l s p ys)
  value-by_order a b xs ys Equal e g h i =
      let same : a.0 ≡ b.0 = nat_cmp-IsAntisymmetric a.0 b.0 e in
      let there : E = slice_index_or s a.0 f.zero in
      ap (λ x. times x (monomial_value f s (monomial_times xs ys))) (power-add f l there a.1 b.1 (variable_is f l s p a.0))
      ∙ ap (λ x. times (times (power f there a.1) (power f there b.1)) x) h
      ∙ times_pairs _ _ _ _ (factor_is a) (power_is f l there b.1 (variable_is f l s p a.0)) (monomial_is f l s p xs) (monomial_is f l s p ys)
      ∙ ap (λ v. times (monomial_value f s (a ∷ xs)) (times (power f (slice_index_or s v f.zero) b.1) (monomial_value f s ys))) same
  value-by_order a b xs ys Greater e g h i =
      ap (λ x. times (power f (slice_index_or s a.0 f.zero) a.1) x) i
      ∙ sym (l.times_assoc _ _ _ (factor_is a) (monomial_is f l s p xs) (monomial_is f l s p (b ∷ ys)))

  -- the value of a product of monomials
  pub value-times : (xs ys : List (ℕ × ℕ)) → monomial_value f s (monomial_times xs ys) ≡ times (monomial_value f s xs) (monomial_value f s ys)
  value-times [] ys = sym (one-times f l _ (monomial_is f l s p ys))
  value-times (a ∷ xs) [] = sym (l.times-one _ (monomial_is f l s p (a ∷ xs)))
  value-times (a ∷ xs) (b ∷ ys) = value-by_order a b xs ys (nat_cmp a.0 b.0) refl (value-times (a ∷ xs) ys) (value-times xs ys) (value-times xs (b ∷ ys))

  eval-row : (t : Term) (us : List Term) → eval f s (row t us) ≡ times (term_value f s t.monomial t.coeff) (eval f s us)
  eval-row t [] = sym (times-zero f l _ (term_is f l s p t.monomial t.coeff))
  eval-row t (u ∷ us) =
      ap (λ x. plus (times (whole f (t.coeff *ℤ u.coeff)) x) (eval f s (row t us))) (value-times t.monomial u.monomial)
      ∙ ap (λ x. plus (times x (times (monomial_value f s t.monomial) (monomial_value f s u.monomial))) (eval f s (row t us))) (whole-*ℤ f l t.coeff u.coeff)
      ∙ ap (λ x. plus x (eval f s (row t us))) (times_pairs _ _ _ _ (whole_is f l t.coeff) (whole_is f l u.coeff) (monomial_is f l s p t.monomial) (monomial_is f l s p u.monomial))
      ∙ ap (λ x. plus (times (term_value f s t.monomial t.coeff) (term_value f s u.monomial u.coeff)) x) (eval-row t us)
      ∙ sym (l.times-plus _ _ _ (term_is f l s p t.monomial t.coeff) (term_is f l s p u.monomial u.coeff) (eval_is f l s p us))

  pub eval-products : (ts us : List Term) → eval f s (products ts us) ≡ times (eval f s ts) (eval f s us)
  eval-products [] us = sym (zero-times f l _ (eval_is f l s p us))
  eval-products (t ∷ ts) us =
      eval-append f l s p (row t us) (products ts us)
      ∙ ap (λ x. plus x (eval f s (products ts us))) (eval-row t us)
      ∙ ap (λ x. plus (times (term_value f s t.monomial t.coeff) (eval f s us)) x) (eval-products ts us)
      ∙ sym (plus-times f l _ _ _ (term_is f l s p t.monomial t.coeff) (eval_is f l s p ts) (eval_is f l s p us))

  pub eval-negated : (ts : List Term) → eval f s (negated ts) ≡ minus (eval f s ts)
  eval-negated [] = sym (minus-zero f l)
  eval-negated (t ∷ ts) =
      ap (λ x. plus (times x (monomial_value f s t.monomial)) (eval f s (negated ts))) (whole-neg_ℤ f l t.coeff)
      ∙ ap (λ x. plus x (eval f s (negated ts))) (minus-times f l _ _ (whole_is f l t.coeff) (monomial_is f l s p t.monomial))
      ∙ ap (λ x. plus (minus (term_value f s t.monomial t.coeff)) x) (eval-negated ts)
      ∙ sym (minus-plus_both f l _ _ (term_is f l s p t.monomial t.coeff) (eval_is f l s p ts))

  pub product_value : (ts us r : List Term) → ((m : List (ℕ × ℕ)) → coefficient r m ≡ coefficient (products ts us) m) → eval f s r ≡ times (eval f s ts) (eval f s us)
  product_value ts us r h = eval-same f l s p r (products ts us) h ∙ eval-products ts us

  pub sum_value : (ts us r : List Term) → ((m : List (ℕ × ℕ)) → coefficient r m ≡ coefficient (ts ++ us) m) → eval f s r ≡ plus (eval f s ts) (eval f s us)
  sum_value ts us r h = eval-same f l s p r (ts ++ us) h ∙ eval-append f l s p ts us

  pub combined_value : (ls qs as' ps r : List Term) → ((m : List (ℕ × ℕ)) → coefficient r m ≡ coefficient (products ls qs ++ negated (products as' ps)) m) → eval f s r ≡ plus (times (eval f s ls) (eval f s qs)) (minus (times (eval f s as') (eval f s ps)))
  combined_value ls qs as' ps r h =
      eval-same f l s p r _ h ∙ eval-append f l s p (products ls qs) (negated (products as' ps))
      ∙ ap (λ x. plus x (eval f s (negated (products as' ps)))) (eval-products ls qs)
      ∙ ap (λ x. plus (times (eval f s ls) (eval f s qs)) x) (eval-negated (products as' ps) ∙ ap minus (eval-products as' ps))

  pub difference_value : (ts us r : List Term) → ((m : List (ℕ × ℕ)) → coefficient r m ≡ coefficient (ts ++ negated us) m) → eval f s r ≡ plus (eval f s ts) (minus (eval f s us))
  difference_value ts us r h = eval-same f l s p r (ts ++ negated us) h ∙ eval-append f l s p ts (negated us) ∙ ap (plus (eval f s ts)) (eval-negated us)

  -- the value of a multiple
  pub eval-scaled : (k : ℤ) (ts : List Term) → eval f s (scaled k ts) ≡ times (whole f k) (eval f s ts)
  eval-scaled k [] = sym (times-zero f l _ (whole_is f l k))
  eval-scaled k (t ∷ ts) =
      ap (λ x. plus (times x (monomial_value f s t.monomial)) (eval f s (scaled k ts))) (whole-*ℤ f l k t.coeff)
      ∙ ap (λ x. plus x (eval f s (scaled k ts))) (l.times_assoc _ _ _ (whole_is f l k) (whole_is f l t.coeff) (monomial_is f l s p t.monomial))
      ∙ ap (λ x. plus (times (whole f k) (term_value f s t.monomial t.coeff)) x) (eval-scaled k ts)
      ∙ sym (l.times-plus _ _ _ (whole_is f l k) (term_is f l s p t.monomial t.coeff) (eval_is f l s p ts))

  -- a product vanishes where its second factor does, and only there where the first does not vanish
  pub zero_product : (a b c : E) → IsElement f a → IsElement f b → a ≢ f.zero → c ≡ times a b → (c ≡ f.zero → b ≡ f.zero) × (b ≡ f.zero → c ≡ f.zero)
  zero_product a b c h i n e = (λ z. other_zero f l a b h i n (sym e ∙ z), λ z. e ∙ ap (times a) z ∙ times-zero f l a h)

  pub scaled_vanishes : (k : ℤ) (ts us : List Term) → k ≢ pos 0 → scaled k us ≡ ts → (eval f s ts ≡ f.zero → eval f s us ≡ f.zero) × (eval f s us ≡ f.zero → eval f s ts ≡ f.zero)
  scaled_vanishes k ts us n e = zero_product _ _ _ (whole_is f l k) (eval_is f l s p us) (whole_apart f l k n) (ap (eval f s) (sym e) ∙ eval-scaled k us)
