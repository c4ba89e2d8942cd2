-- Rows of products that a division owes.
use Rattle.std.specs.Prelude.{◌≡◌, ◌<◌, ◌≤◌, ℕ, suc, ◌+◌, length, Bool, true, false, if◌then◌else◌, ℤ, pos, negsuc, neg_ℤ, ◌+ℤ◌, unsigned_abs, List, [], ◌∷◌, ◌++◌, refl, IsPermutation, slice_index_or}
use Rattle.std.proofs.Common.{arith, sym, ◌∙◌, ap, subst}
use Rattle.std.specs.BinaryHeap.{IsHeap, IsUpperBound}
use Rattle.std.proofs.lemmas.Int.{ints}
use Rattle.std.proofs.lemmas.List.{length-append}
use Rattle.std.proofs.lemmas.List.Elements.{All-from_recursion, recursion_from_All, All-cons, All-head, All-tail}
use Rattle.std.proofs.lemmas.List.Sorted.{sum_by-IsPermutation, All-permutation}
use Rattle.std.proofs.lemmas.List.Sums.{sum_by-cons}
use Rattle.std.specs.List.{AllByRecursion, sum_by}
use Rattle.std.specs.Ordering.{is_eq, is_lt, ordering_reverse}
use Rattle.std.specs.declared.cmp.Ordering.{Ordering}
use Rattle.std.specs.declared.cmp.Ordering.TheVariants.{Less, Equal, Greater}
use Rattle.monomial.specs.Monomials.{monomial_cmp}
use Rattle.monomial.proofs.Total.{monomial_cmp-IsTotalOrder, monomial_cmp-IsAntisymmetric}
use Rattle.sparse_poly.specs.declared.Term.{Term}
use Rattle.sparse_poly.specs.declared.owing.OwedRow.{OwedRow}
use Rattle.sparse_poly.specs.Polynomials.{is_of, coefficient, weight, negated, IsSum}
use Rattle.sparse_poly.specs.Contributions.{max_coeff, IsPoly}
use Rattle.sparse_poly.specs.Owing.{row_cmp, row_terms, owed_terms, AreOwed, AllUnder, AllUpTo, AreSameTerms, IsOwedMore, IsTaken, IsNoneAt, term, IsLed, IsTop, IsNextTerm}
use Rattle.sparse_poly.proofs.Descending.{all_front, all_back, all_both, all_map}
use Rattle.sparse_poly.proofs.Evaluation.{coefficient-append, coefficient-negated, weight-append, is_of-own}
use Rattle.sparse_poly.proofs.Same.{all_through}
use Rattle.sparse_poly.proofs.OneQuotient.{IsPoly-rest}
use Rattle.sparse_poly.specs.OrderLaws.{same_term}
use mathlib.Core.Logic.{inl, inr}

-- sums over the terms of rows in another order
abbrev above_zero : ℤ → ℕ
above_zero (pos n) = n
above_zero (negsuc n) = 0

abbrev below_zero : ℤ → ℕ
below_zero (pos n) = 0
below_zero (negsuc n) = suc n

parts : (z : ℤ) → z ≡ pos (above_zero z) +ℤ neg_ℤ (pos (below_zero z))
parts (pos n) = omega (arith, ints)
parts (negsuc n) = omega (arith, ints)

abbrev weight_in : List (ℕ × ℕ) → OwedRow → ℕ
weight_in m r = weight (row_terms r) m

abbrev positive_in : List (ℕ × ℕ) → OwedRow → ℕ
positive_in m r = above_zero (coefficient (row_terms r) m)

abbrev negative_in : List (ℕ × ℕ) → OwedRow → ℕ
negative_in m r = below_zero (coefficient (row_terms r) m)

abbrev count_in : OwedRow → ℕ
count_in r = length (row_terms r)

weight_owed : (m : List (ℕ × ℕ)) (rs : List OwedRow) → weight (owed_terms rs) m ≡ sum_by (weight_in m) rs
weight_owed m [] = refl
weight_owed m (r ∷ rs) = weight-append m (row_terms r) (owed_terms rs) ∙ ap (λ n. weight (row_terms r) m + n) (weight_owed m rs) ∙ sym (sum_by-cons (weight_in m) r rs)

count_owed : (rs : List OwedRow) → length (owed_terms rs) ≡ sum_by count_in rs
count_owed [] = refl
count_owed (r ∷ rs) = length-append (row_terms r) (owed_terms rs) ∙ ap (λ n. length (row_terms r) + n) (count_owed rs) ∙ sym (sum_by-cons count_in r rs)

coefficient_owed : (m : List (ℕ × ℕ)) (rs : List OwedRow) → coefficient (owed_terms rs) m ≡ pos (sum_by (positive_in m) rs) +ℤ neg_ℤ (pos (sum_by (negative_in m) rs))
coefficient_owed m [] = refl
coefficient_owed m (r ∷ rs) = coefficient-append m (row_terms r) (owed_terms rs) ∙ at _ _ _ _ _ _ _ _ (parts (coefficient (row_terms r) m)) (coefficient_owed m rs) (sum_by-cons (positive_in m) r rs) (sum_by-cons (negative_in m) r rs)
  where
    at : (a b : ℤ) (p q s t u v : ℕ) → a ≡ pos p +ℤ neg_ℤ (pos q) → b ≡ pos s +ℤ neg_ℤ (pos t) → u ≡ p + s → v ≡ q + t → a +ℤ b ≡ pos u +ℤ neg_ℤ (pos v)
    at a b p q s t u v e f g h = omega (arith, ints, e, f, g, h)

each_row : (P : Term → Type 0) (rs : List OwedRow) → AllByRecursion P (owed_terms rs) → AllByRecursion (λ (r : OwedRow). AllByRecursion P (row_terms r)) rs
each_row P [] h = tt
each_row P (r ∷ rs) h = (all_front P (row_terms r) (owed_terms rs) h, each_row P rs (all_back P (row_terms r) (owed_terms rs) h))

of_each_row : (P : Term → Type 0) (rs : List OwedRow) → AllByRecursion (λ (r : OwedRow). AllByRecursion P (row_terms r)) rs → AllByRecursion P (owed_terms rs)
of_each_row P [] h = tt
of_each_row P (r ∷ rs) h = all_both P (row_terms r) (owed_terms rs) h.0 (of_each_row P rs h.1)

all_moved : (P : Term → Type 0) (rs ss : List OwedRow) → IsPermutation rs ss → AllByRecursion P (owed_terms rs) → AllByRecursion P (owed_terms ss)
all_moved P rs ss p h =
    let each = All-permutation (λ (r : OwedRow). AllByRecursion P (row_terms r)) rs ss p (All-from_recursion (λ (r : OwedRow). AllByRecursion P (row_terms r)) rs (each_row P rs h)) in
    of_each_row P ss (recursion_from_All (λ (r : OwedRow). AllByRecursion P (row_terms r)) ss each)

pub same_terms : (rs ss : List OwedRow) → IsPermutation rs ss → AreSameTerms (owed_terms rs) (owed_terms ss)
same_terms rs ss p = record {
  sums = λ m. coefficient_owed m ss ∙ ap (λ n. pos n +ℤ neg_ℤ (pos (sum_by (negative_in m) ss))) (sum_by-IsPermutation (positive_in m) rs ss p) ∙ ap (λ n. pos (sum_by (positive_in m) rs) +ℤ neg_ℤ (pos n)) (sum_by-IsPermutation (negative_in m) rs ss p) ∙ sym (coefficient_owed m rs);
  weights = λ m. weight_owed m ss ∙ sum_by-IsPermutation (weight_in m) rs ss p ∙ sym (weight_owed m rs);
  count = count_owed ss ∙ sum_by-IsPermutation count_in rs ss p ∙ sym (count_owed rs);
  under = λ m. all_moved (λ (t : Term). monomial_cmp t.monomial m ≡ Less) rs ss p;
  up_to = λ m. all_moved (λ (t : Term). is_lt (monomial_cmp m t.monomial) ≡ false) rs ss p;
}

-- products that are owed from now on
pub owed_more : (old new : List OwedRow) (ts : List Term) (r : OwedRow) → AreOwed old → IsPoly ts → ts ≡ row_terms r → IsPermutation (r ∷ old) new → IsHeap row_cmp new → IsOwedMore old ts new
owed_more old new ts r o p e m h = record {
  owed = record { heap = h; polys = All-permutation (λ (s : OwedRow). IsPoly (row_terms s)) (r ∷ old) new m (All-cons (λ (s : OwedRow). IsPoly (row_terms s)) r old (subst IsPoly e p) o.polys) };
  same = subst (λ xs. AreSameTerms (xs ++ owed_terms old) (owed_terms new)) (sym e) (same_terms (r ∷ old) new m);
}

-- the greatest monomial
not_less : (o : Ordering) → o ≡ Less → is_lt o ≡ false → ⊥
not_less Less e f = absurd (cc f)
not_less Equal e f = absurd (cc e)
not_less Greater e f = absurd (cc e)

turned : (m n : List (ℕ × ℕ)) → monomial_cmp m n ≡ Greater → monomial_cmp n m ≡ Less
turned m n g = monomial_cmp-IsTotalOrder.antisymm n m ∙ ap ordering_reverse g

below_bound : (t x m : List (ℕ × ℕ)) → is_lt (monomial_cmp t x) ≡ false → monomial_cmp t m ≡ Less → monomial_cmp x m ≡ Less
below_bound t x m f l = each (monomial_cmp x t) refl
  where
    each : (o : Ordering) → monomial_cmp x t ≡ o → monomial_cmp x m ≡ Less
    each Less e = monomial_cmp-IsTotalOrder.trans x t m e l
    each Equal e = ap (λ n. monomial_cmp n m) (monomial_cmp-IsAntisymmetric x t e) ∙ l
    each Greater e = absurd (not_less (monomial_cmp t x) (turned x t e) f)

up_to_bound : (m t x : List (ℕ × ℕ)) → is_lt (monomial_cmp m t) ≡ false → is_lt (monomial_cmp t x) ≡ false → is_lt (monomial_cmp m x) ≡ false
up_to_bound m t x f g = each (monomial_cmp m x) refl
  where
    each : (o : Ordering) → monomial_cmp m x ≡ o → is_lt (monomial_cmp m x) ≡ false
    each Equal e = ap is_lt e
    each Greater e = ap is_lt e
    each Less e = absurd (not_less (monomial_cmp m t) (second (monomial_cmp x t) refl) f)
      where
        second : (o : Ordering) → monomial_cmp x t ≡ o → monomial_cmp m t ≡ Less
        second Less h = monomial_cmp-IsTotalOrder.trans m x t e h
        second Equal h = ap (monomial_cmp m) (sym (monomial_cmp-IsAntisymmetric x t h)) ∙ e
        second Greater h = absurd (not_less (monomial_cmp t x) (turned x t h) g)

less_up_to : (x y : List (ℕ × ℕ)) → monomial_cmp x y ≡ Less → is_lt (monomial_cmp y x) ≡ false
less_up_to x y l = ap is_lt (monomial_cmp-IsTotalOrder.antisymm y x ∙ ap ordering_reverse l)

up_to_rows : (m : List (ℕ × ℕ)) (rs : List OwedRow) → AllByRecursion (λ (r : OwedRow). is_lt (monomial_cmp m r.first.monomial) ≡ false) rs → AllByRecursion (λ (r : OwedRow). IsPoly (row_terms r)) rs → AllUpTo m (owed_terms rs)
up_to_rows m [] b p = tt
up_to_rows m (r ∷ rs) b p =
    all_both (λ (t : Term). is_lt (monomial_cmp m t.monomial) ≡ false) (row_terms r) (owed_terms rs)
    (b.0, all_map (λ (t : Term). monomial_cmp t.monomial r.first.monomial ≡ Less) (λ (t : Term). is_lt (monomial_cmp m t.monomial) ≡ false) r.rest.items (λ t l. up_to_bound m r.first.monomial t.monomial b.0 (less_up_to t.monomial r.first.monomial l)) p.0.falling.0)
    (up_to_rows m rs b.1 p.1)

led_rows : (rs : List OwedRow) (r : OwedRow) → 0 < length rs → r ≡ slice_index_or rs 0 r → IsLed r.first.monomial (owed_terms rs)
led_rows [] r l e = absurd (omega (arith, l))
led_rows (s ∷ rs) r l e = ap (λ (x : OwedRow). x.first.monomial) (sym e)

pub top_is : (rs : List OwedRow) (r : OwedRow) → AreOwed rs → 0 < length rs → r ≡ slice_index_or rs 0 r → IsUpperBound row_cmp r rs → IsTop r.first.monomial (owed_terms rs)
top_is rs r o l e b = record { up_to = up_to_rows r.first.monomial rs b (recursion_from_All (λ (s : OwedRow). IsPoly (row_terms s)) rs o.polys); led = led_rows rs r l e }

pub none_above : (m t : List (ℕ × ℕ)) (ts : List Term) → IsTop t ts → (monomial_cmp m t ≡ Less → ⊥) → AllUpTo m ts
none_above m t ts i n = all_map (λ (x : Term). is_lt (monomial_cmp t x.monomial) ≡ false) (λ (x : Term). is_lt (monomial_cmp m x.monomial) ≡ false) ts (λ x f. up_to_bound m t x.monomial (not_lt (monomial_cmp m t) n) f) i.up_to
  where
    not_lt : (o : Ordering) → (o ≡ Less → ⊥) → is_lt o ≡ false
    not_lt Less f = absurd (f refl)
    not_lt Equal f = refl
    not_lt Greater f = refl

pub none_at : (m t : List (ℕ × ℕ)) (rs : List OwedRow) → IsTop t (owed_terms rs) → (monomial_cmp t m ≡ Equal → ⊥) → IsNoneAt m rs rs
none_at m t rs i n = record {
  unchanged = refl;
  under = λ h. all_map (λ (x : Term). is_lt (monomial_cmp t x.monomial) ≡ false) (λ (x : Term). monomial_cmp x.monomial m ≡ Less) (owed_terms rs) (λ x f. below_bound t x.monomial m f (less (monomial_cmp t m) refl (first (owed_terms rs) i.led h))) i.up_to;
}
  where
    first : (ts : List Term) → IsLed t ts → AllUpTo m ts → is_lt (monomial_cmp m t) ≡ false
    first [] l h = absurd l
    first (x ∷ xs) l h = subst (λ k. is_lt (monomial_cmp m k) ≡ false) l h.0

    less : (o : Ordering) → monomial_cmp t m ≡ o → is_lt (monomial_cmp m t) ≡ false → monomial_cmp t m ≡ Less
    less Less e f = e
    less Equal e f = absurd (n e)
    less Greater e f = absurd (not_less (monomial_cmp m t) (turned t m e) f)

pub row_taken : (m t : List (ℕ × ℕ)) (old new : List OwedRow) (r : OwedRow) → AreOwed old → IsTop t (owed_terms old) → monomial_cmp t m ≡ Equal → r ≡ slice_index_or old 0 r → IsPermutation old (r ∷ new) → IsHeap row_cmp new → IsTaken m old r new
row_taken m t old new r o i e f p h =
    let all = All-permutation (λ (s : OwedRow). IsPoly (row_terms s)) old (r ∷ new) p o.polys in
    record {
      at = first old i.led f ∙ monomial_cmp-IsAntisymmetric t m e;
      poly = All-head (λ (s : OwedRow). IsPoly (row_terms s)) r new all;
      owed = record { heap = h; polys = All-tail (λ (s : OwedRow). IsPoly (row_terms s)) r new all };
      same = same_terms old (r ∷ new) p;
    }
  where
    first : (rs : List OwedRow) → IsLed t (owed_terms rs) → r ≡ slice_index_or rs 0 r → r.first.monomial ≡ t
    first [] l g = absurd l
    first (s ∷ ss) l g = ap (λ (x : OwedRow). x.first.monomial) g ∙ l

-- products are being taken off a coefficient
pub record IsTakingOff (m : List (ℕ × ℕ)) (b : ℤ) (old new : List OwedRow) (c : ℤ) : Type 0 where
  pub owed : AreOwed new
  pub small : unsigned_abs c ≤ max_coeff
  pub sums : IsSum (term m b ∷ negated (owed_terms old)) (term m c ∷ negated (owed_terms new))
  pub within : (k : List (ℕ × ℕ)) → weight (owed_terms new) k ≤ weight (owed_terms old) k
  pub up_to : AllUpTo m (owed_terms new)

-- the absolute value of a coefficient is no greater than the weight
abs_plus : (a b : ℤ) (n : ℕ) → unsigned_abs b ≤ n → unsigned_abs (a +ℤ b) ≤ unsigned_abs a + n
abs_plus a b n l = omega (arith, ints, l)

pub coefficient_weight : (cs : List Term) (m : List (ℕ × ℕ)) → unsigned_abs (coefficient cs m) ≤ weight cs m
coefficient_weight [] m = omega (arith, ints)
coefficient_weight (c ∷ cs) m = elim (is_of m c) as (λ b. unsigned_abs ((if b then c.coeff else pos 0) +ℤ coefficient cs m) ≤ (if b then unsigned_abs c.coeff else 0) + weight cs m) [
  | true ↦ abs_plus c.coeff (coefficient cs m) (weight cs m) (coefficient_weight cs m)
  | false ↦ abs_plus (pos 0) (coefficient cs m) (weight cs m) (coefficient_weight cs m)
]

module _ (m : List (ℕ × ℕ)) (b : ℤ) (old now mid : List OwedRow) (c : ℤ) (r : OwedRow) (d : IsTakingOff m b old now c) (t : IsTaken m now r mid) where
  abbrev others : List Term
  others = r.rest.items ++ owed_terms mid

  split : (k : List (ℕ × ℕ)) → coefficient (owed_terms now) k ≡ (if is_of k r.first then r.first.coeff else pos 0) +ℤ coefficient others k
  split k = sym (t.same.sums k)

  lighter : (k : List (ℕ × ℕ)) → weight others k ≤ weight (owed_terms old) k
  lighter k = let w = t.same.weights k in let l = d.within k in omega (arith, w, l)

  pub too_heavy : max_coeff < unsigned_abs (c +ℤ neg_ℤ r.first.coeff) → max_coeff < unsigned_abs (b +ℤ neg_ℤ (coefficient (owed_terms old) m)) + weight (owed_terms old) m
  too_heavy l =
      let w : unsigned_abs (coefficient others m) ≤ weight (owed_terms old) m = let x = coefficient_weight others m in let y = lighter m in omega (arith, x, y) in
      at b c r.first.coeff (coefficient others m) (coefficient (owed_terms old) m) (coefficient (owed_terms now) m) (weight (owed_terms old) m) whole part w l
    where
      own : (z : ℤ) (u : Term) → u.monomial ≡ m → (if is_of m u then z else pos 0) ≡ z
      own z u e = ap (λ k. if is_eq (monomial_cmp m k) then z else pos 0) e ∙ ap (λ x. if x then z else pos 0) (is_of-own (term m z))

      whole : b +ℤ neg_ℤ (coefficient (owed_terms old) m) ≡ c +ℤ neg_ℤ (coefficient (owed_terms now) m)
      whole = ap (λ x. x +ℤ neg_ℤ (coefficient (owed_terms old) m)) (sym (own b (term m b) refl)) ∙ ap (λ x. (if is_of m (term m b) then b else pos 0) +ℤ x) (sym (coefficient-negated m (owed_terms old))) ∙ d.sums m ∙ ap (λ x. (if is_of m (term m c) then c else pos 0) +ℤ x) (coefficient-negated m (owed_terms now)) ∙ ap (λ x. x +ℤ neg_ℤ (coefficient (owed_terms now) m)) (own c (term m c) refl)

      part : coefficient (owed_terms now) m ≡ r.first.coeff +ℤ coefficient others m
      part = split m ∙ ap (λ x. x +ℤ coefficient others m) (own r.first.coeff r.first t.at)

      at : (b c p q u v : ℤ) (w : ℕ) → b +ℤ neg_ℤ u ≡ c +ℤ neg_ℤ v → v ≡ p +ℤ q → unsigned_abs q ≤ w → max_coeff < unsigned_abs (c +ℤ neg_ℤ p) → max_coeff < unsigned_abs (b +ℤ neg_ℤ u) + w
      at b c p q u v w e f g h = omega (arith, ints, e, f, g, h)

  pub IsTakingOff-more : (new : List OwedRow) (z : ℤ) → IsOwedMore mid r.rest.items new → (z ≡ c +ℤ neg_ℤ r.first.coeff) × (unsigned_abs (c +ℤ neg_ℤ r.first.coeff) ≤ max_coeff) → IsTakingOff m b old new z
  IsTakingOff-more new z o e = record {
    owed = o.owed;
    small = subst (λ x. unsigned_abs x ≤ max_coeff) (sym e.0) e.1;
    sums = λ k. d.sums k ∙ more k;
    within = λ k. let w = o.same.weights k in let l = lighter k in omega (arith, w, l);
    up_to = o.same.up_to m (t.same.up_to m d.up_to).1;
  }
    where
      at : (x y : Bool) (a p q u v : ℤ) → x ≡ y → u ≡ (if y then p else pos 0) +ℤ q → v ≡ q → a ≡ c +ℤ neg_ℤ p → (if x then c else pos 0) +ℤ neg_ℤ u ≡ (if x then a else pos 0) +ℤ neg_ℤ v
      at true true a p q u v e f g h = omega (arith, ints, f, g, h)
      at false false a p q u v e f g h = omega (arith, ints, f, g)
      at true false a p q u v e f g h = absurd (cc e)
      at false true a p q u v e f g h = absurd (cc e)

      more : (k : List (ℕ × ℕ)) → coefficient (term m c ∷ negated (owed_terms now)) k ≡ coefficient (term m z ∷ negated (owed_terms new)) k
      more k =
          ap (λ x. (if is_of k (term m c) then c else pos 0) +ℤ x) (coefficient-negated k (owed_terms now))
          ∙ at (is_of k (term m c)) (is_of k r.first) z r.first.coeff (coefficient others k) _ _ (ap (λ n. is_eq (monomial_cmp k n)) (sym t.at)) (split k) (o.same.sums k) e.0
          ∙ ap (λ x. (if is_of k (term m c) then z else pos 0) +ℤ x) (sym (coefficient-negated k (owed_terms new)))

-- the next term of what is left
pub next_own : (left : List Term) (rows : List OwedRow) (x : Term) (below : List Term) (m : List (ℕ × ℕ)) (c : ℤ) → IsPoly left → left ≡ x ∷ below → m ≡ x.monomial → c ≡ x.coeff → AllUpTo m (owed_terms rows) → IsNextTerm left rows (term m c) below
next_own left rows x below m c p e f g h =
    let own : IsPoly (x ∷ below) = subst IsPoly e p in
    let same : term m c ≡ x = same_term (term m c) x f g in
    subst (λ (t : Term). IsNextTerm left rows t below) (sym same) (subst (λ ts. IsNextTerm ts rows x below) (sym e) (record {
      poly = IsPoly-rest x below own;
      small = own.in_range.0;
      sums = λ k. refl;
      under = own.falling.0;
      up_to = subst (λ k. AllUpTo k (owed_terms rows)) f h;
      some = inl refl;
    }))

pub next_owed : (left : List Term) (rows : List OwedRow) (m : List (ℕ × ℕ)) (c : ℤ) → IsPoly left → c ≡ pos 0 → AllUnder m left → IsTop m (owed_terms rows) → IsNextTerm left rows (term m c) left
next_owed left rows m c p e a t = record {
  poly = p;
  small = let z : unsigned_abs c ≡ 0 = ap unsigned_abs e in omega (arith, z);
  sums = λ k. none (is_of k (term m c)) c (coefficient left k) e;
  under = a;
  up_to = t.up_to;
  some = inr t.led;
}
  where
    none : (b : Bool) (c w : ℤ) → c ≡ pos 0 → w ≡ (if b then c else pos 0) +ℤ w
    none true c w e = omega (arith, ints, e)
    none false c w e = omega (arith, ints)

pub above_all : (left : List Term) (x : Term) (below : List Term) (m : List (ℕ × ℕ)) → IsPoly left → left ≡ x ∷ below → monomial_cmp x.monomial m ≡ Less → AllUnder m left
above_all left x below m p e l = subst (AllUnder m) (sym e) (l, all_through x.monomial m below l (subst IsPoly e p).falling.0)
