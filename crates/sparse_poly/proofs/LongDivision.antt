-- The division of a polynomial by another: what is made of the quotient, and what is left.
use Rattle.std.specs.Prelude.{◌≡◌, ◌≢◌, ◌<◌, ◌≤◌, ℕ, zero, suc, ◌+◌, ◌*◌, ◌-◌, ◌^◌, length, take, drop, slice_index_or, max, ◌⊎◌, Bool, false, true, if◌then◌else◌, ℤ, pos, neg_ℤ, ◌+ℤ◌, ◌*ℤ◌, unsigned_abs, List, [], ◌∷◌, ◌++◌, refl}
use Rattle.std.proofs.Common.{arith, sym, ◌∙◌, ap, subst, append_assoc, le_refl}
use mathlib.Core.Logic.{inl, inr}
use Rattle.std.proofs.lemmas.Int.{ints}
use Rattle.std.proofs.lemmas.List.{append-nil}
use Rattle.std.proofs.Math.Nat.{mul-le-mul_right}
use Rattle.std.proofs.Math.IntN.{*ℤ_comm, *ℤ-zero}
use Rattle.std.specs.List.{AllByRecursion}
use Rattle.std.specs.Ordering.{nat_cmp, ordering_then, MatchOrdering}
use Rattle.std.proofs.lemmas.Cmp.{ranked}
use Rattle.std.specs.declared.cmp.Ordering.{Ordering}
use Rattle.std.specs.declared.cmp.Ordering.TheVariants.{Less, Equal, Greater}
use Rattle.std.specs.declared.option.Option.TheVariants.{Some}
use Rattle.std.specs.Prelude.{slice_get}
use Rattle.monomial.specs.Monomials.{monomial_cmp, monomial_times, IsBelow, IsPowers, IsMonomial}
use Rattle.monomial.proofs.Exponents.{IsBelow-more}
use Rattle.monomial.proofs.Lower.{monomial_cmp-times_back}
use Rattle.sparse_poly.specs.declared.Term.{Term}
use Rattle.sparse_poly.specs.declared.PolyFault.{PolyFault}
use Rattle.sparse_poly.specs.declared.PolyFault.TheVariants.{OutOfMemory}
use Rattle.sparse_poly.specs.Polynomials.{is_of, coefficient, weight, term_times, row, products, negated, IsSum}
use Rattle.sparse_poly.specs.Contributions.{max_coeff, IsPoly, IsFault}
use Rattle.sparse_poly.specs.Clearing.{IsLight, DividesOpenly}
use Rattle.sparse_poly.specs.declared.owing.OwedRow.{OwedRow}
use Rattle.sparse_poly.specs.Standing.{AllMonomials}
use Rattle.sparse_poly.specs.Dividing.{IsTermOver, IsRow}
use Rattle.sparse_poly.specs.Owing.{row_terms, owed_terms, AreOwed, AllUnder, AreSameTerms, IsOwedMore, term, IsTakenOff, IsLed, IsNextTerm}
use Rattle.sparse_poly.proofs.Owings.{coefficient_weight}
use Rattle.std.proofs.lemmas.List.Elements.{recursion_from_All}
use Rattle.sparse_poly.proofs.Adding.{signed_products-append}
use Rattle.sparse_poly.proofs.Contents.{factor_small}
use Rattle.sparse_poly.proofs.Descending.{all_front, all_back, all_both}
use Rattle.sparse_poly.proofs.Evaluation.{coefficient-append, coefficient-negated, weight-append, zero_plus}
use Rattle.sparse_poly.proofs.Same.{coefficient_leading, all_through}
use Rattle.sparse_poly.proofs.Strips.{row_falls}
use Rattle.sparse_poly.specs.OrderLaws.{same_term}
use Rattle.sparse_poly.proofs.OneQuotient.{IsPoly-rest, same_leading, tail_under, nonzero_product, times_comm, one_factor, by_light}
use Rattle.sparse_poly.proofs.Divisions.{light_front, light_back, light_rest, IsPoly-before, IsPoly-row, one_term}

IsPoly-back : (xs ys : List Term) → IsPoly (xs ++ ys) → IsPoly ys
IsPoly-back [] ys p = p
IsPoly-back (x ∷ xs) ys p = IsPoly-back xs ys (IsPoly-rest x (xs ++ ys) p)

pub products_append : (xs ys us : List Term) → products (xs ++ ys) us ≡ products xs us ++ products ys us
products_append xs ys us = signed_products-append false xs ys us

negated_under : (k : List (ℕ × ℕ)) (ts : List Term) → AllUnder k ts → AllUnder k (negated ts)
negated_under k [] a = tt
negated_under k (x ∷ xs) a = (a.0, negated_under k xs a.1)

-- of each open quotient g, what is made is the front, and what is left is the rest times the divisor
pub record IsLeft (u : Term) (us made rest g : List Term) : Type 0 where
  pub others : List Term
  pub whole : made ++ others ≡ g
  pub sums : IsSum rest (products others (u ∷ us))

-- what is left of p, as a list of terms in no order, and what is made of the quotient
pub record Divided (u : Term) (us p rest made : List Term) : Type 0 where
  pub sums : (m : List (ℕ × ℕ)) → coefficient p m ≡ coefficient (products made (u ∷ us)) m +ℤ coefficient rest m
  pub order : (h : List Term) → IsPoly h → ((k : List (ℕ × ℕ)) → IsPowers k → AllUnder (monomial_times k u.monomial) rest → AllUnder k h) → IsPoly (made ++ h)
  pub left : (g : List Term) → DividesOpenly (u ∷ us) p g → IsLeft u us made rest g

Divided-start : (u : Term) (us p : List Term) → Divided u us p p []
Divided-start u us p = record { sums = λ m. sym (zero_plus _); order = λ h i f. i; left = λ g d. record { others = g; whole = refl; sums = d.product.sums } }

-- the same, where what is left is written in another way
Divided-same : (u : Term) (us p rest others made : List Term) → IsSum others rest → ((m : List (ℕ × ℕ)) → AllUnder m rest → AllUnder m others) → Divided u us p rest made → Divided u us p others made
Divided-same u us p rest others made e f d = record {
  sums = λ m. d.sums m ∙ ap (λ z. coefficient (products made (u ∷ us)) m +ℤ z) (sym (e m));
  order = λ h i g. d.order h i (λ k powers a. g k powers (f _ a));
  left = λ g o. let l = d.left g o in record { others = l.others; whole = l.whole; sums = λ m. e m ∙ l.sums m };
}

-- the next term of an open quotient
record HasNext (u : Term) (us : List Term) (r : Term) (rs made g : List Term) : Type 0 where
  next : Term
  others : List Term
  whole : made ++ next ∷ others ≡ g
  over : IsTermOver u r next
  light : IsLight (products (next ∷ others) (u ∷ us))
  sums : IsSum (r ∷ rs) (products (next ∷ others) (u ∷ us))

next_of : (u : Term) (us : List Term) (r : Term) (rs made g : List Term) → IsPoly (u ∷ us) → AllUnder r.monomial rs → r.coeff ≢ pos 0 → IsPoly g → IsLight (products g (u ∷ us)) → IsLeft u us made (r ∷ rs) g → HasNext u us r rs made g
next_of u us r rs made g n b c q l i = each i.others i.whole i.sums
  where
    each : (bs : List Term) → made ++ bs ≡ g → IsSum (r ∷ rs) (products bs (u ∷ us)) → HasNext u us r rs made g
    each [] e s = absurd (c (sym (coefficient_leading r rs b) ∙ s r.monomial))
    each (a ∷ as') e s =
        let own : IsPoly (a ∷ as') = IsPoly-back made (a ∷ as') (subst IsPoly (sym e) q) in
        let lead = same_leading r (term_times a u) rs _ b (tail_under a u as' us own.monomials own.falling n.monomials n.falling) c (nonzero_product a.coeff u.coeff own.apart.0 n.apart.0) s in
        record {
          next = a;
          others = as';
          whole = e;
          over = record { own = own.monomials.0; monomial = sym lead.0; coeff = sym lead.1 };
          light = light_back (products made (u ∷ us)) (products (a ∷ as') (u ∷ us)) (subst IsLight (products_append made (a ∷ as') (u ∷ us)) (subst (λ x. IsLight (products x (u ∷ us))) (sym e) l));
          sums = s;
        }

light_of : (n p g : List Term) → DividesOpenly n p g → IsLight (products g n)
light_of n p g d = record { degree = d.product.degree; light = d.product.light }

module _ (u : Term) (us p : List Term) (r : Term) (rs made : List Term) (n : IsPoly (u ∷ us)) (under : AllUnder r.monomial rs) (apart : r.coeff ≢ pos 0) (d : Divided u us p (r ∷ rs) made) where
  next_in : (g : List Term) → DividesOpenly (u ∷ us) p g → HasNext u us r rs made g
  next_in g o = next_of u us r rs made g n under apart o.poly (light_of (u ∷ us) p g o) (d.left g o)

  pub no_term : ((t : Term) → IsTermOver u r t → ⊥) → (g : List Term) → DividesOpenly (u ∷ us) p g → ⊥
  no_term z g o = let x = next_in g o in z x.next x.over

  pub no_row : (t : Term) → IsTermOver u r t → (IsLight (row t us) → ⊥) → (g : List Term) → DividesOpenly (u ∷ us) p g → ⊥
  no_row t h z g o =
      let x = next_in g o in
      let same : x.next ≡ t = one_term u r x.next t n.monomials.0 n.apart.0 x.over h in
      z (subst (λ y. IsLight (row y us)) same (light_rest (term_times x.next u) (row x.next us) (light_front (row x.next (u ∷ us)) (products x.others (u ∷ us)) x.light)))

  pub term_apart : (t : Term) → IsTermOver u r t → t.coeff ≢ pos 0
  term_apart t h z = apart (sym h.coeff ∙ ap (λ c. c *ℤ u.coeff) z ∙ *ℤ_comm (pos 0) u.coeff ∙ *ℤ-zero u.coeff)

  pub row_poly : (t : Term) (row_made : List Term) → IsTermOver u r t → IsRow t us row_made → IsPoly row_made
  row_poly t rm h w = subst IsPoly (sym w.row) (IsPoly-row t us h.own (term_apart t h) (IsPoly-rest u us n) w.fits)

  -- what is left after the term of an open quotient
  left_sums : (t : Term) (others : List Term) → IsTermOver u r t → IsSum (r ∷ rs) (products (t ∷ others) (u ∷ us)) → (m : List (ℕ × ℕ)) → coefficient (rs ++ negated (row t us)) m ≡ coefficient (products others (u ∷ us)) m
  left_sums t others h s m =
      let same : r ≡ term_times t u = same_term r (term_times t u) (sym h.monomial) (sym h.coeff) in
      coefficient-append m rs (negated (row t us)) ∙ ap (λ z. coefficient rs m +ℤ z) (coefficient-negated m (row t us)) ∙ at _ _ _ _ _ (ap (λ (x : Term). if is_of m x then x.coeff else pos 0) same) (s m ∙ coefficient-append m (row t (u ∷ us)) (products others (u ∷ us)))
    where
      at : (a b c x y : ℤ) → a ≡ b → a +ℤ x ≡ (b +ℤ y) +ℤ c → x +ℤ neg_ℤ y ≡ c
      at a b c x y f g = omega (arith, ints, f, g)

  -- what is left is below the leading term
  left_under : (t : Term) → IsTermOver u r t → AllUnder r.monomial (rs ++ negated (row t us))
  left_under t h = all_both (λ (x : Term). monomial_cmp x.monomial r.monomial ≡ Less) rs (negated (row t us)) under (negated_under r.monomial (row t us) (subst (λ k. AllUnder k (row t us)) h.monomial (row_falls t (u ∷ us) h.own.powers n.monomials n.falling).0))

  Divided-more : (t : Term) → IsTermOver u r t → unsigned_abs r.coeff ≤ max_coeff → Divided u us p (rs ++ negated (row t us)) (made ++ t ∷ [])
  Divided-more t h s = record {
    sums = λ m. more m;
    order = λ k q f. subst IsPoly (sym (append_assoc made (t ∷ []) k)) (d.order (t ∷ k) (before k q f) (λ b powers a. let l = lower b powers a.0 in (l, all_through t.monomial b k l (below k f))));
    left = λ g o.
        let x = next_in g o in
        let same : x.next ≡ t = one_term u r x.next t n.monomials.0 n.apart.0 x.over h in
        record {
          others = x.others;
          whole = append_assoc made (t ∷ []) x.others ∙ ap (λ y. made ++ y ∷ x.others) (sym same) ∙ x.whole;
          sums = left_sums t x.others h (subst (λ y. IsSum (r ∷ rs) (products (y ∷ x.others) (u ∷ us))) same x.sums);
        };
  }
    where
      small : unsigned_abs t.coeff ≤ max_coeff
      small = let l : unsigned_abs t.coeff ≤ unsigned_abs r.coeff = factor_small u.coeff t.coeff r.coeff n.apart.0 (*ℤ_comm u.coeff t.coeff ∙ h.coeff) in omega (arith, l, s)

      below : (k : List Term) → ((b : List (ℕ × ℕ)) → IsPowers b → AllUnder (monomial_times b u.monomial) (rs ++ negated (row t us)) → AllUnder b k) → AllUnder t.monomial k
      below k f = f t.monomial h.own.powers (subst (λ b. AllUnder b (rs ++ negated (row t us))) (sym h.monomial) (left_under t h))

      before : (k : List Term) → IsPoly k → ((b : List (ℕ × ℕ)) → IsPowers b → AllUnder (monomial_times b u.monomial) (rs ++ negated (row t us)) → AllUnder b k) → IsPoly (t ∷ k)
      before k q f = IsPoly-before t k h.own (term_apart t h) small (below k f) q

      lower : (b : List (ℕ × ℕ)) → IsPowers b → monomial_cmp r.monomial (monomial_times b u.monomial) ≡ Less → monomial_cmp t.monomial b ≡ Less
      lower b powers first =
          monomial_cmp-times_back u.monomial t.monomial b n.monomials.0.powers h.own.powers powers (ap (λ x. monomial_cmp x (monomial_times u.monomial b)) (times_comm u.monomial t.monomial n.monomials.0.powers h.own.powers ∙ h.monomial) ∙ ap (monomial_cmp r.monomial) (times_comm u.monomial b n.monomials.0.powers powers) ∙ first)

      more : (m : List (ℕ × ℕ)) → coefficient p m ≡ coefficient (products (made ++ t ∷ []) (u ∷ us)) m +ℤ coefficient (rs ++ negated (row t us)) m
      more m =
          let same : r ≡ term_times t u = same_term r (term_times t u) (sym h.monomial) (sym h.coeff) in
          d.sums m
          ∙ at _ _ _ _ _ _ _ (ap (λ (x : Term). if is_of m x then x.coeff else pos 0) same) (ap (λ x. coefficient x m) (products_append made (t ∷ []) (u ∷ us)) ∙ coefficient-append m (products made (u ∷ us)) (products (t ∷ []) (u ∷ us)) ∙ ap (λ x. coefficient (products made (u ∷ us)) m +ℤ x) (coefficient-append m (row t (u ∷ us)) []))
          (coefficient-append m rs (negated (row t us)) ∙ ap (λ x. coefficient rs m +ℤ x) (coefficient-negated m (row t us)))
        where
          at : (q a b x y l w : ℤ) → a ≡ b → w ≡ q +ℤ ((b +ℤ y) +ℤ pos 0) → l ≡ x +ℤ neg_ℤ y → q +ℤ (a +ℤ x) ≡ w +ℤ l
          at q a b x y l w f g h = omega (arith, ints, f, g, h)

-- where the leading terms do not divide
pub no_first : (ns ps : List Term) (w z : Term) → Some w ≡ slice_get ns 0 → Some z ≡ slice_get ps 0 → IsPoly ns → IsPoly ps → ((t : Term) → IsTermOver w z t → ⊥) → (g : List Term) → DividesOpenly ns ps g → ⊥
no_first [] ps w z e f n p h g d = absurd (cc e)
no_first (u ∷ us) [] w z e f n p h g d = absurd (cc f)
no_first (u ∷ us) (r ∷ rs) w z e f n p h g d =
    let divisor : w ≡ u = cc e in
    let leading : z ≡ r = cc f in
    no_term u us (r ∷ rs) r rs [] n p.falling.0 p.apart.0 (Divided-start u us (r ∷ rs)) (λ t i. h t (subst (λ x. IsTermOver x z t) (sym divisor) (subst (λ x. IsTermOver u x t) (sym leading) i))) g d

-- a number that rises with the monomial, where no exponent is above 65,535
abbrev pub room : ℕ → ℕ
room zero = 1
room (suc v) = 65536 * room v

abbrev pub number_of : List (ℕ × ℕ) → ℕ
number_of [] = 0
number_of (p ∷ ps) = p.1 * room p.0 + number_of ps

-- above the numbers of all terms
abbrev pub greatest_number : List Term → ℕ
greatest_number [] = 0
greatest_number (t ∷ ts) = max (suc (number_of t.monomial)) (greatest_number ts)

room_some : (v : ℕ) → 0 < room v
room_some zero = omega arith
room_some (suc v) = let l = room_some v in omega (arith, l)

room_up : (v w : ℕ) → v < w → 65536 * room v ≤ room w
room_up v zero l = absurd (omega arith)
room_up zero (suc w) l = let s = room_some w in omega (arith, s)
room_up (suc v) (suc w) l = let s = room_up v w (omega arith) in omega (arith, s)

abbrev AreSmall : List (ℕ × ℕ) → Type 0
AreSmall ps = AllByRecursion (λ (p : ℕ × ℕ). (p.0 < 2 ^ 32) × (p.1 ≤ 65535)) ps

number_below : (ps : List (ℕ × ℕ)) (v : ℕ) → IsPowers ps → AreSmall ps → IsBelow v ps → number_of ps < room v
number_below [] v h s b = room_some v
number_below (p ∷ ps) v h s b =
    let rest = number_below ps p.0 h.2 s.1 h.1 in
    let most = mul-le-mul_right (room p.0) s.0.1 in
    let all = room_up p.0 v b.0 in
    omega (arith, rest, most, all)

pub number_falls : (as' bs : List (ℕ × ℕ)) → IsPowers as' → IsPowers bs → AreSmall as' → monomial_cmp as' bs ≡ Less → number_of as' < number_of bs
number_falls [] [] h i s e = absurd (cc e)
number_falls [] (b ∷ bs) h i s e =
    let l = mul-le-mul_right (room b.0) i.0 in
    let r = room_some b.0 in
    omega (arith, l, r)
number_falls (a ∷ as') [] h i s e = absurd (cc e)
number_falls (a ∷ as') (b ∷ bs) h i s e = first (nat_cmp a.0 b.0) (ranked a.0 b.0 (nat_cmp a.0 b.0) refl) (number_falls as' bs h.2 i.2 s.1) e
  where
    second : (o : Ordering) → a.0 ≡ b.0 → MatchOrdering o (a.1 < b.1) (a.1 ≡ b.1) (b.1 < a.1) → (monomial_cmp as' bs ≡ Less → number_of as' < number_of bs) → ordering_then o (monomial_cmp as' bs) ≡ Less → number_of (a ∷ as') < number_of (b ∷ bs)
    second Less z m f e =
        let rest = number_below as' a.0 h.2 s.1 h.1 in
        let l = mul-le-mul_right (room a.0) m in
        let r = ap room z in
        let t = ap (λ n. b.1 * n) r in
        omega (arith, rest, l, t)
    second Equal z m f e = let l = f e in let t : a.1 * room a.0 ≡ b.1 * room b.0 = ap (λ n. n * room a.0) m ∙ ap (λ n. b.1 * room n) z in omega (arith, l, t)
    second Greater z m f e = absurd (cc e)

    first : (o : Ordering) → MatchOrdering o (a.0 < b.0) (a.0 ≡ b.0) (b.0 < a.0) → (monomial_cmp as' bs ≡ Less → number_of as' < number_of bs) → ordering_then (ordering_then o (nat_cmp a.1 b.1)) (monomial_cmp as' bs) ≡ Less → number_of (a ∷ as') < number_of (b ∷ bs)
    first Less m f e =
        let low = number_below (a ∷ as') b.0 h s (m, IsBelow-more a.0 b.0 as' (omega arith) h.1) in
        let l = mul-le-mul_right (room b.0) i.0 in
        omega (arith, low, l)
    first Equal m f e = second (nat_cmp a.1 b.1) m (ranked a.1 b.1 (nat_cmp a.1 b.1) refl) f e
    first Greater m f e = absurd (cc e)

-- what a division has left is terms of the polynomial less products that are owed, and these are products of what was made
pub record InDivision (u : Term) (us p left made : List Term) (rows : List OwedRow) : Type 0 where
  pub poly : IsPoly left
  pub owed : AreOwed rows
  pub divided : Divided u us p (left ++ negated (owed_terms rows)) made
  pub within : (m : List (ℕ × ℕ)) → weight (owed_terms rows) m ≤ weight (products made (u ∷ us)) m

pub InDivision-start : (u : Term) (us p made : List Term) (rows : List OwedRow) → IsPoly p → AreOwed rows → rows ≡ [] → made ≡ [] → InDivision u us p p made rows
InDivision-start u us p made rows h o e f = subst (λ x. InDivision u us p p x rows) (sym f) (subst (λ x. AreOwed x → InDivision u us p p [] x) (sym e) (λ a. record {
  poly = h;
  owed = a;
  divided = subst (λ x. Divided u us p x []) (sym (append-nil p)) (Divided-start u us p);
  within = λ m. le_refl 0;
}) o)

negated_back : (k : List (ℕ × ℕ)) (ts : List Term) → AllUnder k (negated ts) → AllUnder k ts
negated_back k [] a = tt
negated_back k (x ∷ xs) a = (a.0, negated_back k xs a.1)

led_under : (m k : List (ℕ × ℕ)) (ts : List Term) → IsLed m ts → AllUnder k ts → monomial_cmp m k ≡ Less
led_under m k [] l a = absurd l
led_under m k (t ∷ ts) l a = ap (λ x. monomial_cmp x k) (sym l) ∙ a.0

owed_monomials : (rows : List OwedRow) → AreOwed rows → AllMonomials (owed_terms rows)
owed_monomials rows o = each rows (recursion_from_All (λ (r : OwedRow). IsPoly (row_terms r)) rows o.polys)
  where
    each : (rs : List OwedRow) → AllByRecursion (λ (r : OwedRow). IsPoly (row_terms r)) rs → AllMonomials (owed_terms rs)
    each [] h = tt
    each (r ∷ rs) h = all_both (λ (t : Term). IsMonomial t.monomial) (row_terms r) (owed_terms rs) h.0.monomials (each rs h.1)

-- the number falls
number_up : (m : List (ℕ × ℕ)) (ts : List Term) → IsPowers m → AllMonomials ts → AllUnder m ts → greatest_number ts ≤ number_of m
number_up m [] h i a = omega arith
number_up m (t ∷ ts) h i a = let l = number_falls t.monomial m i.0.powers h i.0.in_range a.0 in let r = number_up m ts h i.1 a.1 in omega (arith, l, r)

number_led : (m : List (ℕ × ℕ)) (xs ts ys : List Term) → IsLed m ts → number_of m < greatest_number (xs ++ (ts ++ ys))
number_led m [] [] ys l = absurd l
number_led m [] (t ∷ ts) ys l = let e : number_of t.monomial ≡ number_of m = ap number_of l in omega (arith, e)
number_led m (x ∷ xs) ts ys l = let r = number_led m xs ts ys l in omega (arith, r)

powers_led : (m : List (ℕ × ℕ)) (ts : List Term) → IsLed m ts → AllMonomials ts → IsPowers m
powers_led m [] l h = absurd l
powers_led m (t ∷ ts) l h = subst IsPowers l h.0.powers

module _ (u : Term) (us p left made : List Term) (rows : List OwedRow) (m : List (ℕ × ℕ)) (b : ℤ) (below : List Term) (n : IsPoly (u ∷ us)) (s : InDivision u us p left made rows) (x : IsNextTerm left rows (term m b) below) where
  pub too_heavy : max_coeff < unsigned_abs (b +ℤ neg_ℤ (coefficient (owed_terms rows) m)) + weight (owed_terms rows) m → (g : List Term) → DividesOpenly (u ∷ us) p g → ⊥
  too_heavy l g o =
      let i = s.divided.left g o in
      let w : weight (products made (u ∷ us)) m + weight (products i.others (u ∷ us)) m ≤ max_coeff = subst (λ k. k ≤ max_coeff) (weight-append m (products made (u ∷ us)) (products i.others (u ∷ us))) (subst (λ ts. weight ts m ≤ max_coeff) (products_append made i.others (u ∷ us)) (subst (λ ts. weight (products ts (u ∷ us)) m ≤ max_coeff) (sym i.whole) (o.product.light m))) in
      let a = coefficient_weight (products i.others (u ∷ us)) m in
      let h = s.within m in
      at b (coefficient (owed_terms rows) m) (coefficient (products i.others (u ∷ us)) m) (coefficient left m) _ _ _ (x.sums m ∙ coefficient_leading (term m b) below x.under) (sym (i.sums m) ∙ coefficient-append m left (negated (owed_terms rows)) ∙ ap (λ z. coefficient left m +ℤ z) (coefficient-negated m (owed_terms rows))) w a h l
    where
      at : (b v z y : ℤ) (o k q : ℕ) → y ≡ b → z ≡ y +ℤ neg_ℤ v → k + q ≤ max_coeff → unsigned_abs z ≤ q → o ≤ k → max_coeff < unsigned_abs (b +ℤ neg_ℤ v) + o → ⊥
      at b v z y o k q e f g h i l = absurd (omega (arith, ints, e, f, g, h, i, l))

  powers : IsPowers m
  powers = each x.some
    where
      each : IsLed m left ⊎ IsLed m (owed_terms rows) → IsPowers m
      each (inl l) = powers_led m left l s.poly.monomials
      each (inr l) = powers_led m (owed_terms rows) l (owed_monomials rows s.owed)

  above : (k : List (ℕ × ℕ)) → AllUnder k (left ++ negated (owed_terms rows)) → monomial_cmp m k ≡ Less
  above k a = each x.some
    where
      each : IsLed m left ⊎ IsLed m (owed_terms rows) → monomial_cmp m k ≡ Less
      each (inl l) = led_under m k left l (all_front (λ (t : Term). monomial_cmp t.monomial k ≡ Less) left (negated (owed_terms rows)) a)
      each (inr l) = led_under m k (owed_terms rows) l (negated_back k (owed_terms rows) (all_back (λ (t : Term). monomial_cmp t.monomial k ≡ Less) left (negated (owed_terms rows)) a))

  number : number_of m < greatest_number (left ++ owed_terms rows)
  number = each x.some
    where
      each : IsLed m left ⊎ IsLed m (owed_terms rows) → number_of m < greatest_number (left ++ owed_terms rows)
      each (inl l) = number_led m [] left (owed_terms rows) l
      each (inr l) = subst (λ ts. number_of m < greatest_number (left ++ ts)) (append-nil (owed_terms rows)) (number_led m left (owed_terms rows) [] l)

  pub number_lower : (later : List OwedRow) → AreOwed later → AllUnder m (owed_terms later) → greatest_number (below ++ owed_terms later) < greatest_number (left ++ owed_terms rows)
  number_lower later o a =
      let l = number_up m (below ++ owed_terms later) powers (all_both (λ (t : Term). IsMonomial t.monomial) below (owed_terms later) x.poly.monomials (owed_monomials later o)) (all_both (λ (t : Term). monomial_cmp t.monomial m ≡ Less) below (owed_terms later) x.under a) in
      let r = number in
      omega (arith, l, r)

  module _ (new : List OwedRow) (c : ℤ) (k : IsTakenOff m b rows new c) where
    abbrev lower : List Term
    lower = below ++ negated (owed_terms new)

    pub lower_under : AllUnder m lower
    lower_under = all_both (λ (t : Term). monomial_cmp t.monomial m ≡ Less) below (negated (owed_terms new)) x.under (negated_under m (owed_terms new) k.under)

    pub divided_at : Divided u us p (term m c ∷ lower) made
    divided_at = Divided-same u us p (left ++ negated (owed_terms rows)) (term m c ∷ lower) made
        (λ i. at _ _ _ _ _ _ _ _ (coefficient-append i left (negated (owed_terms rows))) (coefficient-append i below (negated (owed_terms new))) (x.sums i) (k.sums i))
        (λ i a. (above i a, all_through m i lower (above i a) lower_under))
        s.divided
      where
        at : (r l v y d w e f : ℤ) → r ≡ l +ℤ v → y ≡ d +ℤ w → l ≡ e +ℤ d → e +ℤ v ≡ f +ℤ w → f +ℤ y ≡ r
        at r l v y d w e f g h i j = omega (arith, ints, g, h, i, j)

    pub none_lower : greatest_number (below ++ owed_terms new) < greatest_number (left ++ owed_terms rows)
    none_lower = number_lower new k.owed k.under

    pub row_lower : (t : Term) (ts : List Term) (later : List OwedRow) → IsTermOver u (term m c) t → IsRow t us ts → IsOwedMore new ts later → greatest_number (below ++ owed_terms later) < greatest_number (left ++ owed_terms rows)
    row_lower t ts later h w o =
        let falls : AllUnder m (row t us) = subst (λ i. AllUnder i (row t us)) h.monomial (row_falls t (u ∷ us) h.own.powers n.monomials n.falling).0 in
        number_lower later o.owed (o.same.under m (all_both (λ (v : Term). monomial_cmp v.monomial m ≡ Less) ts (owed_terms new) (subst (AllUnder m) (sym w.row) falls) k.under))

    pub no_next : c ≢ pos 0 → ((t : Term) → IsTermOver u (term m c) t → ⊥) → (g : List Term) → DividesOpenly (u ∷ us) p g → ⊥
    no_next apart z = no_term u us p (term m c) lower made n lower_under apart divided_at z

    pub no_next_row : c ≢ pos 0 → (t : Term) → IsTermOver u (term m c) t → (IsLight (row t us) → ⊥) → (g : List Term) → DividesOpenly (u ∷ us) p g → ⊥
    no_next_row apart t h z = no_row u us p (term m c) lower made n lower_under apart divided_at t h z

    pub next_row : c ≢ pos 0 → (t : Term) (ts : List Term) → IsTermOver u (term m c) t → IsRow t us ts → IsPoly ts
    next_row apart t ts h w = row_poly u us p (term m c) lower made n lower_under apart divided_at t ts h w

    pub InDivision-none : c ≡ pos 0 → InDivision u us p below made new
    InDivision-none z = record {
      poly = x.poly;
      owed = k.owed;
      divided = Divided-same u us p (term m c ∷ lower) lower made (λ i. none (is_of i (term m c)) c (coefficient lower i) z) (λ i a. a.1) divided_at;
      within = λ i. let l = k.within i in let r = s.within i in omega (arith, l, r);
    }
      where
        none : (b : Bool) (c w : ℤ) → c ≡ pos 0 → w ≡ (if b then c else pos 0) +ℤ w
        none true c w e = omega (arith, ints, e)
        none false c w e = omega (arith, ints)

    pub InDivision-more : (apart : c ≢ pos 0) (t : Term) (ts : List Term) (later : List OwedRow) (more : List Term) → IsTermOver u (term m c) t → IsRow t us ts → IsOwedMore new ts later → more ≡ made ++ t ∷ [] → InDivision u us p below more later
    InDivision-more apart t ts later more h w o e = subst (λ v. InDivision u us p below v later) (sym e) (record {
      poly = x.poly;
      owed = o.owed;
      divided = Divided-same u us p (lower ++ negated (row t us)) (below ++ negated (owed_terms later)) (made ++ t ∷ [])
          (λ i. at _ _ _ _ _ _ _ _ _ (coefficient-append i lower (negated (row t us))) (coefficient-append i below (negated (owed_terms new))) (coefficient-append i below (negated (owed_terms later))) (coefficient-negated i (owed_terms new)) (coefficient-negated i (row t us)) (coefficient-negated i (owed_terms later) ∙ ap neg_ℤ (same.sums i ∙ coefficient-append i (row t us) (owed_terms new))))
          (λ i a. all_both (λ (v : Term). monomial_cmp v.monomial i ≡ Less) below (negated (owed_terms later)) (all_front (λ (v : Term). monomial_cmp v.monomial i ≡ Less) below (negated (owed_terms new)) (all_front (λ (v : Term). monomial_cmp v.monomial i ≡ Less) lower (negated (row t us)) a)) (negated_under i (owed_terms later) (same.under i (all_both (λ (v : Term). monomial_cmp v.monomial i ≡ Less) (row t us) (owed_terms new) (negated_back i (row t us) (all_back (λ (v : Term). monomial_cmp v.monomial i ≡ Less) lower (negated (row t us)) a)) (negated_back i (owed_terms new) (all_back (λ (v : Term). monomial_cmp v.monomial i ≡ Less) below (negated (owed_terms new)) (all_front (λ (v : Term). monomial_cmp v.monomial i ≡ Less) lower (negated (row t us)) a)))))))
          (Divided-more u us p (term m c) lower made n lower_under apart divided_at t h k.small);
      within = λ i.
          let a = same.weights i in
          let b = weight-append i (row t us) (owed_terms new) in
          let c = k.within i in
          let d = s.within i in
          let e = ap (λ v. weight v i) (products_append made (t ∷ []) (u ∷ us)) in
          let f = weight-append i (products made (u ∷ us)) (products (t ∷ []) (u ∷ us)) in
          let g = weight-append i (row t (u ∷ us)) [] in
          omega (arith, a, b, c, d, e, f, g);
    })
      where
        same : AreSameTerms (row t us ++ owed_terms new) (owed_terms later)
        same = subst (λ v. AreSameTerms (v ++ owed_terms new) (owed_terms later)) w.row o.same

        at : (r l y d a v f g q : ℤ) → r ≡ l +ℤ y → l ≡ d +ℤ a → v ≡ d +ℤ f → a ≡ neg_ℤ g → y ≡ neg_ℤ q → f ≡ neg_ℤ (q +ℤ g) → v ≡ r
        at r l y d a v f g q i j k h m n = omega (arith, ints, i, j, k, h, m, n)

-- where the product of the only quotient with the divisor is stopped, there is no open quotient
pub stopped_quotient : (u : Term) (us n p v : List Term) (fault : PolyFault) → u ∷ us ≡ n → IsPoly n → IsPoly v × IsSum p (products v (u ∷ us)) → IsFault (products v n) fault → fault ≢ OutOfMemory → (g : List Term) → DividesOpenly n p g → ⊥
stopped_quotient u us n p v fault e h q f o g d =
    let whole : IsPoly (u ∷ us) = subst IsPoly (sym e) h in
    let quotient : DividesOpenly (u ∷ us) p g = subst (λ x. DividesOpenly x p g) (sym e) d in
    let same : v ≡ g = one_factor u us v g whole q.0 quotient.poly (λ m. sym (q.1 m) ∙ quotient.product.sums m) in
    by_light (products g n) fault (light_of n p g d) (subst (λ x. IsFault (products x n) fault) same f) o

-- a list by its first member and the others
take_all : {X : Type 0} → (n : ℕ) (xs : List X) → length xs ≤ n → take n xs ≡ xs
take_all zero [] l = refl
take_all (suc n) [] l = refl
take_all zero (x ∷ xs) l = absurd (omega arith)
take_all (suc n) (x ∷ xs) l = ap (λ ys. x ∷ ys) (take_all n xs (omega arith))

pub by_first : (xs : List Term) (t : Term) → 1 ≤ length xs → t ≡ slice_index_or xs 0 t → t ∷ take (length xs - 1) (drop 1 xs) ≡ xs
by_first [] t l e = absurd (omega arith)
by_first (x ∷ xs) t l e = ap (λ y. y ∷ take (length (x ∷ xs) - 1) xs) e ∙ ap (λ ys. x ∷ ys) (take_all (length (x ∷ xs) - 1) xs (omega arith))
