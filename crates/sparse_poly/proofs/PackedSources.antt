-- Packed shares that are read from the greatest word down: merges that are made as they are read, and what is read in a layout.
use Rattle.std.specs.Prelude.{◌≡◌, ◌<◌, ◌≤◌, ℕ, ◌+◌, ◌*◌, ◌^◌, ℤ, ◌+ℤ◌, List, [], ◌∷◌, ◌++◌, length, refl}
use mathlib.Core.Logic.{◌⊎◌, inl, inr}
use Rattle.std.proofs.Common.{arith, sym, ◌∙◌, ap, subst, length-append, append_assoc}
use Rattle.std.proofs.lemmas.Int.{ints}
use Rattle.std.proofs.lemmas.Bool.{cases_lt, cases_order}
use Rattle.std.specs.List.{AllByRecursion}
use Rattle.std.specs.declared.cmp.Ordering.TheVariants.{Less}
use Rattle.std.specs.declared.option.Option.{Option}
use Rattle.std.specs.declared.option.Option.TheVariants.{None, Some}
use Rattle.monomial.specs.Monomials.{monomial_cmp}
use Rattle.monomial.specs.Layouts.{AreFalling, IsLayout, monomial_of}
use Rattle.monomial.proofs.Total.{monomial_cmp-IsTotalOrder}
use Rattle.monomial.proofs.Words.{lower_monomial}
use Rattle.sparse_poly.specs.declared.packed_entry.PackedShare.{PackedShare}
use Rattle.sparse_poly.specs.Standing.{ssum, sweight, Agree, AllBelow}
use Rattle.sparse_poly.specs.Packed.{Reading, share_read, shares_read, share_words, AllUnder, IsSameInFewer, IsGreatestWord, IsPackedTaken, IsPackedNext}
use Rattle.sparse_poly.proofs.Descending.{all_map, all_more}
use Rattle.sparse_poly.proofs.Packings.{weight_of, sum_of, joined_words}
use Rattle.sparse_poly.proofs.Squeezes.{IsTakenFrom}
use Rattle.sparse_poly.proofs.Standings.{agree_plus, agree_through, same_agrees}
use Rattle.sparse_poly.proofs.Sums.{ssum-append, sweight-append}
use Rattle.std.proofs.lemmas.List.{append-nil}

pub shares_read-append : (r : Reading) (xs ys : List PackedShare) → shares_read r (xs ++ ys) ≡ shares_read r xs ++ shares_read r ys
shares_read-append r [] ys = refl
shares_read-append r (x ∷ xs) ys = ap (λ zs. share_read r x ∷ zs) (shares_read-append r xs ys)

share_words-append : (xs ys : List PackedShare) → share_words (xs ++ ys) ≡ share_words xs ++ share_words ys
share_words-append [] ys = refl
share_words-append (x ∷ xs) ys = ap (λ zs. x.word ∷ zs) (share_words-append xs ys)

pub under_both : (n : ℕ) (xs ys : List PackedShare) → AllUnder n (share_words xs) → AllUnder n (share_words ys) → AllUnder n (share_words (xs ++ ys))
under_both n [] ys h k = k
under_both n (x ∷ xs) ys h k = (h.0, under_both n xs ys h.1 k)

under_front : (n : ℕ) (xs ys : List PackedShare) → AllUnder n (share_words (xs ++ ys)) → AllUnder n (share_words xs)
under_front n [] ys h = tt
under_front n (x ∷ xs) ys h = (h.0, under_front n xs ys h.1)

under_back : (n : ℕ) (xs ys : List PackedShare) → AllUnder n (share_words (xs ++ ys)) → AllUnder n (share_words ys)
under_back n [] ys h = h
under_back n (x ∷ xs) ys h = under_back n xs ys h.1

-- the same shares
pub same_itself : (xs : List PackedShare) → IsSameInFewer xs xs
same_itself xs = record { sums = λ r m. inl (refl, refl); fewer = omega arith; under = λ n h. h }

pub same_through : (xs ys zs : List PackedShare) → IsSameInFewer xs ys → IsSameInFewer ys zs → IsSameInFewer xs zs
same_through xs ys zs h k = record {
  sums = λ r m. agree_through _ _ _ _ _ _ (h.sums r m) (k.sums r m);
  fewer = omega (arith, h.fewer, k.fewer);
  under = λ n a. h.under n (k.under n a);
}

pub same_both : (xs ys us vs : List PackedShare) → IsSameInFewer xs us → IsSameInFewer ys vs → IsSameInFewer (xs ++ ys) (us ++ vs)
same_both xs ys us vs h k = record {
  sums = λ r m. agree_through _ _ _ _ _ _ (same_agrees _ _ _ _ (weights r m xs ys) (sums r m xs ys))
      (agree_through _ _ _ _ _ _ (agree_plus _ _ _ _ _ _ _ _ (h.sums r m) (k.sums r m)) (same_agrees _ _ _ _ (sym (weights r m us vs)) (sym (sums r m us vs))));
  fewer = omega (arith, length-append xs ys, length-append us vs, h.fewer, k.fewer);
  under = λ n a. under_both n xs ys (h.under n (under_front n us vs a)) (k.under n (under_back n us vs a));
}
  where
    weights : (r : Reading) (m : List (ℕ × ℕ)) (os ps : List PackedShare) → sweight (shares_read r (os ++ ps)) m ≡ sweight (shares_read r os) m + sweight (shares_read r ps) m
    weights r m os ps = ap (λ ss. sweight ss m) (shares_read-append r os ps) ∙ sweight-append m (shares_read r os) (shares_read r ps)

    sums : (r : Reading) (m : List (ℕ × ℕ)) (os ps : List PackedShare) → ssum (shares_read r (os ++ ps)) m ≡ ssum (shares_read r os) m +ℤ ssum (shares_read r ps) m
    sums r m os ps = ap (λ ss. ssum ss m) (shares_read-append r os ps) ∙ ssum-append m (shares_read r os) (shares_read r ps)

same_cons : (x : PackedShare) (xs ys : List PackedShare) → IsSameInFewer xs ys → IsSameInFewer (x ∷ xs) (x ∷ ys)
same_cons x xs ys h = same_both (x ∷ []) xs (x ∷ []) ys (same_itself (x ∷ [])) h

-- a share before another
same_swapped : (x y : PackedShare) (zs : List PackedShare) → IsSameInFewer (y ∷ x ∷ zs) (x ∷ y ∷ zs)
same_swapped x y zs = record {
  sums = λ r m. same_agrees _ _ _ _ (swapped (weight_of r m y) (weight_of r m x) _) (swapped_sum (sum_of r m y) (sum_of r m x) (ssum (shares_read r zs) m));
  fewer = omega arith;
  under = λ n h. (h.1.0, (h.0, h.1.1));
}
  where
    swapped : (a b c : ℕ) → a + (b + c) ≡ b + (a + c)
    swapped a b c = omega arith

    swapped_sum : (a b c : ℤ) → a +ℤ (b +ℤ c) ≡ b +ℤ (a +ℤ c)
    swapped_sum a b c = omega (arith, ints)

-- a share before those that it stood after
same_moved : (xs ys : List PackedShare) (y : PackedShare) → IsSameInFewer (y ∷ (xs ++ ys)) (xs ++ y ∷ ys)
same_moved [] ys y = same_itself (y ∷ ys)
same_moved (x ∷ xs) ys y = same_through _ _ _ (same_swapped x y (xs ++ ys)) (same_cons x _ _ (same_moved xs ys y))

-- two shares of one word as one
same_joined : (x y z : PackedShare) (zs : List PackedShare) → x.word ≡ y.word → z.word ≡ x.word → Agree z.weight z.sum (x.weight + y.weight) (x.sum +ℤ y.sum) → IsSameInFewer (z ∷ zs) (x ∷ y ∷ zs)
same_joined x y z zs e f a = record {
  sums = λ r m. agree_through _ _ _ _ _ _ (agree_plus _ _ _ _ _ _ _ _ (joined_words x y z e f a r m) (inl (refl, refl)))
      (same_agrees _ _ _ _ (assoc (weight_of r m x) (weight_of r m y) _) (assoc_sum (sum_of r m x) (sum_of r m y) (ssum (shares_read r zs) m)));
  fewer = omega arith;
  under = λ n h. (subst (λ w. w < n) (sym f) h.0, h.1.1);
}
  where
    assoc : (a b c : ℕ) → (a + b) + c ≡ a + (b + c)
    assoc a b c = omega arith

    assoc_sum : (a b c : ℤ) → (a +ℤ b) +ℤ c ≡ a +ℤ (b +ℤ c)
    assoc_sum a b c = omega (arith, ints)

-- the greatest word
pub never_empty : (ss : List PackedShare) (w : ℕ) → IsGreatestWord ss (Some w) → ss ≡ [] → ⊥
never_empty ss w h e = let less : w < 0 = (h 0).0 (subst (λ xs. AllUnder 0 (share_words xs)) (sym e) tt) in omega arith

pub greatest_first : (fs ss : List PackedShare) (w : ℕ) → IsGreatestWord fs (Some w) → IsGreatestWord ss None → IsGreatestWord (fs ++ ss) (Some w)
greatest_first fs ss w h e n = (λ u. (h n).0 (under_front n fs ss u), λ l. under_both n fs ss ((h n).1 l) (subst (λ xs. AllUnder n (share_words xs)) (sym e) tt))

pub greatest_both : (fs ss : List PackedShare) (v w k : ℕ) → IsGreatestWord fs (Some v) → IsGreatestWord ss (Some w) → (v ≤ k) × (w ≤ k) × ((k ≡ v) ⊎ (k ≡ w)) → IsGreatestWord (fs ++ ss) (Some k)
greatest_both fs ss v w k h i m n = (λ u. each m.2 ((h n).0 (under_front n fs ss u)) ((i n).0 (under_back n fs ss u)), λ l. under_both n fs ss ((h n).1 (omega (arith, m.0, l))) ((i n).1 (omega (arith, m.1, l))))
  where
    each : (k ≡ v) ⊎ (k ≡ w) → v < n → w < n → k < n
    each (inl e) a b = omega arith
    each (inr e) a b = omega arith

pub greatest_second : (fs ss : List PackedShare) (o : Option ℕ) → fs ≡ [] → IsGreatestWord ss o → IsGreatestWord (fs ++ ss) o
greatest_second fs ss o e g = subst (λ xs. IsGreatestWord (xs ++ ss) o) (sym e) g

pub greater_of : (v w k : ℕ) → k ≡ Prim.Native.Nat.max v w → (v ≤ k) × (w ≤ k) × ((k ≡ v) ⊎ (k ≡ w))
greater_of v w k e = (omega (arith, e), omega (arith, e), each (cases_lt v w))
  where
    each : (v < w) ⊎ (w ≤ v) → (k ≡ v) ⊎ (k ≡ w)
    each (inl l) = inr (omega (arith, e))
    each (inr l) = inl (omega (arith, e))

-- a share that is taken has the greatest word
taken_word : (old new : List PackedShare) (s : PackedShare) (w : ℕ) → IsGreatestWord old (Some w) → IsPackedTaken old new s → s.word ≡ w
taken_word old new s w g h =
    let most : w < s.word + 1 = (g (s.word + 1)).0 (h.above (s.word + 1) (omega arith)) in
    let least : s.word < w + 1 = (h.same.under (w + 1) ((g (w + 1)).1 (omega arith))).0 in
    omega arith

-- the greatest share is in the first list
pub next_first : (fs gs ss : List PackedShare) (v w : ℕ) (o : Option PackedShare) → IsGreatestWord fs (Some v) → IsGreatestWord ss (Some w) → w < v → IsPackedNext fs gs o → IsPackedNext (fs ++ ss) (gs ++ ss) o
next_first fs gs ss v w None g i l h = absurd (never_empty fs v g h.0)
next_first fs gs ss v w (Some s) g i l h =
    let own : s.word ≡ v = taken_word fs gs s v g h in
    record {
      same = same_both (s ∷ gs) ss fs ss h.same (same_itself ss);
      above = λ n m. under_both n fs ss (h.above n m) ((i n).1 (omega arith));
      below = under_both s.word gs ss h.below ((i s.word).1 (omega arith));
    }

-- the greatest share is in the second list
pub next_second : (fs ss ts : List PackedShare) (v w : ℕ) (o : Option PackedShare) → IsGreatestWord fs (Some v) → IsGreatestWord ss (Some w) → v < w → IsPackedNext ss ts o → IsPackedNext (fs ++ ss) (fs ++ ts) o
next_second fs ss ts v w None g i l h = absurd (never_empty ss w i h.0)
next_second fs ss ts v w (Some s) g i l h =
    let own : s.word ≡ w = taken_word ss ts s w i h in
    record {
      same = same_through _ _ _ (same_moved fs ts s) (same_both fs (s ∷ ts) fs ss (same_itself fs) h.same);
      above = λ n m. under_both n fs ss ((g n).1 (omega arith)) (h.above n m);
      below = under_both s.word fs ts ((g s.word).1 (omega arith)) h.below;
    }

-- both lists have a share of the greatest word
pub next_both : (fs gs ss ts : List PackedShare) (v w : ℕ) (x y z : PackedShare) → IsGreatestWord fs (Some v) → IsGreatestWord ss (Some w) → v ≡ w → IsPackedTaken fs gs x → IsPackedTaken ss ts y → z.word ≡ x.word → Agree z.weight z.sum (x.weight + y.weight) (x.sum +ℤ y.sum) → IsPackedTaken (fs ++ ss) (gs ++ ts) z
next_both fs gs ss ts v w x y z g i e h k d a =
    let first : x.word ≡ v = taken_word fs gs x v g h in
    let second : y.word ≡ w = taken_word ss ts y w i k in
    let equal : x.word ≡ y.word = first ∙ e ∙ sym second in
    record {
      same = same_through _ _ _ (same_joined x y z (gs ++ ts) equal d a)
          (same_through _ _ _ (same_cons x _ _ (same_moved gs ts y)) (same_both (x ∷ gs) (y ∷ ts) fs ss h.same k.same));
      above = λ n m. under_both n fs ss (h.above n (omega (arith, d, m))) (k.above n (omega (arith, d, equal, m)));
      below = under_both z.word gs ts (subst (λ n. AllUnder n (share_words gs)) (sym d) h.below) (subst (λ n. AllUnder n (share_words ts)) (sym (d ∙ equal)) k.below);
    }

-- what is read in a layout
pub under_after : (n : ℕ) (old new : List PackedShare) (s : PackedShare) → AllUnder n (share_words old) → IsPackedTaken old new s → AllUnder n (share_words new)
under_after n old new s a h = (h.same.under n a).1

pub none_left : (old new : List PackedShare) (o : Option PackedShare) → ((s : PackedShare) → o ≡ Some s → ⊥) → IsPackedNext old new o → old ≡ []
none_left old new None n h = h.0
none_left old new (Some s) n h = absurd (n s refl)

below_read : (vs : List ℕ) (w : ℕ) (ss : List PackedShare) → IsLayout vs → w < 2 ^ (16 * length vs) → AllUnder w (share_words ss) → AllBelow (monomial_of vs w) (shares_read (monomial_of vs) ss)
below_read vs w [] y l h = tt
below_read vs w (s ∷ ss) y l h = (lower_monomial vs s.word w y.falling l h.0, below_read vs w ss y l h.1)

-- a word that is not above all others is read as a monomial below what is above theirs
reached : (vs : List ℕ) (w : ℕ) (k : List (ℕ × ℕ)) (ss : List PackedShare) → IsLayout vs → (AllUnder w (share_words ss) → ⊥) → AllUnder (2 ^ (16 * length vs)) (share_words ss) → AllBelow k (shares_read (monomial_of vs) ss) → monomial_cmp (monomial_of vs w) k ≡ Less
reached vs w k [] y n a b = absurd (n tt)
reached vs w k (s ∷ ss) y n a b = each (cases_order w s.word) (λ l. reached vs w k ss y (λ u. n (l, u)) a.1 b.1)
  where
    each : (w ≡ s.word) ⊎ ((w < s.word) ⊎ (s.word < w)) → (s.word < w → monomial_cmp (monomial_of vs w) k ≡ Less) → monomial_cmp (monomial_of vs w) k ≡ Less
    each (inl e) rest = ap (λ v. monomial_cmp (monomial_of vs v) k) e ∙ b.0
    each (inr (inl l)) rest = monomial_cmp-IsTotalOrder.trans (monomial_of vs w) (monomial_of vs s.word) k (lower_monomial vs w s.word y.falling a.0 l) b.0
    each (inr (inr l)) rest = rest l

pub IsTakenFrom-read : (vs : List ℕ) (old new : List PackedShare) (s : PackedShare) → IsLayout vs → AllUnder (2 ^ (16 * length vs)) (share_words old) → IsPackedTaken old new s → IsTakenFrom (shares_read (monomial_of vs) old) (shares_read (monomial_of vs) new) (share_read (monomial_of vs) s)
IsTakenFrom-read vs old new s y a h =
    let all = h.same.under (2 ^ (16 * length vs)) a in
    record {
      sums = λ m. h.same.sums (monomial_of vs) m;
      below = below_read vs s.word new y all.0 h.below;
      bounded = λ k b. reached vs s.word k old y (λ u. never (h.same.under s.word u).0) a b;
    }
  where
    never : s.word < s.word → ⊥
    never l = omega arith

-- shares that are made into a list: done went, and us are left
pub record Collecting (xs us done : List PackedShare) : Type 0 where
  pub same : IsSameInFewer (done ++ us) xs
  pub falling : AreFalling (share_words done)
  pub above : AllByRecursion (λ (o : PackedShare). AllUnder o.word (share_words us)) done

pub Collecting-start : (xs : List PackedShare) → Collecting xs xs []
Collecting-start xs = record { same = same_itself xs; falling = tt; above = tt }

falling_more : (done : List PackedShare) (s : PackedShare) → AreFalling (share_words done) → AllByRecursion (λ (o : PackedShare). s.word < o.word) done → AreFalling (share_words (done ++ s ∷ []))
falling_more [] s f a = (tt, tt)
falling_more (o ∷ done) s f a = (under_both o.word done (s ∷ []) f.0 (a.0, tt), falling_more done s f.1 a.1)

pub Collecting-more : (xs old new done : List PackedShare) (s : PackedShare) → Collecting xs old done → IsPackedTaken old new s → Collecting xs new (done ++ s ∷ [])
Collecting-more xs old new done s g h = record {
  same = subst (λ ss. IsSameInFewer ss xs) (sym (append_assoc done (s ∷ []) new)) (same_through _ _ _ (same_both done (s ∷ new) done old (same_itself done) h.same) g.same);
  falling = falling_more done s g.falling (all_map (λ (o : PackedShare). AllUnder o.word (share_words old)) (λ (o : PackedShare). s.word < o.word) done (λ o u. (h.same.under o.word u).0) g.above);
  above = all_more (λ (o : PackedShare). AllUnder o.word (share_words new)) done s (all_map (λ (o : PackedShare). AllUnder o.word (share_words old)) (λ (o : PackedShare). AllUnder o.word (share_words new)) done (λ o u. (h.same.under o.word u).1) g.above) h.below;
}

pub Collecting-same : (xs us done : List PackedShare) → Collecting xs us done → us ≡ [] → IsSameInFewer done xs
Collecting-same xs us done g e = subst (λ ss. IsSameInFewer ss xs) (ap (λ vs. done ++ vs) e ∙ append-nil done) g.same

pub Collecting-falls : (xs us done : List PackedShare) → Collecting xs us done → AreFalling (share_words done)
Collecting-falls xs us done g = g.falling
