-- Packed shares: their merges, and what the contributions to a product stand for.
use Rattle.std.specs.Prelude.{zero, suc, ◌≡◌, ◌<◌, ◌≤◌, ℕ, ◌+◌, ◌-◌, Bool, true, false, if◌then◌else◌, ℤ, pos, unsigned_abs, ◌+ℤ◌, ◌*ℤ◌, List, [], ◌∷◌, ◌++◌, length, take, drop, slice_index_or, refl}
use mathlib.Core.Logic.{◌⊎◌, inl, inr}
use Rattle.std.proofs.Common.{arith, sym, ◌∙◌, ap, subst, append_assoc}
use Rattle.std.proofs.lemmas.Int.{ints}
use Rattle.std.proofs.lemmas.List.{take-append-drop, append-nil}
use Rattle.std.proofs.lemmas.Slice.{between_to_end}
use Rattle.std.specs.Coded.{le_prop}
use Rattle.std.specs.Ordering.{is_eq}
use Rattle.monomial.specs.Monomials.{monomial_cmp, monomial_times}
use Rattle.sparse_poly.specs.declared.Term.{Term}
use Rattle.sparse_poly.specs.declared.entry.Share.{Share}
use Rattle.sparse_poly.specs.declared.packed_entry.PackedTerm.{PackedTerm}
use Rattle.sparse_poly.specs.declared.packed_entry.PackedShare.{PackedShare}
use Rattle.sparse_poly.specs.Contributions.{signed, kept, signed_row, signed_products}
use Rattle.sparse_poly.specs.Standing.{ssum, sweight, Agree, Stands}
use Rattle.monomial.specs.Layouts.{AreFalling}
use Rattle.sparse_poly.specs.Packed.{Reading, term_read, terms_read, share_read, shares_read, term_words, share_words, AllUnder, raised, row_share, row_shares, IsPackedRow, IsPackedProduct, IsPackedMerge}
use Rattle.sparse_poly.proofs.Evaluation.{zero_plus}
use Rattle.sparse_poly.proofs.Adding.{signed_products-append, signed_products-one}
use Rattle.sparse_poly.proofs.Standings.{agree_kept, agree_plus, agree_through, same_agrees}
use Rattle.sparse_poly.proofs.Descending.{all_map}
use Rattle.sparse_poly.proofs.Places.{drop_one, drop_end}

pub drop_at : {X : Type 0} → (xs : List X) (k : ℕ) (x : X) → k < length xs → x ≡ slice_index_or xs k x → drop k xs ≡ x ∷ drop (k + 1) xs
drop_at xs k x h e = drop_one xs k x h ∙ ap (λ y. y ∷ drop (k + 1) xs) (sym e)

-- what two reads of one place give
pub same_read : {X : Type 0} → (xs : List X) (k : ℕ) (x y : X) → k < length xs → x ≡ slice_index_or xs k x → y ≡ slice_index_or xs k y → x ≡ y
same_read [] k x y h e f = absurd (omega arith)
same_read (z ∷ zs) zero x y h e f = e ∙ sym f
same_read (z ∷ zs) (suc k) x y h e f = same_read zs k x y (omega arith) e f

-- a read of a place gives the same for each share that stands for none
pub read_any : {X : Type 0} → (xs : List X) (k : ℕ) (d : X) → k < length xs → slice_index_or xs k d ≡ slice_index_or xs k (slice_index_or xs k d)
read_any [] k d h = absurd (omega arith)
read_any (z ∷ zs) zero d h = refl
read_any (z ∷ zs) (suc k) d h = read_any zs k d (omega arith)

-- merges
merge_none : (ys : List PackedShare) → IsPackedMerge [] ys ys
merge_none ys = record {
  both = λ r m. inl (plain (sweight (shares_read r ys) m), sym (zero_plus _));
  falling = λ f g. g;
  under = λ n a b. b;
}
  where
    plain : (a : ℕ) → a ≡ 0 + a
    plain a = omega arith

merge_only : (xs : List PackedShare) → IsPackedMerge xs [] xs
merge_only xs = record {
  both = λ r m. inl (plain (sweight (shares_read r xs) m), plain_sum (ssum (shares_read r xs) m));
  falling = λ f g. f;
  under = λ n a b. a;
}
  where
    plain : (a : ℕ) → a ≡ a + 0
    plain a = omega arith

    plain_sum : (a : ℤ) → a ≡ a +ℤ pos 0
    plain_sum a = omega (arith, ints)

pub merge_rest : (xs ys : List PackedShare) → (xs ≡ []) ⊎ (ys ≡ []) → IsPackedMerge xs ys (xs ++ ys)
merge_rest xs ys (inl e) = subst (λ us. IsPackedMerge us ys (us ++ ys)) (sym e) (merge_none ys)
merge_rest xs ys (inr e) = subst (λ us. IsPackedMerge xs us (xs ++ us)) (sym e) (subst (IsPackedMerge xs []) (sym (append-nil xs)) (merge_only xs))

pub under_more : (n k : ℕ) (ws : List ℕ) → n ≤ k → AllUnder n ws → AllUnder k ws
under_more n k ws l h = all_map (λ w. w < n) (λ w. w < k) ws (λ w g. omega arith) h

-- what a share adds to a monomial
abbrev pub weight_of : Reading → List (ℕ × ℕ) → PackedShare → ℕ
weight_of r m s = if is_eq (monomial_cmp m (r s.word)) then s.weight else 0

abbrev pub sum_of : Reading → List (ℕ × ℕ) → PackedShare → ℤ
sum_of r m s = if is_eq (monomial_cmp m (r s.word)) then s.sum else pos 0

pub merge_first : (x y : PackedShare) (xs ys zs : List PackedShare) → y.word < x.word → IsPackedMerge xs (y ∷ ys) zs → IsPackedMerge (x ∷ xs) (y ∷ ys) (x ∷ zs)
merge_first x y xs ys zs l g = record {
  both = λ r m. agree_through _ _ _ _ _ _ (agree_plus (weight_of r m x) (weight_of r m x) _ _ (sum_of r m x) (sum_of r m x) _ _ (inl (refl, refl)) (g.both r m))
      (same_agrees _ _ _ _ (assoc (weight_of r m x) _ _) (assoc_sum (sum_of r m x) (ssum (shares_read r xs) m) (ssum (shares_read r (y ∷ ys)) m)));
  falling = λ f h. (g.under x.word f.0 (l, under_more y.word x.word (share_words ys) (omega arith) h.0), g.falling f.1 h);
  under = λ n a b. (a.0, g.under n a.1 b);
}
  where
    assoc : (a b c : ℕ) → a + (b + c) ≡ (a + b) + c
    assoc a b c = omega arith

    assoc_sum : (a b c : ℤ) → a +ℤ (b +ℤ c) ≡ (a +ℤ b) +ℤ c
    assoc_sum a b c = omega (arith, ints)

pub merge_second : (x y : PackedShare) (xs ys zs : List PackedShare) → x.word < y.word → IsPackedMerge (x ∷ xs) ys zs → IsPackedMerge (x ∷ xs) (y ∷ ys) (y ∷ zs)
merge_second x y xs ys zs l g = record {
  both = λ r m. agree_through _ _ _ _ _ _ (agree_plus (weight_of r m y) (weight_of r m y) _ _ (sum_of r m y) (sum_of r m y) _ _ (inl (refl, refl)) (g.both r m))
      (same_agrees _ _ _ _ (assoc (weight_of r m y) (sweight (shares_read r (x ∷ xs)) m) (sweight (shares_read r ys) m)) (assoc_sum (sum_of r m y) (ssum (shares_read r (x ∷ xs)) m) (ssum (shares_read r ys) m)));
  falling = λ f h. (g.under y.word (l, under_more x.word y.word (share_words xs) (omega arith) f.0) h.0, g.falling f h.1);
  under = λ n a b. (b.0, g.under n a b.1);
}
  where
    assoc : (a b c : ℕ) → a + (b + c) ≡ b + (a + c)
    assoc a b c = omega arith

    assoc_sum : (a b c : ℤ) → a +ℤ (b +ℤ c) ≡ b +ℤ (a +ℤ c)
    assoc_sum a b c = omega (arith, ints)

-- two shares of one word as one
joined_at : (b : Bool) (z x y : PackedShare) → Agree z.weight z.sum (x.weight + y.weight) (x.sum +ℤ y.sum) → Agree (if b then z.weight else 0) (if b then z.sum else pos 0) ((if b then x.weight else 0) + (if b then y.weight else 0)) ((if b then x.sum else pos 0) +ℤ (if b then y.sum else pos 0))
joined_at true z x y a = a
joined_at false z x y a = inl (omega arith, omega (arith, ints))

pub joined_words : (x y z : PackedShare) → x.word ≡ y.word → z.word ≡ x.word → Agree z.weight z.sum (x.weight + y.weight) (x.sum +ℤ y.sum) → (r : Reading) (m : List (ℕ × ℕ)) → Agree (weight_of r m z) (sum_of r m z) (weight_of r m x + weight_of r m y) (sum_of r m x +ℤ sum_of r m y)
joined_words x y z e f a r m =
    subst (λ w. Agree (weight_of r m z) (sum_of r m z) ((if is_eq (monomial_cmp m (r w)) then x.weight else 0) + weight_of r m y) ((if is_eq (monomial_cmp m (r w)) then x.sum else pos 0) +ℤ sum_of r m y)) f
    (subst (λ w. Agree (weight_of r m z) (sum_of r m z) ((if is_eq (monomial_cmp m (r z.word)) then x.weight else 0) + (if is_eq (monomial_cmp m (r w)) then y.weight else 0)) ((if is_eq (monomial_cmp m (r z.word)) then x.sum else pos 0) +ℤ (if is_eq (monomial_cmp m (r w)) then y.sum else pos 0))) (f ∙ e)
    (joined_at (is_eq (monomial_cmp m (r z.word))) z x y a))

pub merge_both : (x y z : PackedShare) (xs ys zs : List PackedShare) → x.word ≡ y.word → z.word ≡ x.word → Agree z.weight z.sum (x.weight + y.weight) (x.sum +ℤ y.sum) → IsPackedMerge xs ys zs → IsPackedMerge (x ∷ xs) (y ∷ ys) (z ∷ zs)
merge_both x y z xs ys zs e f a g = record {
  both = λ r m. agree_through _ _ _ _ _ _ (agree_plus _ _ _ _ _ _ _ _ (joined_words x y z e f a r m) (g.both r m))
      (same_agrees _ _ _ _ (pairs (weight_of r m x) (weight_of r m y) _ _) (pairs_sum (sum_of r m x) (sum_of r m y) (ssum (shares_read r xs) m) (ssum (shares_read r ys) m)));
  falling = λ h k. (g.under z.word (subst (λ n. AllUnder n (share_words xs)) (sym f) h.0) (subst (λ n. AllUnder n (share_words ys)) (sym (f ∙ e)) k.0), g.falling h.1 k.1);
  under = λ n h k. (subst (λ w. w < n) (sym f) h.0, g.under n h.1 k.1);
}
  where
    pairs : (a b c d : ℕ) → (a + b) + (c + d) ≡ (a + c) + (b + d)
    pairs a b c d = omega arith

    pairs_sum : (a b c d : ℤ) → (a +ℤ b) +ℤ (c +ℤ d) ≡ (a +ℤ c) +ℤ (b +ℤ d)
    pairs_sum a b c d = omega (arith, ints)

-- how far a merge has come: with any merge of what is left it makes one of all
pub record PackedMerging (xs ys : List PackedShare) (i j : ℕ) (out : List PackedShare) : Type 0 where
  pub first_in : i ≤ length xs
  pub second_in : j ≤ length ys
  pub merged : (zs : List PackedShare) → IsPackedMerge (drop i xs) (drop j ys) zs → IsPackedMerge xs ys (out ++ zs)

pub PackedMerging-first : (xs ys out : List PackedShare) (i j : ℕ) (x y : PackedShare) → i < length xs → j < length ys → x ≡ slice_index_or xs i x → y ≡ slice_index_or ys j y → y.word < x.word → PackedMerging xs ys i j out → PackedMerging xs ys (i + 1) j (out ++ x ∷ [])
PackedMerging-first xs ys out i j x y h k e f l g =
    let first = drop_at xs i x h e in
    let second = drop_at ys j y k f in
    record {
      first_in = omega arith;
      second_in = g.second_in;
      merged = λ zs m. subst (IsPackedMerge xs ys) (sym (append_assoc out (x ∷ []) zs))
          (g.merged (x ∷ zs) (subst (λ us. IsPackedMerge us (drop j ys) (x ∷ zs)) (sym first) (subst (λ us. IsPackedMerge (x ∷ drop (i + 1) xs) us (x ∷ zs)) (sym second) (merge_first x y _ _ zs l (subst (λ us. IsPackedMerge (drop (i + 1) xs) us zs) second m)))));
    }

pub PackedMerging-second : (xs ys out : List PackedShare) (i j : ℕ) (x y : PackedShare) → i < length xs → j < length ys → x ≡ slice_index_or xs i x → y ≡ slice_index_or ys j y → x.word < y.word → PackedMerging xs ys i j out → PackedMerging xs ys i (j + 1) (out ++ y ∷ [])
PackedMerging-second xs ys out i j x y h k e f l g =
    let first = drop_at xs i x h e in
    let second = drop_at ys j y k f in
    record {
      first_in = g.first_in;
      second_in = omega arith;
      merged = λ zs m. subst (IsPackedMerge xs ys) (sym (append_assoc out (y ∷ []) zs))
          (g.merged (y ∷ zs) (subst (λ us. IsPackedMerge us (drop j ys) (y ∷ zs)) (sym first) (subst (λ us. IsPackedMerge (x ∷ drop (i + 1) xs) us (y ∷ zs)) (sym second) (merge_second x y _ _ zs l (subst (λ us. IsPackedMerge us (drop (j + 1) ys) zs) first m)))));
    }

pub PackedMerging-both : (xs ys out : List PackedShare) (i j : ℕ) (x y z : PackedShare) → i < length xs → j < length ys → x ≡ slice_index_or xs i x → y ≡ slice_index_or ys j y → x.word ≡ y.word → z.word ≡ x.word → Agree z.weight z.sum (x.weight + y.weight) (x.sum +ℤ y.sum) → PackedMerging xs ys i j out → PackedMerging xs ys (i + 1) (j + 1) (out ++ z ∷ [])
PackedMerging-both xs ys out i j x y z h k e f s w a g =
    let first = drop_at xs i x h e in
    let second = drop_at ys j y k f in
    record {
      first_in = omega arith;
      second_in = omega arith;
      merged = λ zs m. subst (IsPackedMerge xs ys) (sym (append_assoc out (z ∷ []) zs))
          (g.merged (z ∷ zs) (subst (λ us. IsPackedMerge us (drop j ys) (z ∷ zs)) (sym first) (subst (λ us. IsPackedMerge (x ∷ drop (i + 1) xs) us (z ∷ zs)) (sym second) (merge_both x y z _ _ zs s w a m))));
    }

pub PackedMerging-end : (xs ys out : List PackedShare) (i j : ℕ) → (length xs ≤ i) ⊎ (length ys ≤ j) → PackedMerging xs ys i j out → IsPackedMerge xs ys ((out ++ drop i xs) ++ drop j ys)
PackedMerging-end xs ys out i j h g =
    subst (IsPackedMerge xs ys) (sym (append_assoc out (drop i xs) (drop j ys))) (g.merged (drop i xs ++ drop j ys) (merge_rest (drop i xs) (drop j ys) (each h)))
  where
    each : (length xs ≤ i) ⊎ (length ys ≤ j) → (drop i xs ≡ []) ⊎ (drop j ys ≡ [])
    each (inl l) = inl (drop_end xs i l)
    each (inr l) = inr (drop_end ys j l)

-- one contribution before others
Stands-cons : (s : Share) (t : Term) (ss : List Share) (cs : List Term) → s.monomial ≡ t.monomial → Agree s.weight s.sum (unsigned_abs t.coeff) t.coeff → Stands ss cs → Stands (s ∷ ss) (t ∷ cs)
Stands-cons s t ss cs e a g m = agree_plus _ _ _ _ _ _ _ _ (subst (λ n. Agree (if is_eq (monomial_cmp m s.monomial) then s.weight else 0) (if is_eq (monomial_cmp m s.monomial) then s.sum else pos 0) (if is_eq (monomial_cmp m n) then unsigned_abs t.coeff else 0) (if is_eq (monomial_cmp m n) then t.coeff else pos 0)) e (either (is_eq (monomial_cmp m s.monomial)))) (g m)
  where
    either : (b : Bool) → Agree (if b then s.weight else 0) (if b then s.sum else pos 0) (if b then unsigned_abs t.coeff else 0) (if b then t.coeff else pos 0)
    either true = a
    either false = inl (refl, refl)

-- rows
pub row_none : (minus : Bool) (t : PackedTerm) → IsPackedRow minus t [] []
row_none minus t = record { sums = λ r p. none minus (term_read r t); words = refl }
  where
    none : (b : Bool) (t : Term) → Stands [] (signed_row b t [])
    none false t m = inl (refl, refl)
    none true t m = inl (refl, refl)

pub row_more : (minus : Bool) (t u : PackedTerm) (us : List PackedTerm) (s : PackedShare) (ss : List PackedShare) → s.word ≡ t.word + u.word → Agree s.weight s.sum (unsigned_abs (signed minus (t.coeff *ℤ u.coeff))) (signed minus (t.coeff *ℤ u.coeff)) → IsPackedRow minus t us ss → IsPackedRow minus t (u ∷ us) (s ∷ ss)
row_more minus t u us s ss e a g = record {
  sums = λ r p. more minus r (ap r e ∙ p.0.0) a (g.sums r (p.0.1, tt));
  words = ap (λ w. w ∷ share_words ss) e ∙ ap (λ ws. (t.word + u.word) ∷ ws) g.words;
}
  where
    more : (b : Bool) (r : Reading) → r s.word ≡ monomial_times (r t.word) (r u.word) → Agree s.weight s.sum (unsigned_abs (signed b (t.coeff *ℤ u.coeff))) (signed b (t.coeff *ℤ u.coeff)) → Stands (shares_read r ss) (signed_row b (term_read r t) (terms_read r us)) → Stands (shares_read r (s ∷ ss)) (signed_row b (term_read r t) (terms_read r (u ∷ us)))
    more false r f a st = Stands-cons (share_read r s) _ _ _ f a st
    more true r f a st = Stands-cons (share_read r s) _ _ _ f a st

-- the share of a contribution
share_from : (w : ℕ) (z : ℤ) (v : ℕ) → unsigned_abs z ≤ v → PackedShare
share_from w z v h = record { word = w; sum = z; weight = v; within = h }

same_share : (w a : ℕ) (z b : ℤ) (v c : ℕ) (h : unsigned_abs z ≤ v) (k : unsigned_abs b ≤ c) → w ≡ a → z ≡ b → v ≡ c → share_from w z v h ≡ share_from a b c k
same_share w a z b v c h k e f g =
    subst (λ n. share_from w z v h ≡ share_from n b c k) e
    (subst (λ y. (i : unsigned_abs y ≤ c) → share_from w z v h ≡ share_from w y c i) f
    (subst (λ n. (i : unsigned_abs z ≤ n) → share_from w z v h ≡ share_from w z n i) g (λ i. ap (share_from w z v) (le_prop h i))) k)

pub is_row_share : (minus : Bool) (t u : PackedTerm) (s : PackedShare) → s.word ≡ t.word + u.word → s.sum ≡ kept (signed minus (t.coeff *ℤ u.coeff)) → s.weight ≡ unsigned_abs (kept (signed minus (t.coeff *ℤ u.coeff))) → s ≡ row_share minus t u
unfolding share_from
is_row_share minus t u s e f g = same_share s.word (t.word + u.word) s.sum _ s.weight _ s.within (row_share minus t u).within e f g

-- the shares of one term, as a list
row_shares-row : (minus : Bool) (t : PackedTerm) (us : List PackedTerm) → IsPackedRow minus t us (row_shares minus t us)
row_shares-row minus t [] = row_none minus t
row_shares-row minus t (u ∷ us) = row_more minus t u us (row_share minus t u) (row_shares minus t us) refl (agree_kept (signed minus (t.coeff *ℤ u.coeff))) (row_shares-row minus t us)

-- words with one word added to each fall as they do
raised_under : (w n : ℕ) (vs : List ℕ) → AllUnder n vs → AllUnder (w + n) (raised w vs)
raised_under w n [] h = tt
raised_under w n (v ∷ vs) h = (omega (arith, h.0), raised_under w n vs h.1)

raised_falling : (w : ℕ) (vs : List ℕ) → AreFalling vs → AreFalling (raised w vs)
raised_falling w [] f = tt
raised_falling w (v ∷ vs) f = (raised_under w v vs f.0, raised_falling w vs f.1)

-- products
pub product_one : (minus : Bool) (t : PackedTerm) (us : List PackedTerm) (ss : List PackedShare) → IsPackedRow minus t us ss → IsPackedProduct minus (t ∷ []) us ss
product_one minus t us ss g = record {
  sums = λ r p. subst (Stands (shares_read r ss)) (sym (signed_products-one minus (term_read r t) (terms_read r us))) (g.sums r p);
  falling = λ f. subst AreFalling (sym g.words) (raised_falling t.word (term_words us) f);
  under = λ n a b. subst (AllUnder n) (sym g.words) (subst (λ k. AllUnder k (raised t.word (term_words us))) (whole n t.word a.0) (raised_under t.word (n - t.word) (term_words us) (all_map (λ w. w + w < n) (λ w. w < n - t.word) (term_words us) (λ w h. omega (arith, a.0)) b)));
}
  where
    whole : (n w : ℕ) → w + w < n → w + (n - w) ≡ n
    whole n w h = omega arith

pub product_shares : (minus : Bool) (t : PackedTerm) (us : List PackedTerm) → IsPackedProduct minus (t ∷ []) us (row_shares minus t us)
product_shares minus t us = product_one minus t us (row_shares minus t us) (row_shares-row minus t us)

pub alone : (ts : List PackedTerm) (t : PackedTerm) → length ts ≡ 1 → t ≡ slice_index_or ts 0 t → ts ≡ t ∷ []
alone [] t e f = absurd (omega arith)
alone (x ∷ []) t e f = ap (λ y. y ∷ []) (sym f)
alone (x ∷ y ∷ xs) t e f = absurd (omega arith)

pub terms_read-append : (r : Reading) (xs ys : List PackedTerm) → terms_read r (xs ++ ys) ≡ terms_read r xs ++ terms_read r ys
terms_read-append r [] ys = refl
terms_read-append r (x ∷ xs) ys = ap (λ zs. term_read r x ∷ zs) (terms_read-append r xs ys)

pub term_words-append : (xs ys : List PackedTerm) → term_words (xs ++ ys) ≡ term_words xs ++ term_words ys
term_words-append [] ys = refl
term_words-append (x ∷ xs) ys = ap (λ zs. x.word ∷ zs) (term_words-append xs ys)

pub term_halves : (ts : List PackedTerm) (k : ℕ) → ts ≡ take k ts ++ take (length ts - k) (drop k ts)
term_halves ts k = sym (ap (λ zs. take k ts ++ zs) (between_to_end ts k (length ts) (omega arith)) ∙ take-append-drop k ts)

pub append_products : (minus : Bool) (r : Reading) (ts us xs ys : List PackedTerm) → ts ≡ xs ++ ys → signed_products minus (terms_read r ts) (terms_read r us) ≡ signed_products minus (terms_read r xs) (terms_read r us) ++ signed_products minus (terms_read r ys) (terms_read r us)
append_products minus r ts us xs ys e = ap (λ ws. signed_products minus ws (terms_read r us)) (ap (terms_read r) e ∙ terms_read-append r xs ys) ∙ signed_products-append minus (terms_read r xs) (terms_read r ys) (terms_read r us)
