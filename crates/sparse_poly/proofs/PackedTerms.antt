-- Packed terms of a layout: what their products are read as.
use Rattle.std.specs.Prelude.{◌≡◌, ◌<◌, ◌≤◌, ℕ, ◌+◌, ◌*◌, ◌^◌, Bool, true, false, List, [], ◌∷◌, ◌++◌, length, take, drop, slice_index_or, refl}
use mathlib.Core.Logic.{◌⊎◌, inl, inr}
use Rattle.std.proofs.Common.{arith, sym, ◌∙◌, ap, subst}
use Rattle.std.proofs.lemmas.Bool.{cases_lt, cases_order}
use Rattle.std.specs.List.{AllByRecursion, Contains}
use Rattle.std.specs.Ordering.{ordering_reverse}
use Rattle.std.specs.Cmp.{tied_itself}
use Rattle.std.specs.declared.cmp.Ordering.TheVariants.{Less, Equal}
use Rattle.std.specs.declared.option.Option.TheVariants.{None}
use Rattle.monomial.specs.Monomials.{exponent, monomial_times, monomial_cmp, too_high, IsPowers, IsMonomial}
use Rattle.monomial.proofs.Exponents.{exponent-times, IsPowers-times, too_high-IsMonomial}
use Rattle.monomial.proofs.Total.{monomial_cmp-IsTotalOrder}
use Rattle.sparse_poly.specs.declared.Term.{Term}
use Rattle.sparse_poly.specs.declared.packed_entry.PackedTerm.{PackedTerm}
use Rattle.sparse_poly.specs.declared.packed_entry.PackedShare.{PackedShare}
use Rattle.sparse_poly.specs.Polynomials.{row, products, negated}
use Rattle.sparse_poly.specs.Contributions.{signed_products, contributions, higher, degree_of, IsFalling}
use Rattle.sparse_poly.specs.Standing.{Stands}
use Rattle.sparse_poly.specs.Packing.{AllFit}
use Rattle.monomial.specs.Layouts.{AreFalling, IsLayout, word_of, monomial_of, FitsLayout}
use Rattle.sparse_poly.specs.Packed.{term_read, terms_read, shares_read, term_words, share_words, AreProducts, AllPackedIn, IsPackedIn, IsPackedList, AllUnder, AllHalves, IsPackedProduct, IsPackedMerge, AreProductShares, IsSameInFewer}
use Rattle.sparse_poly.proofs.Adding.{degree_of-append}
use Rattle.sparse_poly.proofs.Descending.{all_map, all_more, all_front, all_back}
use Rattle.monomial.proofs.Words.{word_of-times, word_half, monomial_of-word, IsPowers-monomial_of, IsMonomial-monomial_of, lower_monomial, fits_small, fits_known, fitting_monomial}
use Rattle.sparse_poly.proofs.Places.{take_more, take_all}
use Rattle.sparse_poly.proofs.PackedSources.{shares_read-append, under_both}
use Rattle.sparse_poly.proofs.Packings.{terms_read-append, term_words-append, append_products, drop_at}
use Rattle.sparse_poly.proofs.Standings.{agree_through, Stands-append, Stands-both}

-- the first k terms, packed
pub record PackedSoFar (vs : List ℕ) (ts : List Term) (k : ℕ) (out : List PackedTerm) : Type 0 where
  pub terms : terms_read (monomial_of vs) out ≡ take k ts
  pub words : AllPackedIn vs out

pub PackedSoFar-more : (vs : List ℕ) (ts : List Term) (k : ℕ) (t : Term) (p : PackedTerm) (out : List PackedTerm) → IsLayout vs → k < length ts → t ≡ slice_index_or ts k t → IsMonomial t.monomial → FitsLayout vs t.monomial → p.word ≡ word_of vs t.monomial → p.coeff ≡ t.coeff → PackedSoFar vs ts k out → PackedSoFar vs ts (k + 1) (out ++ p ∷ [])
PackedSoFar-more vs ts k t p out y h e i f w c g = record {
  terms = terms_read-append (monomial_of vs) out (p ∷ []) ∙ ap (λ us. us ++ term_read (monomial_of vs) p ∷ []) g.terms ∙ ap (λ u. take k ts ++ u ∷ []) whole ∙ sym (take_more ts k t h e);
  words = all_more (λ (q : PackedTerm). IsPackedIn vs q) out p g.words (record { word = w ∙ ap (word_of vs) (sym same); fits = subst (FitsLayout vs) (sym same) f });
}
  where
    same : monomial_of vs p.word ≡ t.monomial
    same = fitting_monomial vs t.monomial p.word y i.powers f w

    whole : term_read (monomial_of vs) p ≡ t
    whole = ap (λ m. (let u : Term = record { monomial = m; coeff = p.coeff } in u)) same ∙ ap (λ z. (let u : Term = record { monomial = t.monomial; coeff = z } in u)) c

pub PackedSoFar-end : (vs : List ℕ) (ts : List Term) (k : ℕ) (out : List PackedTerm) → length ts ≤ k → PackedSoFar vs ts k out → terms_read (monomial_of vs) out ≡ ts
PackedSoFar-end vs ts k out h g = g.terms ∙ take_all ts k h

-- products of packed terms
one_product : (vs : List ℕ) (t u : PackedTerm) → IsLayout vs → IsPackedIn vs t → IsPackedIn vs u → monomial_of vs (t.word + u.word) ≡ monomial_times (monomial_of vs t.word) (monomial_of vs u.word)
one_product vs t u y a b =
    monomial_of-word vs (monomial_times m n) (t.word + u.word) y.falling (IsPowers-times m n h i) small known (pair a.word b.word ∙ sym (word_of-times vs m n h i))
  where
    m : List (ℕ × ℕ)
    m = monomial_of vs t.word

    n : List (ℕ × ℕ)
    n = monomial_of vs u.word

    h : IsPowers m
    h = IsPowers-monomial_of vs t.word y.falling

    i : IsPowers n
    i = IsPowers-monomial_of vs u.word y.falling

    small : (v : ℕ) → exponent (monomial_times m n) v ≤ 65535
    small v = omega (arith, exponent-times m n v h i, fits_small vs m v a.fits, fits_small vs n v b.fits)

    known : (v : ℕ) → 0 < exponent (monomial_times m n) v → Contains vs v
    known v l = each (cases_lt 0 (exponent m v))
      where
        each : (0 < exponent m v) ⊎ (exponent m v ≤ 0) → Contains vs v
        each (inl k) = fits_known vs m v a.fits k
        each (inr k) = fits_known vs n v b.fits (omega (arith, exponent-times m n v h i, l, k))

    pair : (x : t.word ≡ word_of vs m) → u.word ≡ word_of vs n → t.word + u.word ≡ word_of vs m + word_of vs n
    pair e f = omega arith

are_products : (vs : List ℕ) (ts us : List PackedTerm) → IsLayout vs → AllPackedIn vs ts → AllPackedIn vs us → AreProducts (monomial_of vs) ts us
are_products vs ts us y a b =
    all_map (λ (t : PackedTerm). IsPackedIn vs t) (λ (t : PackedTerm). AllByRecursion (λ (u : PackedTerm). monomial_of vs (t.word + u.word) ≡ monomial_times (monomial_of vs t.word) (monomial_of vs u.word)) us) ts
    (λ t h. all_map (λ (u : PackedTerm). IsPackedIn vs u) (λ (u : PackedTerm). monomial_of vs (t.word + u.word) ≡ monomial_times (monomial_of vs t.word) (monomial_of vs u.word)) us (λ u i. one_product vs t u y h i) b) a

-- no product is of too high degree
degree_of-negated : (cs : List Term) → degree_of (negated cs) ≡ degree_of cs
degree_of-negated [] = refl
degree_of-negated (c ∷ cs) = ap (higher (too_high c.monomial)) (degree_of-negated cs)

degree_of-row : (vs : List ℕ) (t : PackedTerm) (us : List PackedTerm) → IsLayout vs → IsPackedIn vs t → AllPackedIn vs us → degree_of (row (term_read (monomial_of vs) t) (terms_read (monomial_of vs) us)) ≡ None
degree_of-row vs t [] y a b = refl
degree_of-row vs t (u ∷ us) y a b =
    ap (λ o. higher o (degree_of (row (term_read (monomial_of vs) t) (terms_read (monomial_of vs) us)))) (too_high-IsMonomial _ (subst IsMonomial (one_product vs t u y a b.0) (IsMonomial-monomial_of vs (t.word + u.word) y)))
    ∙ degree_of-row vs t us y a b.1

degree_of-products : (vs : List ℕ) (ts us : List PackedTerm) → IsLayout vs → AllPackedIn vs ts → AllPackedIn vs us → degree_of (products (terms_read (monomial_of vs) ts) (terms_read (monomial_of vs) us)) ≡ None
degree_of-products vs [] us y a b = refl
degree_of-products vs (t ∷ ts) us y a b =
    degree_of-append (row (term_read (monomial_of vs) t) (terms_read (monomial_of vs) us)) _
    ∙ ap (λ o. higher o (degree_of (products (terms_read (monomial_of vs) ts) (terms_read (monomial_of vs) us)))) (degree_of-row vs t us y a.0 b)
    ∙ degree_of-products vs ts us y a.1 b

degree_of-signed : (b : Bool) (ts us : List Term) → degree_of (products ts us) ≡ None → degree_of (signed_products b ts us) ≡ None
degree_of-signed false ts us e = e
degree_of-signed true ts us e = degree_of-negated (products ts us) ∙ e

-- words fall where monomials do
falling_one : (vs : List ℕ) (t u : PackedTerm) → IsLayout vs → IsPackedIn vs t → IsPackedIn vs u → monomial_cmp (monomial_of vs u.word) (monomial_of vs t.word) ≡ Less → u.word < t.word
falling_one vs t u y a b l = each (cases_order u.word t.word)
  where
    below : u.word < 2 ^ (16 * length vs)
    below = let half = word_half vs (monomial_of vs u.word) (λ v. fits_small vs _ v b.fits) in let same = b.word in twice (word_of vs (monomial_of vs u.word)) half same
      where
        twice : (w : ℕ) → w + w < 2 ^ (16 * length vs) → u.word ≡ w → u.word < 2 ^ (16 * length vs)
        twice w h e = omega arith

    each : (u.word ≡ t.word) ⊎ ((u.word < t.word) ⊎ (t.word < u.word)) → u.word < t.word
    each (inl e) = absurd (never (sym l ∙ ap (λ w. monomial_cmp (monomial_of vs u.word) (monomial_of vs w)) (sym e) ∙ tied_itself monomial_cmp-IsTotalOrder (monomial_of vs u.word)))
      where
        never : Less ≡ Equal → ⊥
        never e = cc e
    each (inr (inl k)) = k
    each (inr (inr k)) = absurd (never (sym (monomial_cmp-IsTotalOrder.antisymm (monomial_of vs u.word) (monomial_of vs t.word) ∙ ap ordering_reverse (lower_monomial vs t.word u.word y.falling below k)) ∙ l))
      where
        never : ordering_reverse Less ≡ Less → ⊥
        never e = cc e

falling_words : (vs : List ℕ) (us : List PackedTerm) → IsLayout vs → AllPackedIn vs us → IsFalling (terms_read (monomial_of vs) us) → AreFalling (term_words us)
falling_words vs [] y a f = tt
falling_words vs (t ∷ us) y a f = (under us a.1 f.0, falling_words vs us y a.1 f.1)
  where
    under : (us : List PackedTerm) → AllPackedIn vs us → AllByRecursion (λ (u : Term). monomial_cmp u.monomial (monomial_of vs t.word) ≡ Less) (terms_read (monomial_of vs) us) → AllByRecursion (λ w. w < t.word) (term_words us)
    under [] b h = tt
    under (u ∷ us) b h = (falling_one vs t u y a.0 b.0 h.0, under us b.1 h.1)

halves_of : (vs : List ℕ) (ts : List PackedTerm) → AllPackedIn vs ts → AllHalves (2 ^ (16 * length vs)) (term_words ts)
halves_of vs [] a = tt
halves_of vs (t ∷ ts) a = (subst (λ w. w + w < 2 ^ (16 * length vs)) (sym a.0.word) (word_half vs (monomial_of vs t.word) (λ v. fits_small vs _ v a.0.fits)), halves_of vs ts a.1)

-- the words of a polynomial fall
pub words_fall : (vs : List ℕ) (us : List Term) (qs : List PackedTerm) → IsLayout vs → IsPackedList vs us qs → IsFalling us → AreFalling (term_words qs)
words_fall vs us qs y p h = falling_words vs qs y p.words (subst IsFalling (sym p.terms) h)

-- what stands for the contributions to a product of packed terms
shares_under : (vs : List ℕ) (minus : Bool) (ps qs : List PackedTerm) (ss : List PackedShare) → AllPackedIn vs ps → AllPackedIn vs qs → AreProductShares minus ps qs ss → AllUnder (2 ^ (16 * length vs)) (share_words ss)
shares_under vs minus ps qs ss a b g = g.under (2 ^ (16 * length vs)) (halves_of vs ps a) (halves_of vs qs b)

module _ (vs : List ℕ) (minus : Bool) (ts us : List Term) (ps qs : List PackedTerm) (y : IsLayout vs) (e : terms_read (monomial_of vs) ps ≡ ts) (f : terms_read (monomial_of vs) qs ≡ us) (a : AllPackedIn vs ps) (b : AllPackedIn vs qs) where
  shares_stand : (ss : List PackedShare) → AreProductShares minus ps qs ss → Stands (shares_read (monomial_of vs) ss) (signed_products minus ts us)
  shares_stand ss g =
      subst (λ xs. Stands (shares_read (monomial_of vs) ss) (signed_products minus xs us)) e
      (subst (λ xs. Stands (shares_read (monomial_of vs) ss) (signed_products minus (terms_read (monomial_of vs) ps) xs)) f (g.sums (monomial_of vs) (are_products vs ps qs y a b)))

  product_degree : degree_of (signed_products minus ts us) ≡ None
  product_degree = subst (λ xs. degree_of (signed_products minus xs us) ≡ None) e (subst (λ xs. degree_of (signed_products minus (terms_read (monomial_of vs) ps) xs) ≡ None) f (degree_of-signed minus _ _ (degree_of-products vs ps qs y a b)))

-- the first k terms fit a layout
pub AllFit-more : (vs : List ℕ) (ts : List Term) (k : ℕ) (t : Term) → k < length ts → t ≡ slice_index_or ts k t → FitsLayout vs t.monomial → AllFit vs (take k ts) → AllFit vs (take (k + 1) ts)
AllFit-more vs ts k t h e f a = subst (AllFit vs) (sym (take_more ts k t h e)) (all_more (λ (u : Term). FitsLayout vs u.monomial) (take k ts) t a f)

pub AllFit-end : (vs : List ℕ) (ts : List Term) (k : ℕ) → length ts ≤ k → AllFit vs (take k ts) → AllFit vs ts
AllFit-end vs ts k h a = subst (AllFit vs) (take_all ts k h) a

-- shares of a product, and of its parts
pub product_same : (minus : Bool) (ts us : List PackedTerm) (new old : List PackedShare) → IsSameInFewer new old → AreProductShares minus ts us old → AreProductShares minus ts us new
product_same minus ts us new old h g = record {
  sums = λ r p m. agree_through _ _ _ _ _ _ (h.sums r m) (g.sums r p m);
  under = λ n a b. h.under n (g.under n a b);
}

pub product_list : (minus : Bool) (ts us : List PackedTerm) (ss : List PackedShare) → IsPackedProduct minus ts us ss → AreProductShares minus ts us ss
product_list minus ts us ss g = record { sums = g.sums; under = g.under }

pub product_parts : (minus : Bool) (ts us xs ys : List PackedTerm) (fs bs : List PackedShare) → ts ≡ xs ++ ys → AreProductShares minus xs us fs → AreProductShares minus ys us bs → AreProductShares minus ts us (fs ++ bs)
product_parts minus ts us xs ys fs bs e f b = subst (λ zs. AreProductShares minus zs us (fs ++ bs)) (sym e) (record {
  sums = λ r p. subst (Stands (shares_read r (fs ++ bs))) (sym (append_products minus r (xs ++ ys) us xs ys refl))
      (subst (λ ss. Stands ss (signed_products minus (terms_read r xs) (terms_read r us) ++ signed_products minus (terms_read r ys) (terms_read r us))) (sym (shares_read-append r fs bs))
      (Stands-append _ _ _ _ (f.sums r (all_front _ xs ys p)) (b.sums r (all_back _ xs ys p))));
  under = λ n a h. let both : AllHalves n (term_words xs ++ term_words ys) = subst (AllHalves n) (term_words-append xs ys) a in
      under_both n fs bs (f.under n (all_front _ (term_words xs) (term_words ys) both) h) (b.under n (all_back _ (term_words xs) (term_words ys) both) h);
})

pub product_merged : (minus : Bool) (ts us xs ys : List PackedTerm) (fs bs zs : List PackedShare) → ts ≡ xs ++ ys → AreProductShares minus xs us fs → AreProductShares minus ys us bs → IsPackedMerge fs bs zs → AreProductShares minus ts us zs
product_merged minus ts us xs ys fs bs zs e f b m = subst (λ ws. AreProductShares minus ws us zs) (sym e) (record {
  sums = λ r p. subst (Stands (shares_read r zs)) (sym (append_products minus r (xs ++ ys) us xs ys refl)) (Stands-both _ _ _ _ _ (m.both r) (f.sums r (all_front _ xs ys p)) (b.sums r (all_back _ xs ys p)));
  under = λ n a h. let both : AllHalves n (term_words xs ++ term_words ys) = subst (AllHalves n) (term_words-append xs ys) a in
      m.under n (f.under n (all_front _ (term_words xs) (term_words ys) both) h) (b.under n (all_back _ (term_words xs) (term_words ys) both) h);
})

-- one or two terms
pub one_at : (ts : List PackedTerm) (k : ℕ) (t : PackedTerm) → k < length ts → t ≡ slice_index_or ts k t → take 1 (drop k ts) ≡ t ∷ []
one_at ts k t h e = ap (take 1) (drop_at ts k t h e)

pub one_or_two : (ts : List PackedTerm) → length ts ≤ 2 → ts ≡ take 1 (drop 0 ts) ++ take 1 (drop 1 ts)
one_or_two [] h = refl
one_or_two (x ∷ []) h = refl
one_or_two (x ∷ y ∷ []) h = refl
one_or_two (x ∷ y ∷ z ∷ ts) h = absurd (omega arith)

-- a product, and what its shares stand for
module _ (vs : List ℕ) (y : IsLayout vs) (minus : Bool) (ts us : List Term) (ps qs : List PackedTerm) (p : IsPackedList vs ts ps) (q : IsPackedList vs us qs) (ss : List PackedShare) (g : AreProductShares minus ps qs ss) where
  pub multiplied_under : AllUnder (2 ^ (16 * length vs)) (share_words ss)
  multiplied_under = shares_under vs minus ps qs ss p.words q.words g

  pub multiplied_stand : Stands (shares_read (monomial_of vs) ss) (signed_products minus ts us)
  multiplied_stand = shares_stand vs minus ts us ps qs y p.terms q.terms p.words q.words ss g

  pub multiplied_degree : degree_of (signed_products minus ts us) ≡ None
  multiplied_degree = product_degree vs minus ts us ps qs y p.terms q.terms p.words q.words

-- a combination, likewise
module _ (vs : List ℕ) (y : IsLayout vs) (l q a p : List Term) (ls qs as_ ps : List PackedTerm) (pl : IsPackedList vs l ls) (pq : IsPackedList vs q qs) (pa : IsPackedList vs a as_) (pp : IsPackedList vs p ps) (fs bs : List PackedShare) (f : AreProductShares false ls qs fs) (b : AreProductShares true as_ ps bs) where
  pub combined_under : AllUnder (2 ^ (16 * length vs)) (share_words (fs ++ bs))
  combined_under = under_both (2 ^ (16 * length vs)) fs bs (multiplied_under vs y false l q ls qs pl pq fs f) (multiplied_under vs y true a p as_ ps pa pp bs b)

  pub combined_stand : Stands (shares_read (monomial_of vs) (fs ++ bs)) (contributions l q a p)
  combined_stand = subst (λ ss. Stands ss (contributions l q a p)) (sym (shares_read-append (monomial_of vs) fs bs)) (Stands-append _ _ _ _ (multiplied_stand vs y false l q ls qs pl pq fs f) (multiplied_stand vs y true a p as_ ps pa pp bs b))

  pub combined_degree : degree_of (contributions l q a p) ≡ None
  combined_degree =
      degree_of-append (signed_products false l q) (signed_products true a p)
      ∙ ap (λ o. higher o (degree_of (signed_products true a p))) (multiplied_degree vs y false l q ls qs pl pq fs f)
      ∙ multiplied_degree vs y true a p as_ ps pa pp bs b
