-- The merge of two falling lists of shares.
use Rattle.std.specs.Prelude.{◌≡◌, ◌<◌, ℕ, ◌+◌, Bool, true, false, if◌then◌else◌, ℤ, pos, ◌+ℤ◌, List, [], ◌∷◌, ◌++◌, length, suc, slice_index_or, refl}
use mathlib.Core.Logic.{inl, inr}
use Rattle.std.proofs.Common.{arith, sym, ◌∙◌, ap, subst}
use Rattle.std.proofs.lemmas.Int.{ints}
use Rattle.std.specs.Ordering.{is_eq, ordering_reverse}
use Rattle.std.specs.List.{AllByRecursion}
use Rattle.std.specs.declared.cmp.Ordering.TheVariants.{Less, Equal, Greater}
use Rattle.std.specs.declared.option.Option.{Option}
use Rattle.std.specs.declared.option.Option.TheVariants.{None, Some}
use Rattle.monomial.specs.Monomials.{monomial_cmp}
use Rattle.monomial.proofs.Total.{monomial_cmp-IsAntisymmetric, monomial_cmp-IsTotalOrder}
use Rattle.sparse_poly.specs.declared.entry.Share.{Share}
use Rattle.sparse_poly.specs.Standing.{ssum, sweight, Agree, StandsForBoth, AllBelow, IsDescending, IsTaken, IsNext, IsMerged, IsSorted}
use Rattle.sparse_poly.proofs.Evaluation.{zero_plus}
use Rattle.sparse_poly.proofs.Sums.{ssum-append, sweight-append}
use Rattle.sparse_poly.proofs.Standings.{agree_plus, agree_through, same_agrees}
use Rattle.sparse_poly.proofs.Descending.{all_more, below_through, descending_more}

-- the share that goes, with what is left of two lists: how many, and their sums
abbrev Counted : List Share → List Share → List Share → List Share → Share → Type 0
Counted xs ys us vs s = (length us + length vs < length xs + length ys) × ((m : List (ℕ × ℕ)) → Agree (sweight (s ∷ []) m + (sweight us m + sweight vs m)) (ssum (s ∷ []) m +ℤ (ssum us m +ℤ ssum vs m)) (sweight xs m + sweight ys m) (ssum xs m +ℤ ssum ys m))

sums_front : (us : List Share) (x : Share) (m : List (ℕ × ℕ)) → (sweight (x ∷ us) m ≡ sweight (x ∷ []) m + sweight us m) × (ssum (x ∷ us) m ≡ ssum (x ∷ []) m +ℤ ssum us m)
sums_front us x m = (plain (if is_eq (monomial_cmp m x.monomial) then x.weight else 0) (sweight us m), plain_sum (if is_eq (monomial_cmp m x.monomial) then x.sum else pos 0) (ssum us m))
  where
    plain : (a b : ℕ) → a + b ≡ (a + 0) + b
    plain a b = omega arith

    plain_sum : (a b : ℤ) → a +ℤ b ≡ (a +ℤ pos 0) +ℤ b
    plain_sum a b = omega (arith, ints)

sums_first : (xs ys us : List Share) (x : Share) → xs ≡ x ∷ us → Counted xs ys us ys x
sums_first xs ys us x e =
    let long : length xs ≡ suc (length us) = ap length e in (
      omega arith,
      λ m. let s = sums_front us x m in
          same_agrees _ _ _ _ (assoc (sweight (x ∷ []) m) (sweight us m) (sweight ys m) ∙ ap (λ n. n + sweight ys m) (sym s.0 ∙ ap (λ zs. sweight zs m) (sym e)))
          (assoc_sum (ssum (x ∷ []) m) (ssum us m) (ssum ys m) ∙ ap (λ n. n +ℤ ssum ys m) (sym s.1 ∙ ap (λ zs. ssum zs m) (sym e))),
    )
  where
    assoc : (a b c : ℕ) → a + (b + c) ≡ (a + b) + c
    assoc a b c = omega arith

    assoc_sum : (a b c : ℤ) → a +ℤ (b +ℤ c) ≡ (a +ℤ b) +ℤ c
    assoc_sum a b c = omega (arith, ints)

sums_second : (xs ys vs : List Share) (y : Share) → ys ≡ y ∷ vs → Counted xs ys xs vs y
sums_second xs ys vs y e =
    let long : length ys ≡ suc (length vs) = ap length e in (
      omega arith,
      λ m. let s = sums_front vs y m in
          same_agrees _ _ _ _ (assoc (sweight (y ∷ []) m) (sweight xs m) (sweight vs m) ∙ ap (λ n. sweight xs m + n) (sym s.0 ∙ ap (λ zs. sweight zs m) (sym e)))
          (assoc_sum (ssum (y ∷ []) m) (ssum xs m) (ssum vs m) ∙ ap (λ n. ssum xs m +ℤ n) (sym s.1 ∙ ap (λ zs. ssum zs m) (sym e))),
    )
  where
    assoc : (a b c : ℕ) → a + (b + c) ≡ b + (a + c)
    assoc a b c = omega arith

    assoc_sum : (a b c : ℤ) → a +ℤ (b +ℤ c) ≡ b +ℤ (a +ℤ c)
    assoc_sum a b c = omega (arith, ints)

-- two shares of one monomial as one
joined_at : (s x y : Share) → s.monomial ≡ x.monomial → x.monomial ≡ y.monomial → Agree s.weight s.sum (x.weight + y.weight) (x.sum +ℤ y.sum) → (m : List (ℕ × ℕ)) →
    Agree (sweight (s ∷ []) m) (ssum (s ∷ []) m) (sweight (x ∷ []) m + sweight (y ∷ []) m) (ssum (x ∷ []) m +ℤ ssum (y ∷ []) m)
joined_at s x y e f a m =
    subst (λ n. Agree ((if is_eq (monomial_cmp m s.monomial) then s.weight else 0) + 0) ((if is_eq (monomial_cmp m s.monomial) then s.sum else pos 0) +ℤ pos 0)
    (((if is_eq (monomial_cmp m n) then x.weight else 0) + 0) + ((if is_eq (monomial_cmp m y.monomial) then y.weight else 0) + 0)) (((if is_eq (monomial_cmp m n) then x.sum else pos 0) +ℤ pos 0) +ℤ ((if is_eq (monomial_cmp m y.monomial) then y.sum else pos 0) +ℤ pos 0))) e
    (subst (λ n. Agree ((if is_eq (monomial_cmp m s.monomial) then s.weight else 0) + 0) ((if is_eq (monomial_cmp m s.monomial) then s.sum else pos 0) +ℤ pos 0)
    (((if is_eq (monomial_cmp m s.monomial) then x.weight else 0) + 0) + ((if is_eq (monomial_cmp m n) then y.weight else 0) + 0)) (((if is_eq (monomial_cmp m s.monomial) then x.sum else pos 0) +ℤ pos 0) +ℤ ((if is_eq (monomial_cmp m n) then y.sum else pos 0) +ℤ pos 0))) (e ∙ f)
    (either (is_eq (monomial_cmp m s.monomial))))
  where
    ends : (a b c : ℕ) → a ≡ b + c → a + 0 ≡ (b + 0) + (c + 0)
    ends a b c h = omega arith

    plain : (a b c : ℕ) (x y z : ℤ) → Agree a x (b + c) (y +ℤ z) → Agree (a + 0) (x +ℤ pos 0) ((b + 0) + (c + 0)) ((y +ℤ pos 0) +ℤ (z +ℤ pos 0))
    plain a b c x y z (inl h) = inl (ends a b c h.0, ends_sum x y z h.1)
      where
        ends_sum : (x y z : ℤ) → x ≡ y +ℤ z → x +ℤ pos 0 ≡ (y +ℤ pos 0) +ℤ (z +ℤ pos 0)
        ends_sum x y z h = omega (arith, ints)
    plain a b c x y z (inr h) = inr (omega (arith, h.0), omega (arith, h.1))

    either : (b : Bool) → Agree ((if b then s.weight else 0) + 0) ((if b then s.sum else pos 0) +ℤ pos 0) (((if b then x.weight else 0) + 0) + ((if b then y.weight else 0) + 0)) (((if b then x.sum else pos 0) +ℤ pos 0) +ℤ ((if b then y.sum else pos 0) +ℤ pos 0))
    either true = plain s.weight x.weight y.weight s.sum x.sum y.sum a
    either false = inl (omega arith, omega (arith, ints))

sums_both : (xs ys us vs : List Share) (x y s : Share) → xs ≡ x ∷ us → ys ≡ y ∷ vs → x.monomial ≡ y.monomial → s.monomial ≡ x.monomial → Agree s.weight s.sum (x.weight + y.weight) (x.sum +ℤ y.sum) → Counted xs ys us vs s
sums_both xs ys us vs x y s e f g h a =
    let long : length xs ≡ suc (length us) = ap length e in
    let also : length ys ≡ suc (length vs) = ap length f in (
      omega arith,
      λ m. let p = sums_front us x m in let q = sums_front vs y m in
          agree_through _ _ _ _ _ _ (agree_plus _ _ _ _ _ _ _ _ (joined_at s x y h g a m) (inl (refl, refl)))
          (same_agrees _ _ _ _
          (pairs (sweight (x ∷ []) m) (sweight (y ∷ []) m) (sweight us m) (sweight vs m) ∙ ap (λ n. n + (sweight (y ∷ []) m + sweight vs m)) (sym p.0 ∙ ap (λ zs. sweight zs m) (sym e)) ∙ ap (λ n. sweight xs m + n) (sym q.0 ∙ ap (λ zs. sweight zs m) (sym f)))
          (pairs_sum (ssum (x ∷ []) m) (ssum (y ∷ []) m) (ssum us m) (ssum vs m) ∙ ap (λ n. n +ℤ (ssum (y ∷ []) m +ℤ ssum vs m)) (sym p.1 ∙ ap (λ zs. ssum zs m) (sym e)) ∙ ap (λ n. ssum xs m +ℤ n) (sym q.1 ∙ ap (λ zs. ssum zs m) (sym f)))),
    )
  where
    pairs : (a b c d : ℕ) → (a + b) + (c + d) ≡ (a + c) + (b + d)
    pairs a b c d = omega arith

    pairs_sum : (a b c d : ℤ) → (a +ℤ b) +ℤ (c +ℤ d) ≡ (a +ℤ c) +ℤ (b +ℤ d)
    pairs_sum a b c d = omega (arith, ints)

-- the sums that the loop of a merge keeps
pub Sums : List Share → List Share → List Share → List Share → List Share → Type 0
Sums xs ys us vs out = (m : List (ℕ × ℕ)) → Agree (sweight out m + (sweight us m + sweight vs m)) (ssum out m +ℤ (ssum us m +ℤ ssum vs m)) (sweight xs m + sweight ys m) (ssum xs m +ℤ ssum ys m)

Sums-start : (xs ys : List Share) → Sums xs ys xs ys []
unfolding Sums
Sums-start xs ys m = inl (omega arith, zero_plus _)

Sums-more : (xs ys us vs us' vs' out : List Share) (s : Share) → Sums xs ys us vs out → IsTaken us vs us' vs' s → Sums xs ys us' vs' (out ++ s ∷ [])
unfolding Sums
Sums-more xs ys us vs us' vs' out s g h m =
    agree_through _ _ _ _ _ _
    (same_agrees _ _ _ _ (ap (λ n. n + (sweight us' m + sweight vs' m)) (sweight-append m out (s ∷ [])) ∙ assoc _ _ _) (ap (λ n. n +ℤ (ssum us' m +ℤ ssum vs' m)) (ssum-append m out (s ∷ [])) ∙ assoc_sum (ssum out m) (ssum (s ∷ []) m) (ssum us' m +ℤ ssum vs' m)))
    (agree_through _ _ _ _ _ _ (agree_plus (sweight out m) (sweight out m) _ _ (ssum out m) (ssum out m) (ssum (s ∷ []) m +ℤ (ssum us' m +ℤ ssum vs' m)) (ssum us m +ℤ ssum vs m) (inl (refl, refl)) (h.sums m)) (g m))
  where
    assoc : (a b c : ℕ) → (a + b) + c ≡ a + (b + c)
    assoc a b c = omega arith

    assoc_sum : (a b c : ℤ) → (a +ℤ b) +ℤ c ≡ a +ℤ (b +ℤ c)
    assoc_sum a b c = omega (arith, ints)

Sums-end : (xs ys us vs out : List Share) → Sums xs ys us vs out → (us ≡ []) × (vs ≡ []) → StandsForBoth out xs ys
unfolding Sums
Sums-end xs ys us vs out g (e, f) m =
    agree_through _ _ _ _ _ _
    (same_agrees _ _ _ _ (nothing (sweight out m) ∙ ap (λ n. sweight out m + n) (sym (ap (λ zs. sweight zs m + sweight vs m) e ∙ ap (λ zs. 0 + sweight zs m) f)))
    (nothing_sum (ssum out m) ∙ ap (λ n. ssum out m +ℤ n) (sym (ap (λ zs. ssum zs m +ℤ ssum vs m) e ∙ ap (λ zs. pos 0 +ℤ ssum zs m) f))))
    (g m)
  where
    nothing : (a : ℕ) → a ≡ a + (0 + 0)
    nothing a = omega arith

    nothing_sum : (a : ℤ) → a ≡ a +ℤ (pos 0 +ℤ pos 0)
    nothing_sum a = omega (arith, ints)

front_of : (xs us : List Share) (x : Share) → xs ≡ x ∷ us → IsDescending xs → IsDescending us × AllBelow x.monomial us
front_of xs us x e d = let split : IsDescending (x ∷ us) = subst IsDescending e d in (split.1, split.0)

bound_of : (k : List (ℕ × ℕ)) (xs us : List Share) (x : Share) → xs ≡ x ∷ us → AllBelow k xs → AllBelow k us × (monomial_cmp x.monomial k ≡ Less)
bound_of k xs us x e b = let split : AllBelow k (x ∷ us) = subst (AllBelow k) e b in (split.1, split.0)

pub IsNext-first : (xs ys us : List Share) (x : Share) → xs ≡ x ∷ us → (IsDescending ys → AllBelow x.monomial ys) → IsNext xs ys us ys (Some x)
IsNext-first xs ys us x e low =
    let c = sums_first xs ys us x e in
    record {
      shorter = c.0;
      sums = c.1;
      falling = λ r s. let f = front_of xs us x e r in (f.0, s, f.1, low s);
      bounded = λ k b d. let f = bound_of k xs us x e b in (f.0, d, f.1);
    }

pub IsNext-second : (xs ys vs : List Share) (y : Share) → ys ≡ y ∷ vs → (IsDescending xs → AllBelow y.monomial xs) → IsNext xs ys xs vs (Some y)
IsNext-second xs ys vs y e low =
    let c = sums_second xs ys vs y e in
    record {
      shorter = c.0;
      sums = c.1;
      falling = λ r s. let f = front_of ys vs y e s in (r, f.0, low r, f.1);
      bounded = λ k b d. let f = bound_of k ys vs y e d in (b, f.0, f.1);
    }

pub IsNext-both : (xs ys us vs : List Share) (x y s : Share) → xs ≡ x ∷ us → ys ≡ y ∷ vs → x.monomial ≡ y.monomial → s.monomial ≡ x.monomial → Agree s.weight s.sum (x.weight + y.weight) (x.sum +ℤ y.sum) → IsNext xs ys us vs (Some s)
IsNext-both xs ys us vs x y s e f g h a =
    let c = sums_both xs ys us vs x y s e f g h a in
    record {
      shorter = c.0;
      sums = c.1;
      falling = λ r t.
          let p = front_of xs us x e r in
          let q = front_of ys vs y f t in
          (p.0, q.0, subst (λ m. AllBelow m us) (sym h) p.1, subst (λ m. AllBelow m vs) (sym (h ∙ g)) q.1);
      bounded = λ k b d.
          let p = bound_of k xs us x e b in
          let q = bound_of k ys vs y f d in
          (p.0, q.0, ap (λ m. monomial_cmp m k) h ∙ p.1);
    }

-- what the loop of a merge keeps
pub record Merging (xs ys us vs out : List Share) : Type 0 where
  pub sums : Sums xs ys us vs out
  pub falling : IsDescending xs → IsDescending ys → IsDescending us × IsDescending vs × IsDescending out × AllByRecursion (λ (s : Share). AllBelow s.monomial us × AllBelow s.monomial vs) out

pub Merging-start : (xs ys : List Share) → Merging xs ys xs ys []
Merging-start xs ys = record { sums = Sums-start xs ys; falling = λ r s. (r, s, tt, tt) }

-- what is above both lists is above what is left of them, and above the share that went
pub low_all : {X : Type 0} → (f : X → List (ℕ × ℕ)) (us vs us' vs' : List Share) (xs : List X) (s : Share) → IsTaken us vs us' vs' s → AllByRecursion (λ (o : X). AllBelow (f o) us × AllBelow (f o) vs) xs → AllByRecursion (λ (o : X). AllBelow (f o) us' × AllBelow (f o) vs') xs × AllByRecursion (λ (o : X). monomial_cmp s.monomial (f o) ≡ Less) xs
low_all f us vs us' vs' [] s t h = (tt, tt)
low_all f us vs us' vs' (o ∷ xs) s t h =
    let b = t.bounded (f o) h.0.0 h.0.1 in
    let rest = low_all f us vs us' vs' xs s t h.1 in
    (((b.0, b.1), rest.0), (b.2, rest.1))

pub Merging-more : (xs ys us vs us' vs' out : List Share) (s : Share) → Merging xs ys us vs out → IsNext us vs us' vs' (Some s) → Merging xs ys us' vs' (out ++ s ∷ [])
Merging-more xs ys us vs us' vs' out s g h = record {
  sums = Sums-more xs ys us vs us' vs' out s g.sums h;
  falling = λ r t.
      let old = g.falling r t in
      let new = h.falling old.0 old.1 in
      let low = low_all (λ (o : Share). o.monomial) us vs us' vs' out s h old.3 in
      (new.0, new.1, descending_more out s old.2 low.1, all_more (λ (o : Share). AllBelow o.monomial us' × AllBelow o.monomial vs') out s low.0 (new.2, new.3));
}

pub Merging-end : (xs ys us vs out : List Share) → Merging xs ys us vs out → (us ≡ []) × (vs ≡ []) → IsMerged xs ys out
Merging-end xs ys us vs out g ended = record {
  both = Sums-end xs ys us vs out g.sums ended;
  falling = λ r t. (g.falling r t).2;
}

-- the fronts of two lists
front_is : (xs us : List Share) (x0 x : Share) → x0 ≡ slice_index_or xs 0 x0 → xs ≡ x ∷ us → x0 ≡ x
front_is xs us x0 x i e = i ∙ ap (λ zs. slice_index_or zs 0 x0) e

pub fronts_same : (xs ys us vs : List Share) (x0 y0 x y : Share) → x0 ≡ slice_index_or xs 0 x0 → y0 ≡ slice_index_or ys 0 y0 → monomial_cmp x0.monomial y0.monomial ≡ Equal → xs ≡ x ∷ us → ys ≡ y ∷ vs → x.monomial ≡ y.monomial
fronts_same xs ys us vs x0 y0 x y i j o e f =
    sym (ap (λ (u : Share). u.monomial) (front_is xs us x0 x i e)) ∙ monomial_cmp-IsAntisymmetric x0.monomial y0.monomial o ∙ ap (λ (u : Share). u.monomial) (front_is ys vs y0 y j f)

-- the front of the first list is above the second list, where it is above its front
pub front_above : (xs ys us : List Share) (x0 y0 x : Share) → x0 ≡ slice_index_or xs 0 x0 → y0 ≡ slice_index_or ys 0 y0 → monomial_cmp y0.monomial x0.monomial ≡ Less → xs ≡ x ∷ us → IsDescending ys → AllBelow x.monomial ys
front_above xs ys us x0 y0 x i j l e d = below_through ys y0 x.monomial j (ap (monomial_cmp y0.monomial) (ap (λ (u : Share). u.monomial) (sym (front_is xs us x0 x i e))) ∙ l) d

pub turned : (m n : List (ℕ × ℕ)) → monomial_cmp m n ≡ Greater → monomial_cmp n m ≡ Less
turned m n e = monomial_cmp-IsTotalOrder.antisymm n m ∙ ap ordering_reverse e

pub no_next : (xs ys us vs : List Share) (r : Option Share) → ((s : Share) → r ≡ Some s → ⊥) → IsNext xs ys us vs r → (xs ≡ []) × (ys ≡ [])
no_next xs ys us vs None n h = h
no_next xs ys us vs (Some s) n h = absurd (n s refl)

-- shares by halves
pub IsSorted-short : (xs : List Share) → length xs < 2 → IsSorted xs xs
IsSorted-short xs h = record { same = λ m. inl (refl, refl); falling = short xs h }
  where
    short : (xs : List Share) → length xs < 2 → IsDescending xs
    short [] h = tt
    short (x ∷ []) h = (tt, tt)
    short (x ∷ y ∷ xs) h = absurd (omega arith)

pub IsSorted-halves : (xs front back fs bs zs : List Share) → xs ≡ front ++ back → IsSorted front fs → IsSorted back bs → IsMerged fs bs zs → IsSorted xs zs
IsSorted-halves xs front back fs bs zs e f b m = record {
  same = λ k. agree_through _ _ _ _ _ _ (m.both k) (agree_through _ _ _ _ _ _ (agree_plus _ _ _ _ _ _ _ _ (f.same k) (b.same k))
      (same_agrees _ _ _ _ (sym (ap (λ us. sweight us k) e ∙ sweight-append k front back)) (sym (ap (λ us. ssum us k) e ∙ ssum-append k front back))));
  falling = m.falling f.falling b.falling;
}
