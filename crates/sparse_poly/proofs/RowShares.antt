-- The shares of one term: what they stand for, that they fall, and how they are made one after the other.
use Rattle.std.specs.Prelude.{◌≡◌, ◌≤◌, ℕ, ◌+◌, Bool, true, false, if◌then◌else◌, nat_lt, ℤ, ◌+ℤ◌, ◌*ℤ◌, unsigned_abs, List, [], ◌∷◌, ◌++◌, length, option_map, refl}
use Rattle.std.proofs.Common.{arith, sym, ◌∙◌, ap, subst, append_assoc, le_refl}
use Rattle.std.proofs.lemmas.Int.{ints}
use Rattle.std.proofs.lemmas.Bool.Decides.{nat_tests}
use Rattle.std.specs.List.{AllByRecursion}
use Rattle.std.specs.declared.cmp.Ordering.TheVariants.{Less}
use Rattle.std.specs.declared.option.Option.{Option}
use Rattle.std.specs.declared.option.Option.TheVariants.{None, Some}
use Rattle.monomial.specs.Monomials.{monomial_cmp, monomial_times, too_high, IsMonomial}
use Rattle.std.specs.Coded.{le_prop}
use Rattle.monomial.proofs.Lower.{monomial_cmp-times}
use Rattle.sparse_poly.specs.declared.Term.{Term}
use Rattle.sparse_poly.specs.declared.entry.Share.{Share}
use Rattle.sparse_poly.specs.declared.multiplying.Row.{Row}
use mathlib.Core.Logic.{◌⊎◌, inl, inr}
use Rattle.sparse_poly.specs.Contributions.{signed, kept, signed_row, signed_products, higher, degree_of, IsFalling}
use Rattle.sparse_poly.specs.Standing.{Agree, Stands, AllBelow, AllMonomials, IsDescending, IsTaken, IsNext, IsMerged, share_at, unless_high, product_shares, left_shares, left_degree, row_share, IsMade, ssum, sweight}
use Rattle.sparse_poly.proofs.Adding.{none_before, degree_of-append, higher-assoc, signed_products-append, signed_products-one, higher-None}
use Rattle.sparse_poly.proofs.Descending.{below_more}
use Rattle.sparse_poly.proofs.Merges.{IsNext-first, IsNext-second, IsNext-both, Merging, Merging-start, Merging-more, Merging-end}
use Rattle.sparse_poly.proofs.Standings.{agree_kept, agree_through, same_agrees, Stands-both, Stands-append, Stands-one}
use Rattle.std.proofs.lemmas.List.{append-nil}

-- the contribution of two terms
abbrev contribution : Bool → Term → Term → Term
contribution b t u = record { monomial = monomial_times t.monomial u.monomial; coeff = signed b (t.coeff *ℤ u.coeff) }

signed_row-front : (b : Bool) (t u : Term) (us : List Term) → signed_row b t (u ∷ us) ≡ contribution b t u ∷ signed_row b t us
signed_row-front false t u us = refl
signed_row-front true t u us = refl

signed_row-none : (b : Bool) (t : Term) → signed_row b t [] ≡ []
signed_row-none false t = refl
signed_row-none true t = refl

none_after : (a b : Option ℕ) → higher a b ≡ None → b ≡ None
none_after None b e = e
none_after (Some u) None e = refl
none_after (Some u) (Some v) e = absurd (cc e)

greater_same : (u v : ℕ) → (if nat_lt u v then v else u) ≡ (if nat_lt v u then u else v)
greater_same u v = grind (arith, nat_tests)

higher-comm : (a b : Option ℕ) → higher a b ≡ higher b a
higher-comm None b = sym (higher-None b)
higher-comm (Some u) None = refl
higher-comm (Some u) (Some v) = ap Some (greater_same u v)

higher_swap : (a b c : Option ℕ) → higher (higher a b) c ≡ higher (higher a c) b
higher_swap a b c = higher-assoc a b c ∙ ap (higher a) (higher-comm b c) ∙ sym (higher-assoc a c b)

-- what the shares of a term stand for
pub product_shares-stand : (b : Bool) (t : Term) (us : List Term) → degree_of (signed_row b t us) ≡ None → Stands (product_shares b t us) (signed_row b t us)
product_shares-stand b t [] n = rw (signed_row-none b t) (λ m. inl (refl, refl))
product_shares-stand b t (u ∷ us) n =
    rw (signed_row-front b t u us) (step (product_shares-stand b t us (none_after _ _ split)) (too_high (monomial_times t.monomial u.monomial)) (none_before _ _ split))
  where
    split : higher (too_high (monomial_times t.monomial u.monomial)) (degree_of (signed_row b t us)) ≡ None
    split = sym (ap degree_of (signed_row-front b t u us)) ∙ n

    step : Stands (product_shares b t us) (signed_row b t us) → (o : Option ℕ) → o ≡ None → Stands (unless_high o (share_at (monomial_times t.monomial u.monomial) (signed b (t.coeff *ℤ u.coeff))) (product_shares b t us)) (contribution b t u ∷ signed_row b t us)
    step r None e = Stands-append (share_at (monomial_times t.monomial u.monomial) (signed b (t.coeff *ℤ u.coeff)) ∷ []) (product_shares b t us) (contribution b t u ∷ []) (signed_row b t us) (Stands-one (share_at (monomial_times t.monomial u.monomial) (signed b (t.coeff *ℤ u.coeff))) (contribution b t u) refl (agree_kept (signed b (t.coeff *ℤ u.coeff)))) r
    step r (Some v) e = absurd (cc e)

-- the shares of lower terms are below the product of a greater one
shares_below : (b : Bool) (t u : Term) (us : List Term) → IsMonomial t.monomial → IsMonomial u.monomial → AllMonomials us → AllByRecursion (λ (w : Term). monomial_cmp w.monomial u.monomial ≡ Less) us → AllBelow (monomial_times t.monomial u.monomial) (product_shares b t us)
shares_below b t u [] h i j l = tt
shares_below b t u (w ∷ us) h i j l = step (shares_below b t u us h i j.1 l.1) (too_high (monomial_times t.monomial w.monomial))
  where
    step : AllBelow (monomial_times t.monomial u.monomial) (product_shares b t us) → (o : Option ℕ) → AllBelow (monomial_times t.monomial u.monomial) (unless_high o (share_at (monomial_times t.monomial w.monomial) (signed b (t.coeff *ℤ w.coeff))) (product_shares b t us))
    step r None = (monomial_cmp-times t.monomial w.monomial u.monomial h.powers j.0.powers i.powers l.0, r)
    step r (Some v) = r

pub product_shares-fall : (b : Bool) (t : Term) (us : List Term) → IsMonomial t.monomial → AllMonomials us → IsFalling us → IsDescending (product_shares b t us)
product_shares-fall b t [] h i f = tt
product_shares-fall b t (u ∷ us) h i f = step (product_shares-fall b t us h i.1 f.1) (too_high (monomial_times t.monomial u.monomial))
  where
    step : IsDescending (product_shares b t us) → (o : Option ℕ) → IsDescending (unless_high o (share_at (monomial_times t.monomial u.monomial) (signed b (t.coeff *ℤ u.coeff))) (product_shares b t us))
    step r None = (shares_below b t u us h i.0 i.1 f.0, r)
    step r (Some v) = r

front_shares : (b : Bool) (t u : Term) (vs : List Term) (o : Option ℕ) → too_high (monomial_times t.monomial u.monomial) ≡ o → product_shares b t (u ∷ vs) ≡ unless_high o (share_at (monomial_times t.monomial u.monomial) (signed b (t.coeff *ℤ u.coeff))) (product_shares b t vs)
front_shares b t u vs o e = ap (λ p. unless_high p (share_at (monomial_times t.monomial u.monomial) (signed b (t.coeff *ℤ u.coeff))) (product_shares b t vs)) e

front_degree : (b : Bool) (t u : Term) (vs : List Term) (o : Option ℕ) → too_high (monomial_times t.monomial u.monomial) ≡ o → degree_of (signed_row b t (u ∷ vs)) ≡ higher o (degree_of (signed_row b t vs))
front_degree b t u vs o e = ap degree_of (signed_row-front b t u vs) ∙ ap (λ p. higher p (degree_of (signed_row b t vs))) e

-- a row has gone past products of too high degree
pub record IsPast (old new : Row) (before now : Option ℕ) : Type 0 where
  pub shares : product_shares old.minus old.term.now old.others.now ≡ product_shares new.minus new.term.now new.others.now
  pub degree : higher now (degree_of (signed_row new.minus new.term.now new.others.now)) ≡ higher before (degree_of (signed_row old.minus old.term.now old.others.now))
  pub room : length new.others.now ≤ length old.others.now

pub IsPast-start : (row : Row) (before : Option ℕ) → IsPast row row before before
IsPast-start row before = record { shares = refl; degree = refl; room = omega arith }

pub IsPast-more : (old mid new : Row) (u : Term) (before now after : Option ℕ) (v : ℕ) → IsPast old mid before now → mid.others.now ≡ u ∷ new.others.now → new.minus ≡ mid.minus → new.term.now ≡ mid.term.now → too_high (monomial_times mid.term.now.monomial u.monomial) ≡ Some v → after ≡ higher now (Some v) → IsPast old new before after
IsPast-more old mid new u before now after v p e i j h g = rw (i, j) (record {
  shares = p.shares ∙ ap (product_shares mid.minus mid.term.now) e ∙ front_shares mid.minus mid.term.now u new.others.now (Some v) h;
  degree = ap (λ o. higher o (degree_of (signed_row mid.minus mid.term.now new.others.now))) g ∙ higher-assoc now (Some v) (degree_of (signed_row mid.minus mid.term.now new.others.now)) ∙ ap (higher now) (sym (ap (λ xs. degree_of (signed_row mid.minus mid.term.now xs)) e ∙ front_degree mid.minus mid.term.now u new.others.now (Some v) h)) ∙ p.degree;
  room = omega (arith, ap length e, p.room);
})

pub IsMade-share : (old mid new : Row) (u : Term) (before now : Option ℕ) (s : Share) → IsPast old mid before now → mid.others.now ≡ u ∷ new.others.now → new.minus ≡ mid.minus → new.term.now ≡ mid.term.now → too_high (monomial_times mid.term.now.monomial u.monomial) ≡ None → s ≡ share_at (monomial_times mid.term.now.monomial u.monomial) (signed mid.minus (mid.term.now.coeff *ℤ u.coeff)) → IsMade old new before now (Some s)
IsMade-share old mid new u before now s p e i j h g = rw (i, j) (record {
  shares = p.shares ∙ ap (product_shares mid.minus mid.term.now) e ∙ front_shares mid.minus mid.term.now u new.others.now None h ∙ ap (λ x. x ∷ product_shares mid.minus mid.term.now new.others.now) (sym g);
  degree = ap (higher now) (sym (ap (λ xs. degree_of (signed_row mid.minus mid.term.now xs)) e ∙ front_degree mid.minus mid.term.now u new.others.now None h)) ∙ p.degree;
  room = omega (arith, ap length e, p.room);
})

share_from : (m : List (ℕ × ℕ)) (z : ℤ) (v : ℕ) → unsigned_abs z ≤ v → Share
share_from m z v h = record { monomial = m; sum = z; weight = v; within = h }

same_share : (m n : List (ℕ × ℕ)) (y z : ℤ) (v w : ℕ) (h : unsigned_abs y ≤ v) (k : unsigned_abs z ≤ w) → m ≡ n → y ≡ z → v ≡ w → share_from m y v h ≡ share_from n z w k
same_share m n y z v w h k e f g =
    subst (λ l. share_from m y v h ≡ share_from l z w k) e
    (subst (λ u. (i : unsigned_abs u ≤ w) → share_from m y v h ≡ share_from m u w i) f
    (subst (λ u. (i : unsigned_abs y ≤ u) → share_from m y v h ≡ share_from m y u i) g (λ i. ap (share_from m y v) (le_prop h i))) k)

-- a share, told by its parts
pub is_share_at : (s : Share) (m : List (ℕ × ℕ)) (z : ℤ) → s.monomial ≡ m → s.sum ≡ kept z → s.weight ≡ unsigned_abs (kept z) → s ≡ share_at m z
unfolding share_from
is_share_at s m z e f g = same_share s.monomial m s.sum (kept z) s.weight (unsigned_abs (kept z)) s.within (le_refl (unsigned_abs (kept z))) e f g

IsTaken-turned : (xs ys us vs : List Share) (s : Share) → IsTaken xs ys us vs s → IsTaken ys xs vs us s
IsTaken-turned xs ys us vs s t = record {
  shorter = omega (arith, t.shorter);
  sums = λ m. agree_through _ _ _ _ _ _ (same_agrees _ _ _ _ (left (sweight (s ∷ []) m) (sweight vs m) (sweight us m)) (left_sum (ssum (s ∷ []) m) (ssum vs m) (ssum us m)))
      (agree_through _ _ _ _ _ _ (t.sums m) (same_agrees _ _ _ _ (right (sweight xs m) (sweight ys m)) (right_sum (ssum xs m) (ssum ys m))));
  falling = λ r f. let d = t.falling f r in (d.1, d.0, d.3, d.2);
  bounded = λ k b d. let c = t.bounded k d b in (c.1, c.0, c.2);
}
  where
    left : (a b c : ℕ) → a + (b + c) ≡ a + (c + b)
    left a b c = omega arith

    left_sum : (a b c : ℤ) → a +ℤ (b +ℤ c) ≡ a +ℤ (c +ℤ b)
    left_sum a b c = omega (arith, ints)

    right : (a b : ℕ) → a + b ≡ b + a
    right a b = omega arith

    right_sum : (a b : ℤ) → a +ℤ b ≡ b +ℤ a
    right_sum a b = omega (arith, ints)

-- a merge of two lists has come to what is left of them, where either may be the first
pub EitherWay : List Share → List Share → List Share → List Share → List Share → Type 0
EitherWay xs ys us vs ss = Merging xs ys us vs ss ⊎ Merging xs ys vs us ss

either_start : (xs ys : List Share) → EitherWay xs ys xs ys []
unfolding EitherWay
either_start xs ys = inl (Merging-start xs ys)

either_turned : (xs ys us vs ss : List Share) → EitherWay xs ys us vs ss → EitherWay xs ys vs us ss
unfolding EitherWay
either_turned xs ys us vs ss (inl m) = inr m
either_turned xs ys us vs ss (inr m) = inl m

either_more : (xs ys us vs us' vs' ss : List Share) (s : Share) → EitherWay xs ys us vs ss → IsNext us vs us' vs' (Some s) → EitherWay xs ys us' vs' (ss ++ s ∷ [])
unfolding EitherWay
either_more xs ys us vs us' vs' ss s (inl m) t = inl (Merging-more xs ys us vs us' vs' ss s m t)
either_more xs ys us vs us' vs' ss s (inr m) t = inr (Merging-more xs ys vs us vs' us' ss s m (IsTaken-turned us vs us' vs' s t))

either_end : (xs ys ss : List Share) → EitherWay xs ys [] [] ss → IsMerged xs ys ss
unfolding EitherWay
either_end xs ys ss (inl m) = Merging-end xs ys [] [] ss m (refl, refl)
either_end xs ys ss (inr m) = Merging-end xs ys [] [] ss m (refl, refl)

-- the shares of one term, of which some are made
pub record AreMade (all : List Share) (total : Option ℕ) (now : Option ℕ) (row : Row) (ss : List Share) : Type 0 where
  pub shares : ss ++ left_shares row ≡ all
  pub degree : higher now (left_degree row) ≡ total

pub AreMade-more : (all : List Share) (total now new : Option ℕ) (row left : Row) (ss : List Share) (s : Share) → AreMade all total now row ss → IsMade row left now new (Some s) → AreMade all total new left (ss ++ s ∷ [])
AreMade-more all total now new row left ss s a m = record {
  shares = append_assoc ss (s ∷ []) (left_shares left) ∙ ap (λ xs. ss ++ xs) (sym m.shares) ∙ a.shares;
  degree = m.degree ∙ a.degree;
}

pub AreMade-share : (all : List Share) (total now : Option ℕ) (row left : Row) (u : Term) (ss : List Share) (s : Share) → AreMade all total now row ss → row.others.now ≡ u ∷ left.others.now → left.minus ≡ row.minus → left.term.now ≡ row.term.now → too_high (monomial_times row.term.now.monomial u.monomial) ≡ None → s ≡ share_at (monomial_times row.term.now.monomial u.monomial) (signed row.minus (row.term.now.coeff *ℤ u.coeff)) → AreMade all total now left (ss ++ s ∷ [])
AreMade-share all total now row left u ss s a e i j h g = AreMade-more all total now now row left ss s a (IsMade-share row row left u now now s (IsPast-start row now) e i j h g)

pub AreMade-high : (all : List Share) (total now after : Option ℕ) (row left : Row) (u : Term) (v : ℕ) (ss : List Share) → AreMade all total now row ss → row.others.now ≡ u ∷ left.others.now → left.minus ≡ row.minus → left.term.now ≡ row.term.now → too_high (monomial_times row.term.now.monomial u.monomial) ≡ Some v → after ≡ higher now (Some v) → AreMade all total after left ss
AreMade-high all total now after row left u v ss a e i j h g =
    let p : IsPast row left now after = IsPast-more row row left u now now after v (IsPast-start row now) e i j h g in
    record { shares = ap (λ xs. ss ++ xs) (sym p.shares) ∙ a.shares; degree = p.degree ∙ a.degree }

pub row_sums : (b : Bool) (t : Term) (us : List Term) (old now : Option ℕ) (ss : List Share) → (ss ≡ product_shares b t us) × (now ≡ higher old (degree_of (signed_row b t us))) → now ≡ None → Stands ss (signed_row b t us)
row_sums b t us old now ss e n = rw e.0 (product_shares-stand b t us (none_after old (degree_of (signed_row b t us)) (sym e.1 ∙ n)))

-- the shares of two terms, of which some are merged: of the one row the next share is made
pub record ArePaired (xs ys : List Share) (total now : Option ℕ) (going waiting : Row) (held : Share) (ss : List Share) : Type 0 where
  pub merging : EitherWay xs ys (left_shares going) (held ∷ left_shares waiting) ss
  pub degree : higher (higher now (left_degree going)) (left_degree waiting) ≡ total

-- one of the rows is made
pub record IsAlone (xs ys : List Share) (total now : Option ℕ) (left : List Share) (degree : Option ℕ) (ss : List Share) : Type 0 where
  pub merging : EitherWay xs ys left [] ss
  pub noted : higher now degree ≡ total

pub ArePaired-start : (xs ys : List Share) (d e : Option ℕ) (going waiting next : Row) (old now : Option ℕ) (s : Share) → left_shares going ≡ xs → left_degree going ≡ d → left_shares waiting ≡ ys → left_degree waiting ≡ e → IsMade waiting next old now (Some s) → ArePaired xs ys (higher (higher old d) e) now going next s []
ArePaired-start xs ys d e going waiting next old now s f g h i m = record {
  merging = subst (λ zs. EitherWay zs ys (left_shares going) (s ∷ left_shares next) []) f (subst (λ zs. EitherWay (left_shares going) zs (left_shares going) (s ∷ left_shares next) []) (sym m.shares ∙ h) (either_start (left_shares going) (s ∷ left_shares next)));
  degree = higher_swap now (left_degree going) (left_degree next) ∙ ap (λ o. higher o (left_degree going)) (m.degree ∙ ap (higher old) i) ∙ higher_swap old e (left_degree going) ∙ ap (λ o. higher (higher old o) e) g;
}

pub IsAlone-start : (xs ys : List Share) (d e : Option ℕ) (going waiting next : Row) (old now : Option ℕ) → left_shares going ≡ xs → left_degree going ≡ d → left_shares waiting ≡ ys → left_degree waiting ≡ e → IsMade waiting next old now None → IsAlone xs ys (higher (higher old d) e) now (left_shares going) (left_degree going) []
IsAlone-start xs ys d e going waiting next old now f g h i m = record {
  merging = subst (λ zs. EitherWay zs ys (left_shares going) [] []) f (subst (λ zs. EitherWay (left_shares going) zs (left_shares going) [] []) (sym m.shares ∙ h) (either_start (left_shares going) []));
  noted = ap (λ o. higher o (left_degree going)) (sym (higher-None now) ∙ m.degree ∙ ap (higher old) i) ∙ higher_swap old e (left_degree going) ∙ ap (λ o. higher (higher old o) e) g;
}

module _ (xs ys : List Share) (total now new : Option ℕ) (going waiting next : Row) (held : Share) (ss : List Share) (p : ArePaired xs ys total now going waiting held ss) where
  pub ArePaired-greater : (s : Share) → IsMade going next now new (Some s) → monomial_cmp held.monomial s.monomial ≡ Less → ArePaired xs ys total new next waiting held (ss ++ s ∷ [])
  ArePaired-greater s m l = record {
    merging = either_more xs ys _ _ (left_shares next) (held ∷ left_shares waiting) ss s p.merging (IsNext-first _ _ _ s m.shares (λ d. (l, below_more held.monomial s.monomial (left_shares waiting) l d.0)));
    degree = ap (λ d. higher d (left_degree waiting)) m.degree ∙ p.degree;
  }

  pub ArePaired-less : (s : Share) → IsMade going next now new (Some s) → monomial_cmp s.monomial held.monomial ≡ Less → ArePaired xs ys total new waiting next s (ss ++ held ∷ [])
  ArePaired-less s m l = record {
    merging = either_turned xs ys _ _ _ (either_more xs ys _ _ (s ∷ left_shares next) (left_shares waiting) ss held (subst (λ zs. EitherWay xs ys zs (held ∷ left_shares waiting) ss) m.shares p.merging) (IsNext-second _ _ _ held refl (λ d. (l, below_more s.monomial held.monomial (left_shares next) l d.0))));
    degree = higher_swap new (left_degree waiting) (left_degree next) ∙ ap (λ d. higher d (left_degree waiting)) m.degree ∙ p.degree;
  }

  joined_lists : (s z : Share) → IsMade going next now new (Some s) → s.monomial ≡ held.monomial → z.monomial ≡ s.monomial → Agree z.weight z.sum (s.weight + held.weight) (s.sum +ℤ held.sum) → EitherWay xs ys (left_shares next) (left_shares waiting) (ss ++ z ∷ [])
  joined_lists s z m e f a = either_more xs ys _ _ (left_shares next) (left_shares waiting) ss z p.merging (IsNext-both _ _ _ _ s held z m.shares refl e f a)

  pub ArePaired-equal : (s z h : Share) (left : Row) (after : Option ℕ) → IsMade going next now new (Some s) → s.monomial ≡ held.monomial → z.monomial ≡ s.monomial → Agree z.weight z.sum (s.weight + held.weight) (s.sum +ℤ held.sum) → IsMade waiting left new after (Some h) → ArePaired xs ys total after next left h (ss ++ z ∷ [])
  ArePaired-equal s z h left after m e f a n = record {
    merging = subst (λ zs. EitherWay xs ys (left_shares next) zs (ss ++ z ∷ [])) n.shares (joined_lists s z m e f a);
    degree = higher_swap after (left_degree next) (left_degree left) ∙ ap (λ d. higher d (left_degree next)) n.degree ∙ higher_swap new (left_degree waiting) (left_degree next) ∙ ap (λ d. higher d (left_degree waiting)) m.degree ∙ p.degree;
  }

  pub IsAlone-equal : (s z : Share) (left : Row) (after : Option ℕ) → IsMade going next now new (Some s) → s.monomial ≡ held.monomial → z.monomial ≡ s.monomial → Agree z.weight z.sum (s.weight + held.weight) (s.sum +ℤ held.sum) → IsMade waiting left new after None → IsAlone xs ys total after (left_shares next) (left_degree next) (ss ++ z ∷ [])
  IsAlone-equal s z left after m e f a n = record {
    merging = subst (λ zs. EitherWay xs ys (left_shares next) zs (ss ++ z ∷ [])) n.shares (joined_lists s z m e f a);
    noted = ap (λ d. higher d (left_degree next)) (sym (higher-None after) ∙ n.degree) ∙ higher_swap new (left_degree waiting) (left_degree next) ∙ ap (λ d. higher d (left_degree waiting)) m.degree ∙ p.degree;
  }

  pub IsAlone-ended : IsMade going next now new None → IsAlone xs ys total new (left_shares waiting) (left_degree waiting) (ss ++ held ∷ [])
  IsAlone-ended m = record {
    merging = either_turned xs ys _ _ _ (either_more xs ys _ _ [] (left_shares waiting) ss held (subst (λ zs. EitherWay xs ys zs (held ∷ left_shares waiting) ss) m.shares p.merging) (IsNext-second _ _ _ held refl (λ d. tt)));
    noted = ap (λ d. higher d (left_degree waiting)) (sym (higher-None new) ∙ m.degree) ∙ p.degree;
  }

-- what is left of one row is added
alone_all : (xs ys left ss : List Share) → EitherWay xs ys left [] ss → IsMerged xs ys (ss ++ left)
alone_all xs ys [] ss m = rw (append-nil ss) (either_end xs ys ss m)
alone_all xs ys (s ∷ left) ss m = rw (← append_assoc ss (s ∷ []) left) (alone_all xs ys left (ss ++ s ∷ []) (either_more xs ys (s ∷ left) [] left [] ss s m (IsNext-first _ _ _ s refl (λ d. tt))))

pub none_made : (old new : Row) (before now : Option ℕ) (o : Option (List (ℕ × ℕ))) → IsMade old new before now (option_map (row_share new) o) → ((m : List (ℕ × ℕ)) → o ≡ Some m → ⊥) → IsMade old new before now None
none_made old new before now None m n = m
none_made old new before now (Some k) m n = absurd (n k refl)

pub IsAlone-end : (xs ys : List Share) (total now new : Option ℕ) (left : List Share) (degree : Option ℕ) (ss zs : List Share) → IsAlone xs ys total now left degree ss → zs ≡ ss ++ left → new ≡ higher now degree → IsMerged xs ys zs × (new ≡ total)
IsAlone-end xs ys total now new left degree ss zs a e f = (rw e (alone_all xs ys left ss a.merging), f ∙ a.noted)

two_rows : (b : Bool) (t s : Term) (us : List Term) → signed_products b (t ∷ s ∷ []) us ≡ signed_row b t us ++ signed_row b s us
two_rows b t s us = signed_products-append b (t ∷ []) (s ∷ []) us ∙ ap (λ ds. ds ++ signed_products b (s ∷ []) us) (signed_products-one b t us) ∙ ap (λ ds. signed_row b t us ++ ds) (signed_products-one b s us)

pub pair_high : (b : Bool) (t s : Term) (us : List Term) (old now : Option ℕ) → now ≡ higher (higher old (degree_of (signed_row b t us))) (degree_of (signed_row b s us)) → now ≡ higher old (degree_of (signed_products b (t ∷ s ∷ []) us))
pair_high b t s us old now e =
    e ∙ higher-assoc old (degree_of (signed_row b t us)) (degree_of (signed_row b s us)) ∙ ap (higher old) (sym (degree_of-append (signed_row b t us) (signed_row b s us)) ∙ ap degree_of (sym (two_rows b t s us)))

pub pair_sums : (b : Bool) (t s : Term) (us : List Term) (old now : Option ℕ) (ss : List Share) → IsMerged (product_shares b t us) (product_shares b s us) ss × (now ≡ higher (higher old (degree_of (signed_row b t us))) (degree_of (signed_row b s us))) → now ≡ None → Stands ss (signed_products b (t ∷ s ∷ []) us)
pair_sums b t s us old now ss e n =
    let none : higher (higher old (degree_of (signed_row b t us))) (degree_of (signed_row b s us)) ≡ None = sym e.1 ∙ n in
    rw (two_rows b t s us) (Stands-both ss _ _ (signed_row b t us) (signed_row b s us) e.0.both (product_shares-stand b t us (none_after old (degree_of (signed_row b t us)) (none_before _ _ none))) (product_shares-stand b s us (none_after _ _ none)))
