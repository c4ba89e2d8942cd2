-- The polynomial of shares that come from the greatest monomial down: what the loop over them keeps.
use Rattle.std.specs.Prelude.{◌≡◌, ◌≢◌, ◌<◌, ◌≤◌, ℕ, ◌+◌, Bool, true, false, if◌then◌else◌, ℤ, pos, unsigned_abs, ◌+ℤ◌, List, [], ◌∷◌, ◌++◌, refl}
use mathlib.Core.Logic.{inl}
use Rattle.std.proofs.Common.{arith, sym, ◌∙◌, ap, FitsSigned, to_z, of_z}
use Rattle.std.proofs.lemmas.Int.{ints, to_z-of_z}
use Rattle.std.specs.Int.{w128}
use Rattle.std.specs.List.{AllByRecursion}
use Rattle.std.specs.Ordering.{is_eq, ordering_reverse}
use Rattle.std.specs.Cmp.{tied_itself}
use Rattle.std.specs.declared.cmp.Ordering.TheVariants.{Less}
use Rattle.monomial.specs.Monomials.{monomial_cmp, IsMonomial}
use Rattle.monomial.proofs.Total.{monomial_cmp-IsAntisymmetric, monomial_cmp-IsTotalOrder}
use Rattle.sparse_poly.specs.declared.Term.{Term}
use Rattle.sparse_poly.specs.declared.entry.Share.{Share}
use Rattle.sparse_poly.specs.Polynomials.{coefficient}
use Rattle.sparse_poly.specs.Contributions.{max_coeff, IsFalling}
use Rattle.sparse_poly.specs.Standing.{ssum, sweight, Agree, AllBelow, IsDescending, IsTaken, IsLightSum, IsHeaviestShare}
use Rattle.sparse_poly.proofs.Evaluation.{zero_plus, coefficient-append, tied}
use Rattle.sparse_poly.proofs.Sums.{ssum-append, sweight-append}
use Rattle.sparse_poly.proofs.Standings.{agree_plus, agree_through, same_agrees, same_if_light, heavy_if, light_if}
use Rattle.sparse_poly.proofs.Descending.{all_front, all_back, all_both, all_more, all_map, below_more}

none_more : (n : ℕ) → 0 + n ≡ n
none_more n = omega arith

-- sums over shares of other monomials
others_zero : (k : List (ℕ × ℕ)) (xs : List Share) → AllByRecursion (λ (x : Share). is_eq (monomial_cmp k x.monomial) ≡ false) xs → (ssum xs k ≡ pos 0) × (sweight xs k ≡ 0)
others_zero k [] h = (refl, refl)
others_zero k (x ∷ xs) h =
    let rest = others_zero k xs h.1 in
    (ap (λ b. (if b then x.sum else pos 0) +ℤ ssum xs k) h.0 ∙ zero_plus _ ∙ rest.0, ap (λ b. (if b then x.weight else 0) + sweight xs k) h.0 ∙ none_more (sweight xs k) ∙ rest.1)

not_tied : (m : List (ℕ × ℕ)) (x : Share) → monomial_cmp x.monomial m ≡ Less → is_eq (monomial_cmp m x.monomial) ≡ false
not_tied m x l = ap is_eq (monomial_cmp-IsTotalOrder.antisymm m x.monomial ∙ ap ordering_reverse l)

-- no share of m is among shares below m
below_zero : (m : List (ℕ × ℕ)) (xs : List Share) → AllBelow m xs → (ssum xs m ≡ pos 0) × (sweight xs m ≡ 0)
below_zero m xs h = others_zero m xs (all_map (λ (x : Share). monomial_cmp x.monomial m ≡ Less) (λ (x : Share). is_eq (monomial_cmp m x.monomial) ≡ false) xs (λ x l. not_tied m x l) h)

-- s was taken from shares, of which us are left
pub record IsTakenFrom (xs us : List Share) (s : Share) : Type 0 where
  pub sums : (m : List (ℕ × ℕ)) → Agree (sweight (s ∷ us) m) (ssum (s ∷ us) m) (sweight xs m) (ssum xs m)
  pub below : AllBelow s.monomial us
  pub bounded : (k : List (ℕ × ℕ)) → AllBelow k xs → monomial_cmp s.monomial k ≡ Less

-- the greatest share of two falling lists
pub IsTakenFrom-both : (xs ys us vs : List Share) (s : Share) → IsDescending xs → IsDescending ys → IsTaken xs ys us vs s → IsTakenFrom (xs ++ ys) (us ++ vs) s
IsTakenFrom-both xs ys us vs s d e h =
    let f = h.falling d e in
    record {
      sums = λ m. agree_through _ _ _ _ _ _
          (same_agrees _ _ _ _ (plain (if is_eq (monomial_cmp m s.monomial) then s.weight else 0) _ _ (sweight-append m us vs)) (plain_sum (if is_eq (monomial_cmp m s.monomial) then s.sum else pos 0) _ _ (ssum-append m us vs)))
          (agree_through _ _ _ _ _ _ (h.sums m) (same_agrees _ _ _ _ (sym (sweight-append m xs ys)) (sym (ssum-append m xs ys))));
      below = all_both (λ (x : Share). monomial_cmp x.monomial s.monomial ≡ Less) us vs f.2 f.3;
      bounded = λ k b. (h.bounded k (all_front _ xs ys b) (all_back _ xs ys b)).2;
    }
  where
    plain : (a b c : ℕ) → b ≡ c → a + b ≡ (a + 0) + c
    plain a b c h = omega arith

    plain_sum : (a b c : ℤ) → b ≡ c → a +ℤ b ≡ (a +ℤ pos 0) +ℤ c
    plain_sum a b c h = omega (arith, ints)

-- what is above some shares is above what is left of them, and above the share that went
low_after : {X : Type 0} → (f : X → List (ℕ × ℕ)) (xs us : List Share) (os : List X) (s : Share) → IsTakenFrom xs us s → AllByRecursion (λ (o : X). AllBelow (f o) xs) os → AllByRecursion (λ (o : X). AllBelow (f o) us) os × AllByRecursion (λ (o : X). monomial_cmp s.monomial (f o) ≡ Less) os
low_after f xs us [] s t h = (tt, tt)
low_after f xs us (o ∷ os) s t h =
    let own = t.bounded (f o) h.0 in
    let rest = low_after f xs us os s t h.1 in
    ((below_more s.monomial (f o) us own t.below, rest.0), (own, rest.1))

-- us are left of the shares xs, and out is the polynomial of those that went
pub record Squeezed (xs us : List Share) (out : List Term) : Type 0 where
  pub done : List Share
  pub agrees : (m : List (ℕ × ℕ)) → Agree (sweight done m + sweight us m) (ssum done m +ℤ ssum us m) (sweight xs m) (ssum xs m)
  pub light : IsLightSum done out
  pub above : AllByRecursion (λ (t : Term). AllBelow t.monomial us) out
  pub done_above : AllByRecursion (λ (o : Share). AllBelow o.monomial us) done

pub Squeezed-start : (xs : List Share) → Squeezed xs xs []
Squeezed-start xs = record {
  done = [];
  agrees = λ m. same_agrees _ _ _ _ (none_more _) (zero_plus _);
  light = record { light = λ m. omega arith; sums = λ m. refl; poly = record { falling = tt; monomials = tt; apart = tt; in_range = tt } };
  above = tt;
  done_above = tt;
}

pub falling_more : (out : List Term) (t : Term) → IsFalling out → AllByRecursion (λ (x : Term). monomial_cmp t.monomial x.monomial ≡ Less) out → IsFalling (out ++ t ∷ [])
falling_more [] t f a = (tt, tt)
falling_more (x ∷ xs) t f a = (all_more (λ (u : Term). monomial_cmp u.monomial x.monomial ≡ Less) xs t f.0 a.0, falling_more xs t f.1 a.1)

-- what is known once a light share went
record After (xs us done : List Share) (out : List Term) (s : Share) : Type 0 where
  agrees : (m : List (ℕ × ℕ)) → Agree (sweight (done ++ s ∷ []) m + sweight us m) (ssum (done ++ s ∷ []) m +ℤ ssum us m) (sweight xs m) (ssum xs m)
  light : (k : List (ℕ × ℕ)) → sweight (done ++ s ∷ []) k ≤ max_coeff
  sums : (k : List (ℕ × ℕ)) → ssum (done ++ s ∷ []) k ≡ coefficient out k +ℤ ((if is_eq (monomial_cmp k s.monomial) then s.sum else pos 0) +ℤ pos 0)
  above : AllByRecursion (λ (t : Term). AllBelow t.monomial us) out
  above_own : AllByRecursion (λ (t : Term). monomial_cmp s.monomial t.monomial ≡ Less) out
  done_above : AllByRecursion (λ (o : Share). AllBelow o.monomial us) (done ++ s ∷ [])

module _ (xs us us' : List Share) (out : List Term) (s : Share) (q : Squeezed xs us out) (h : IsTakenFrom us us' s) where
  agrees_more : (m : List (ℕ × ℕ)) → Agree (sweight (q.done ++ s ∷ []) m + sweight us' m) (ssum (q.done ++ s ∷ []) m +ℤ ssum us' m) (sweight xs m) (ssum xs m)
  agrees_more m =
      agree_through _ _ _ _ _ _
      (same_agrees _ _ _ _ (ap (λ n. n + sweight us' m) (sweight-append m q.done (s ∷ [])) ∙ assoc (sweight q.done m) _ _) (ap (λ n. n +ℤ ssum us' m) (ssum-append m q.done (s ∷ [])) ∙ assoc_sum (ssum q.done m) (if is_eq (monomial_cmp m s.monomial) then s.sum else pos 0) (ssum us' m)))
      (agree_through _ _ _ _ _ _ (agree_plus _ _ _ _ (ssum q.done m) (ssum q.done m) _ _ (inl (refl, refl)) (h.sums m)) (q.agrees m))
    where
      assoc : (a b c : ℕ) → (a + (b + 0)) + c ≡ a + (b + c)
      assoc a b c = omega arith

      assoc_sum : (a b c : ℤ) → (a +ℤ (b +ℤ pos 0)) +ℤ c ≡ a +ℤ (b +ℤ c)
      assoc_sum a b c = omega (arith, ints)

  -- no share of this monomial went before
  fresh : (ssum q.done s.monomial ≡ pos 0) × (sweight q.done s.monomial ≡ 0)
  fresh =
      others_zero s.monomial q.done
      (all_map (λ (o : Share). monomial_cmp s.monomial o.monomial ≡ Less) (λ (o : Share). is_eq (monomial_cmp s.monomial o.monomial) ≡ false) q.done (λ o l. ap is_eq l)
      (low_after (λ (o : Share). o.monomial) us us' q.done s h q.done_above).1)

  own_weight : (k : List (ℕ × ℕ)) (b : Bool) → is_eq (monomial_cmp k s.monomial) ≡ b → sweight (q.done ++ s ∷ []) k ≡ sweight q.done k + ((if b then s.weight else 0) + 0)
  own_weight k b g = sweight-append k q.done (s ∷ []) ∙ ap (λ c. sweight q.done k + ((if c then s.weight else 0) + 0)) g

  light_step : (k : List (ℕ × ℕ)) (b : Bool) → is_eq (monomial_cmp k s.monomial) ≡ b → s.weight ≤ max_coeff → sweight (q.done ++ s ∷ []) k ≤ max_coeff
  light_step k true g l =
      let same : k ≡ s.monomial = monomial_cmp-IsAntisymmetric k s.monomial (tied _ g) in
      let gone : sweight q.done k ≡ 0 = ap (sweight q.done) same ∙ fresh.1 in
      let whole = own_weight k true g in
      omega arith
  light_step k false g l =
      let before = q.light.light k in
      let whole = own_weight k false g in
      omega arith

  After-light : s.weight ≤ max_coeff → After xs us' q.done out s
  After-light l =
      let below = low_after (λ (t : Term). t.monomial) us us' out s h q.above in
      record {
        agrees = agrees_more;
        light = λ k. light_step k (is_eq (monomial_cmp k s.monomial)) refl l;
        sums = λ k. ssum-append k q.done (s ∷ []) ∙ ap (λ z. z +ℤ ((if is_eq (monomial_cmp k s.monomial) then s.sum else pos 0) +ℤ pos 0)) (sym (q.light.sums k));
        above = below.0;
        above_own = below.1;
        done_above = all_more (λ (o : Share). AllBelow o.monomial us') q.done s (low_after (λ (o : Share). o.monomial) us us' q.done s h q.done_above).0 h.below;
      }

  -- a light share that adds up to zero
  pub Squeezed-dropped : s.weight ≤ max_coeff → s.sum ≡ pos 0 → Squeezed xs us' out
  Squeezed-dropped l z =
      let a = After-light l in
      record {
        done = q.done ++ s ∷ [];
        agrees = a.agrees;
        light = record {
          light = a.light;
          sums = λ k. sym (a.sums k ∙ ap (λ y. coefficient out k +ℤ (y +ℤ pos 0)) (ap (λ y. if is_eq (monomial_cmp k s.monomial) then y else pos 0) z ∙ either (is_eq (monomial_cmp k s.monomial))) ∙ zero_right (coefficient out k));
          poly = q.light.poly;
        };
        above = a.above;
        done_above = a.done_above;
      }
    where
      either : (b : Bool) → (if b then pos 0 else pos 0) ≡ pos 0
      either true = refl
      either false = refl

      zero_right : (y : ℤ) → y +ℤ (pos 0 +ℤ pos 0) ≡ y
      zero_right y = omega (arith, ints)

  -- a light share that does not
  pub Squeezed-pushed : s.weight ≤ max_coeff → s.sum ≢ pos 0 → IsMonomial s.monomial → Squeezed xs us' (out ++ (let t : Term = record { monomial = s.monomial; coeff = s.sum } in t) ∷ [])
  Squeezed-pushed l z w =
      let a = After-light l in
      let t : Term = record { monomial = s.monomial; coeff = s.sum } in
      let p = q.light.poly in
      record {
        done = q.done ++ s ∷ [];
        agrees = a.agrees;
        light = record {
          light = a.light;
          sums = λ k. coefficient-append k out (t ∷ []) ∙ sym (a.sums k);
          poly = record {
            falling = falling_more out t p.falling a.above_own;
            monomials = all_more (λ (u : Term). IsMonomial u.monomial) out t p.monomials w;
            apart = all_more (λ (u : Term). u.coeff ≢ pos 0) out t p.apart z;
            in_range = all_more (λ (u : Term). unsigned_abs u.coeff ≤ max_coeff) out t p.in_range (within l s.within);
          };
        };
        above = all_more (λ (u : Term). AllBelow u.monomial us') out t a.above h.below;
        done_above = a.done_above;
      }
    where
      within : s.weight ≤ max_coeff → unsigned_abs s.sum ≤ s.weight → unsigned_abs s.sum ≤ max_coeff
      within l h = omega arith

  pub Squeezed-heavy : max_coeff < s.weight → IsHeaviestShare xs s.monomial
  Squeezed-heavy w = record {
    heavy = heavy_if _ _ _ _ (agrees_more s.monomial) (more max_coeff s.weight (sweight q.done s.monomial) (sweight (q.done ++ s ∷ []) s.monomial) (sweight us' s.monomial) w (own_weight s.monomial true (ap is_eq (tied_itself monomial_cmp-IsTotalOrder s.monomial))));
    greatest = λ k l. light_if _ _ _ _ (agrees_more k) (less max_coeff (sweight q.done k) (sweight (q.done ++ s ∷ []) k) (sweight us' k) (q.light.light k) (own_weight k false (not_tied k s l))
        (below_zero k us' (below_more s.monomial k us' l h.below)).1);
  }
    where
      more : (M w a b c : ℕ) → M < w → b ≡ a + (w + 0) → M < b + c
      more M w a b c h e = omega arith

      less : (M a b c : ℕ) → a ≤ M → b ≡ a + (0 + 0) → c ≡ 0 → b + c ≤ M
      less M a b c h e f = omega arith

pub Squeezed-end : (xs us : List Share) (out : List Term) → Squeezed xs us out → us ≡ [] → IsLightSum xs out
Squeezed-end xs us out q e = record {
  light = λ m. light_if _ _ _ _ (q.agrees m) (whole m);
  sums = λ m. q.light.sums m ∙ plain_sum (ssum q.done m) ∙ ap (λ zs. ssum q.done m +ℤ ssum zs m) (sym e) ∙ (same_if_light _ _ _ _ (q.agrees m) (whole m)).1;
  poly = q.light.poly;
}
  where
    none : (M a b : ℕ) → a ≤ M → b ≡ 0 → a + b ≤ M
    none M a b h i = omega arith

    whole : (m : List (ℕ × ℕ)) → sweight q.done m + sweight us m ≤ max_coeff
    whole m = none max_coeff (sweight q.done m) (sweight us m) (q.light.light m) (ap (λ zs. sweight zs m) e)

    plain_sum : (a : ℤ) → a ≡ a +ℤ pos 0
    plain_sum a = omega (arith, ints)

-- a coefficient by its bits
pub zero_bits : (z : ℤ) → FitsSigned w128 z → of_z w128 z ≡ 0 → z ≡ pos 0
zero_bits z h e = sym (to_z-of_z w128 z h) ∙ ap (to_z w128) e

pub apart_bits : (z : ℤ) → of_z w128 z ≢ 0 → z ≢ pos 0
apart_bits z h e = h (ap (of_z w128) e)
