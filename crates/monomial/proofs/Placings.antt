-- The word of a monomial, made from the greatest variable of the layout down.
use Rattle.std.specs.Prelude.{◌≡◌, ◌≢◌, ◌<◌, ◌≤◌, ℕ, suc, ◌+◌, ◌*◌, ◌^◌, true, false, ◌==◌, List, [], ◌∷◌, length, MatchOption, refl}
use mathlib.Core.Logic.{◌⊎◌, inl, inr}
use Rattle.std.proofs.Common.{arith, sym, ◌∙◌, subst}
use Rattle.std.proofs.lemmas.Nat.{mul-le, pow_pos}
use Rattle.std.proofs.lemmas.Bool.Decides.{eqb_tells}
use Rattle.std.specs.List.{AllByRecursion, Contains}
use Rattle.std.specs.declared.option.Option.{Option}
use Rattle.std.specs.declared.option.Option.TheVariants.{None, Some}
use Rattle.monomial.specs.Monomials.{exponent, IsBelow, IsPowers, IsMonomial}
use Rattle.monomial.specs.Layouts.{AreFalling, IsLayout, IsWordIn, word_of, FitsLayout}
use Rattle.monomial.proofs.Exponents.{exponent_here, exponent_there, exponent_above}
use Rattle.monomial.proofs.Words.{Contains-head, Contains-tail, Contains-cases, Contains-none, not_below, word_of-same, word_below, place_more}

-- the power that was read, and those that are left
abbrev pub pending : Option (ℕ × ℕ) → List (ℕ × ℕ) → List (ℕ × ℕ)
pending None ps = ps
pending (Some p) ps = p ∷ ps

-- what was read is the first of those that were left
pub record IsPending (old : List (ℕ × ℕ)) (r : Option (ℕ × ℕ)) (new : List (ℕ × ℕ)) : Type 0 where
  pub whole : old ≡ pending r new
  pub none : r ≡ None → new ≡ []

pub next_pending : (old new : List (ℕ × ℕ)) (r : Option (ℕ × ℕ)) → MatchOption r ((old ≡ []) × (new ≡ [])) (λ p. old ≡ p ∷ new) → IsPending old r new
next_pending old new None h = record { whole = h.0 ∙ sym h.1; none = λ e. h.1 }
next_pending old new (Some p) h = record { whole = h; none = λ e. absurd (cc e) }

pub not_pending : (r : Option (ℕ × ℕ)) → ((p : ℕ × ℕ) → r ≡ Some p → ⊥) → r ≡ None
not_pending None n = refl
not_pending (Some p) n = absurd (n p refl)

-- w is the word of the lanes that went, us are the lanes that are left and ps the powers
pub record Placing (vs : List ℕ) (m : List (ℕ × ℕ)) (us : List ℕ) (ps : List (ℕ × ℕ)) (w : ℕ) : Type 0 where
  pub made : w * 2 ^ (16 * length us) + word_of us ps ≡ word_of vs m
  pub fits : FitsLayout us ps → FitsLayout vs m
  pub unfit : FitsLayout vs m → FitsLayout us ps
  pub powers : IsPowers ps
  pub falling : AreFalling us
  pub small : word_of vs m < 2 ^ 128

exponents_small : (m : List (ℕ × ℕ)) → AllByRecursion (λ (p : ℕ × ℕ). (p.0 < 2 ^ 32) × (p.1 ≤ 65535)) m → (v : ℕ) → exponent m v ≤ 65535
exponents_small [] h v = omega arith
exponents_small (p ∷ ps) h v = each (eqb_tells p.0 v) (exponents_small ps h.1 v)
  where
    each : ((p.0 == v ≡ true) × (p.0 ≡ v)) ⊎ ((p.0 == v ≡ false) × (p.0 ≢ v)) → exponent ps v ≤ 65535 → exponent (p ∷ ps) v ≤ 65535
    each (inl (t, e)) r = let same = exponent_here p ps v e in let most : p.1 ≤ 65535 = h.0.1 in omega arith
    each (inr (t, n)) r = let same = exponent_there p ps v n in omega arith

pub Placing-start : (vs : List ℕ) (m : List (ℕ × ℕ)) → IsLayout vs → IsMonomial m → Placing vs m vs m 0
Placing-start vs m y h = record {
  made = omega arith;
  fits = λ f. f;
  unfit = λ f. f;
  powers = h.powers;
  falling = y.falling;
  small = subst (λ n. word_of vs m < 2 ^ (16 * n)) y.eight (word_below vs m (exponents_small m h.in_range));
}

-- the lane of a variable that does not occur
one_less : (w p q r t : ℕ) → q ≡ 65536 * p → w * q + (0 * p + r) ≡ t → w * 65536 * p + r ≡ t
one_less w p q r t e f = plain ∙ f
  where
    plain : w * 65536 * p + r ≡ w * q + (0 * p + r)
    plain = rw e (omega arith)

module _ (vs : List ℕ) (m : List (ℕ × ℕ)) (u : ℕ) (us : List ℕ) (ps : List (ℕ × ℕ)) (w : ℕ) (g : Placing vs m (u ∷ us) ps w) where
  -- each word on the way is in range
  pub Placing-shifted : w * 65536 < 2 ^ 128
  Placing-shifted = under (w * 65536) (2 ^ (16 * length us)) (word_of (u ∷ us) ps) (word_of vs m) (pow_pos (16 * length us)) (apart w (2 ^ (16 * length us)) _ _ _ (place_more (length us)) g.made) g.small
    where
      apart : (w p q r t : ℕ) → q ≡ 65536 * p → w * q + r ≡ t → w * 65536 * p + r ≡ t
      apart w p q r t e f = plain ∙ f
        where
          plain : w * 65536 * p + r ≡ w * q + r
          plain = rw e (omega arith)

      under : (x p r t : ℕ) → 0 < p → x * p + r ≡ t → t < 2 ^ 128 → x < 2 ^ 128
      under x p r t h e l = let most : x * 1 ≤ x * p = mul-le x 1 x p (omega arith) h in omega arith

  pub Placing-skip : IsBelow u ps → Placing vs m us ps (w * 65536)
  Placing-skip b = record {
    made = one_less w (2 ^ (16 * length us)) _ (word_of us ps) _ (place_more (length us)) (subst (λ e. w * 2 ^ (16 * suc (length us)) + (e * 2 ^ (16 * length us) + word_of us ps) ≡ word_of vs m) (exponent_above u ps u b (omega arith)) g.made);
    fits = λ f. g.fits (wider ps f);
    unfit = λ f. narrower ps b (g.unfit f);
    powers = g.powers;
    falling = g.falling.1;
    small = g.small;
  }
    where
      wider : (qs : List (ℕ × ℕ)) → FitsLayout us qs → FitsLayout (u ∷ us) qs
      wider [] f = tt
      wider (q ∷ qs) f = ((Contains-tail u q.0 us f.0.0, f.0.1), wider qs f.1)

      lower : (q : ℕ × ℕ) → q.0 < u → (u ≡ q.0) ⊎ Contains us q.0 → Contains us q.0
      lower q l (inl e) = absurd (omega arith)
      lower q l (inr c) = c

      narrower : (qs : List (ℕ × ℕ)) → IsBelow u qs → FitsLayout (u ∷ us) qs → FitsLayout us qs
      narrower [] b f = tt
      narrower (q ∷ qs) b f = ((lower q b.0 (Contains-cases u q.0 us f.0.0), f.0.1), narrower qs b.1 f.1)

pub Placing-none : (vs : List ℕ) (m : List (ℕ × ℕ)) (u : ℕ) (us : List ℕ) (ps : List (ℕ × ℕ)) (w : ℕ) → ps ≡ [] → Placing vs m (u ∷ us) ps w → Placing vs m us ps (w * 65536)
Placing-none vs m u us ps w e g = Placing-skip vs m u us ps w g (subst (IsBelow u) (sym e) tt)

IsBelow-weaker : (a b : ℕ) (qs : List (ℕ × ℕ)) → a < b → IsBelow a qs → IsBelow b qs
IsBelow-weaker a b [] l h = tt
IsBelow-weaker a b (q ∷ qs) l h = let low : q.0 < a = h.0 in (omega arith, IsBelow-weaker a b qs l h.1)

pub Placing-lower : (vs : List ℕ) (m : List (ℕ × ℕ)) (u : ℕ) (us : List ℕ) (p : ℕ × ℕ) (ps : List (ℕ × ℕ)) (w : ℕ) → p.0 < u → Placing vs m (u ∷ us) (p ∷ ps) w → Placing vs m us (p ∷ ps) (w * 65536)
Placing-lower vs m u us p ps w l g = Placing-skip vs m u us (p ∷ ps) w g (l, IsBelow-weaker p.0 u ps l g.powers.1)

-- the lane of the next power's variable
pub Placing-same : (vs : List ℕ) (m : List (ℕ × ℕ)) (u : ℕ) (us : List ℕ) (p : ℕ × ℕ) (ps : List (ℕ × ℕ)) (w : ℕ) → p.0 ≡ u → p.1 ≤ 32767 → Placing vs m (u ∷ us) (p ∷ ps) w → Placing vs m us ps (w * 65536 + p.1)
Placing-same vs m u us p ps w e l g = record {
  made = join w p.1 (2 ^ (16 * length us)) _ (word_of us ps) (word_of us (p ∷ ps)) _ (place_more (length us)) (sym rest) (subst (λ x. w * 2 ^ (16 * suc (length us)) + (x * 2 ^ (16 * length us) + word_of us (p ∷ ps)) ≡ word_of vs m) (exponent_here p ps u e) g.made);
  fits = λ f. g.fits ((subst (λ x. Contains (u ∷ us) x) (sym e) (Contains-head u us), l), wider ps f);
  unfit = λ f. narrower ps (subst (λ x. IsBelow x ps) e g.powers.1) (g.unfit f).1;
  powers = g.powers.2;
  falling = g.falling.1;
  small = g.small;
}
  where
    rest : word_of us (p ∷ ps) ≡ word_of us ps
    rest = word_of-same us (p ∷ ps) ps (λ v c. exponent_there p ps v (apart v c))
      where
        apart : (v : ℕ) → Contains us v → p.0 ≢ v
        apart v c f = let low : v < u = not_below u v us g.falling.0 c in absurd (omega arith)

    join : (w e p q r s t : ℕ) → q ≡ 65536 * p → r ≡ s → w * q + (e * p + s) ≡ t → (w * 65536 + e) * p + r ≡ t
    join w e p q r s t a b c = plain ∙ c
      where
        plain : (w * 65536 + e) * p + r ≡ w * q + (e * p + s)
        plain = rw (a, b) (omega arith)

    wider : (qs : List (ℕ × ℕ)) → FitsLayout us qs → FitsLayout (u ∷ us) qs
    wider [] f = tt
    wider (q ∷ qs) f = ((Contains-tail u q.0 us f.0.0, f.0.1), wider qs f.1)

    lower : (q : ℕ × ℕ) → q.0 < u → (u ≡ q.0) ⊎ Contains us q.0 → Contains us q.0
    lower q k (inl f) = absurd (omega arith)
    lower q k (inr c) = c

    narrower : (qs : List (ℕ × ℕ)) → IsBelow u qs → FitsLayout (u ∷ us) qs → FitsLayout us qs
    narrower [] b f = tt
    narrower (q ∷ qs) b f = ((lower q b.0 (Contains-cases u q.0 us f.0.0), f.0.1), narrower qs b.1 f.1)

pub Placing-in_range : (vs : List ℕ) (m : List (ℕ × ℕ)) (us : List ℕ) (ps : List (ℕ × ℕ)) (w : ℕ) → Placing vs m us ps w → w < 2 ^ 128
Placing-in_range vs m us ps w g = under w (2 ^ (16 * length us)) _ _ (pow_pos (16 * length us)) g.made g.small
  where
    under : (x p r t : ℕ) → 0 < p → x * p + r ≡ t → t < 2 ^ 128 → x < 2 ^ 128
    under x p r t h e l = let most : x * 1 ≤ x * p = mul-le x 1 x p (omega arith) h in omega arith

-- no word: a variable above all lanes that are left, an exponent that is too high, or a power that is left
pub Placing-above : (vs : List ℕ) (m : List (ℕ × ℕ)) (u : ℕ) (us : List ℕ) (p : ℕ × ℕ) (ps : List (ℕ × ℕ)) (w : ℕ) → u < p.0 → Placing vs m (u ∷ us) (p ∷ ps) w → FitsLayout vs m → ⊥
Placing-above vs m u us p ps w l g f = each (Contains-cases u p.0 us (g.unfit f).0.0)
  where
    each : (u ≡ p.0) ⊎ Contains us p.0 → ⊥
    each (inl e) = absurd (omega arith)
    each (inr c) = let low : p.0 < u = not_below u p.0 us g.falling.0 c in absurd (omega arith)

pub Placing-high : (vs : List ℕ) (m : List (ℕ × ℕ)) (us : List ℕ) (p : ℕ × ℕ) (ps : List (ℕ × ℕ)) (w : ℕ) → 32767 < p.1 → Placing vs m us (p ∷ ps) w → FitsLayout vs m → ⊥
Placing-high vs m us p ps w l g f = let small : p.1 ≤ 32767 = (g.unfit f).0.1 in absurd (omega arith)

pub Placing-left : (vs : List ℕ) (m : List (ℕ × ℕ)) (p : ℕ × ℕ) (ps : List (ℕ × ℕ)) (w : ℕ) → Placing vs m [] (p ∷ ps) w → FitsLayout vs m → ⊥
Placing-left vs m p ps w g f = Contains-none p.0 (g.unfit f).0.0

pub Placing-end : (vs : List ℕ) (m : List (ℕ × ℕ)) (ps : List (ℕ × ℕ)) (w : ℕ) → IsLayout vs → ps ≡ [] → Placing vs m [] ps w → IsWordIn vs m w
Placing-end vs m ps w y e g = record { layout = y; value = plain (word_of vs m) g.made; fits = g.fits (subst (FitsLayout []) (sym e) tt) }
  where
    plain : (t : ℕ) → w * 1 + 0 ≡ t → w ≡ t
    plain t h = omega arith
