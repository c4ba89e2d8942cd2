-- The order of symbols is total, and agrees with the order of their labels.
use Rattle.std.specs.Prelude.{◌≡◌, ◌≢◌, ℕ, ◌<◌, ◌⊎◌, Bool, true, false, ◌&&◌, ◌==◌, nat_lt, cond, refl}
use Rattle.std.specs.declared.cmp.Ordering.{Ordering}
use Rattle.std.specs.declared.cmp.Ordering.TheVariants.{Less, Equal, Greater}
use Rattle.std.specs.Ordering.{MatchOrdering, nat_cmp, ordering_then, ordering_reverse, is_eq}
use Rattle.std.proofs.Common.{arith, sym as back, ◌∙◌, ap, subst, inl, inr}
use Rattle.std.proofs.lemmas.Bool.Decides.{nat_tests}
use Rattle.std.proofs.lemmas.Cmp.{ranked, nat_cmp_total}
use Rattle.label_tuples.specs.Extended.{Longer, pairs, triples, fours, fives, sixes}
use Rattle.label_tuples.specs.Order.{Then, Before1, Before3, Before6}
use Rattle.symbol_index.specs.declared.Symbol.{Symbol}
use Rattle.symbol_index.specs.declared.Symbol.TheVariants.{Fsym, Ginv, Rsym, Sinv}
use Rattle.symbol_index.specs.Symbols.{fsym, ginv, rsym, sinv, is_same}
use Rattle.symbol_index.specs.Order.{cmp3, cmp6, symbol_cmp}

-- ---- orderings
then_greater : (o p : Ordering) → ordering_then o p ≡ Greater → (o ≡ Greater) ⊎ ((o ≡ Equal) × (p ≡ Greater))
then_greater Less p e = absurd (cc e)
then_greater Equal p e = inr (refl, e)
then_greater Greater p e = inl refl

then_equal : (o p : Ordering) → ordering_then o p ≡ Equal → (o ≡ Equal) × (p ≡ Equal)
then_equal Less p e = absurd (cc e)
then_equal Equal p e = (refl, e)
then_equal Greater p e = absurd (cc e)

then_assoc : (a b c : Ordering) → ordering_then a (ordering_then b c) ≡ ordering_then (ordering_then a b) c
then_assoc Less b c = refl
then_assoc Equal b c = refl
then_assoc Greater b c = refl

reverse-then : (a b : Ordering) → ordering_reverse (ordering_then a b) ≡ ordering_then (ordering_reverse a) (ordering_reverse b)
reverse-then Less b = refl
reverse-then Equal b = refl
reverse-then Greater b = refl

is_eq-then : (a b : Ordering) → is_eq (ordering_then a b) ≡ (is_eq a && is_eq b)
is_eq-then Less b = refl
is_eq-then Equal b = refl
is_eq-then Greater b = refl

pub own_reverse : (o : Ordering) → o ≡ ordering_reverse o → o ≡ Equal
own_reverse Less e = absurd (cc e)
own_reverse Equal e = refl
own_reverse Greater e = absurd (cc e)

-- ---- numbers
nat_equal : (x y : ℕ) → nat_cmp x y ≡ Equal → x ≡ y
nat_equal x y e = subst (λ o. MatchOrdering o (x < y) (x ≡ y) (y < x)) e (ranked x y (nat_cmp x y) refl)

nat_greater : (x y : ℕ) → nat_cmp x y ≡ Greater → y < x
nat_greater x y e = subst (λ o. MatchOrdering o (x < y) (x ≡ y) (y < x)) e (ranked x y (nat_cmp x y) refl)

less_differs : (x y : ℕ) → nat_lt x y ≡ true → (x == y) ≡ false
less_differs x y h = grind (arith, nat_tests)

is_eq-nat_cmp : (x y : ℕ) → is_eq (nat_cmp x y) ≡ (x == y)
is_eq-nat_cmp x y = by_tests (nat_lt x y) (x == y) (less_differs x y)
  where
    by_tests : (b c : Bool) → (b ≡ true → c ≡ false) → is_eq (cond b Less (cond c Equal Greater)) ≡ c
    by_tests true c h = back (h refl)
    by_tests false true h = refl
    by_tests false false h = refl

-- ---- tuples
record Agrees {T : Type 0} (R : T → T → Ordering) (Before : T → T → Type 0) : Type 0 where
  greater : (x y : T) → R x y ≡ Greater → Before y x
  equal : (x y : T) → R x y ≡ Equal → x ≡ y

abbrev longer_cmp : {T U : Type 0} → Longer T U → (T → T → Ordering) → U → U → Ordering
longer_cmp longer R u v = ordering_then (R (longer.front u) (longer.front v)) (nat_cmp (longer.last u) (longer.last v))

module _ {T U : Type 0} (longer : Longer T U) (R : T → T → Ordering) (Before : T → T → Type 0) (agrees : Agrees R Before) where
  open longer use {make, front, last, make_is}

  longer_agrees : Agrees (longer_cmp longer R) (Then longer Before)
  longer_agrees = record {
    greater = λ u v e.
        elim (then_greater (R (front u) (front v)) (nat_cmp (last u) (last v)) e) [
          | inl g ↦ inl (agrees.greater (front u) (front v) g)
          | inr g ↦ inr (back (agrees.equal (front u) (front v) g.0), nat_greater (last u) (last v) g.1)
        ];
    equal = λ u v e.
        let two = then_equal (R (front u) (front v)) (nat_cmp (last u) (last v)) e in
        back (make_is u) ∙ ap (λ t. make t (last u)) (agrees.equal (front u) (front v) two.0) ∙ ap (make (front v)) (nat_equal (last u) (last v) two.1) ∙ make_is v;
  }

agrees1 : Agrees nat_cmp Before1
agrees1 = record { greater = λ x y e. inr (refl, nat_greater x y e); equal = nat_equal }

abbrev left3 : ℕ × ℕ × ℕ → ℕ × ℕ × ℕ → Ordering
left3 = longer_cmp triples (longer_cmp pairs nat_cmp)

abbrev left6 : ℕ × ℕ × ℕ × ℕ × ℕ × ℕ → ℕ × ℕ × ℕ × ℕ × ℕ × ℕ → Ordering
left6 = longer_cmp sixes (longer_cmp fives (longer_cmp fours left3))

agrees3 : Agrees left3 Before3
agrees3 = longer_agrees triples _ _ (longer_agrees pairs _ _ agrees1)

agrees6 : Agrees left6 Before6
agrees6 = longer_agrees sixes _ _ (longer_agrees fives _ _ (longer_agrees fours _ _ agrees3))

cmp3_is : (t u : ℕ × ℕ × ℕ) → cmp3 t u ≡ left3 t u
cmp3_is t u = then_assoc (nat_cmp t.0 u.0) (nat_cmp t.1 u.1) (nat_cmp t.2 u.2)

assoc6 : (a b c d e f : Ordering) → ordering_then a (ordering_then b (ordering_then c (ordering_then d (ordering_then e f)))) ≡ ordering_then (ordering_then (ordering_then (ordering_then (ordering_then a b) c) d) e) f
assoc6 a b c d e f =
    then_assoc a b (ordering_then c (ordering_then d (ordering_then e f)))
    ∙ then_assoc (ordering_then a b) c (ordering_then d (ordering_then e f))
    ∙ then_assoc (ordering_then (ordering_then a b) c) d (ordering_then e f)
    ∙ then_assoc (ordering_then (ordering_then (ordering_then a b) c) d) e f

cmp6_is : (t u : ℕ × ℕ × ℕ × ℕ × ℕ × ℕ) → cmp6 t u ≡ left6 t u
cmp6_is t u = assoc6 (nat_cmp t.0 u.0) (nat_cmp t.1 u.1) (nat_cmp t.2 u.2) (nat_cmp t.3 u.3) (nat_cmp t.4 u.4) (nat_cmp t.5 u.5)

less_left : {T : Type 0} (R : T → T → Ordering) (Before : T → T → Type 0) → Agrees R Before → (x y : T) → y ≢ x → ¬ Before y x → R x y ≡ Less
less_left R Before agrees x y h k = by_case (R x y) refl
  where
    by_case : (o : Ordering) → R x y ≡ o → R x y ≡ Less
    by_case Less e = e
    by_case Equal e = absurd (h (back (agrees.equal x y e)))
    by_case Greater e = absurd (k (agrees.greater x y e))

pub less3 : (x y : ℕ × ℕ × ℕ) → y ≢ x → ¬ Before3 y x → cmp3 x y ≡ Less
less3 x y h k = cmp3_is x y ∙ less_left left3 Before3 agrees3 x y h k

pub less6 : (x y : ℕ × ℕ × ℕ × ℕ × ℕ × ℕ) → y ≢ x → ¬ Before6 y x → cmp6 x y ≡ Less
less6 x y h k = cmp6_is x y ∙ less_left left6 Before6 agrees6 x y h k

equal3 : (x y : ℕ × ℕ × ℕ) → cmp3 x y ≡ Equal → x ≡ y
equal3 x y e = agrees3.equal x y (back (cmp3_is x y) ∙ e)

equal6 : (x y : ℕ × ℕ × ℕ × ℕ × ℕ × ℕ) → cmp6 x y ≡ Equal → x ≡ y
equal6 x y e = agrees6.equal x y (back (cmp6_is x y) ∙ e)

anti_then : (a b c d : Ordering) → a ≡ ordering_reverse c → b ≡ ordering_reverse d → ordering_then a b ≡ ordering_reverse (ordering_then c d)
anti_then a b c d e f = ap (λ o. ordering_then o b) e ∙ ap (λ o. ordering_then (ordering_reverse c) o) f ∙ back (reverse-then c d)

anti3 : (t u : ℕ × ℕ × ℕ) → cmp3 t u ≡ ordering_reverse (cmp3 u t)
anti3 t u = anti_then _ _ _ _ (nat_cmp_total.antisymm t.0 u.0) (anti_then _ _ _ _ (nat_cmp_total.antisymm t.1 u.1) (nat_cmp_total.antisymm t.2 u.2))

anti6 : (t u : ℕ × ℕ × ℕ × ℕ × ℕ × ℕ) → cmp6 t u ≡ ordering_reverse (cmp6 u t)
anti6 t u =
    anti_then _ _ _ _ (nat_cmp_total.antisymm t.0 u.0) (anti_then _ _ _ _ (nat_cmp_total.antisymm t.1 u.1)
    (anti_then _ _ _ _ (nat_cmp_total.antisymm t.2 u.2) (anti_then _ _ _ _ (nat_cmp_total.antisymm t.3 u.3)
    (anti_then _ _ _ _ (nat_cmp_total.antisymm t.4 u.4) (nat_cmp_total.antisymm t.5 u.5)))))

same_left3 : (t u : ℕ × ℕ × ℕ) → is_eq (left3 t u) ≡ (t.0 == u.0 && t.1 == u.1 && t.2 == u.2)
same_left3 t u =
    is_eq-then (ordering_then (nat_cmp t.0 u.0) (nat_cmp t.1 u.1)) (nat_cmp t.2 u.2)
    ∙ ap (λ b. b && is_eq (nat_cmp t.2 u.2)) (is_eq-then (nat_cmp t.0 u.0) (nat_cmp t.1 u.1))
    ∙ ap (λ b. (b && is_eq (nat_cmp t.1 u.1)) && is_eq (nat_cmp t.2 u.2)) (is_eq-nat_cmp t.0 u.0)
    ∙ ap (λ b. (t.0 == u.0 && b) && is_eq (nat_cmp t.2 u.2)) (is_eq-nat_cmp t.1 u.1)
    ∙ ap (λ b. (t.0 == u.0 && t.1 == u.1) && b) (is_eq-nat_cmp t.2 u.2)

one_more_test : (o : Ordering) (b : Bool) (x y : ℕ) → is_eq o ≡ b → is_eq (ordering_then o (nat_cmp x y)) ≡ (b && x == y)
one_more_test o b x y e = is_eq-then o (nat_cmp x y) ∙ ap (λ c. c && is_eq (nat_cmp x y)) e ∙ ap (λ c. b && c) (is_eq-nat_cmp x y)

same3 : (t u : ℕ × ℕ × ℕ) → is_eq (cmp3 t u) ≡ (t.0 == u.0 && t.1 == u.1 && t.2 == u.2)
same3 t u = ap is_eq (cmp3_is t u) ∙ same_left3 t u

same6 : (t u : ℕ × ℕ × ℕ × ℕ × ℕ × ℕ) → is_eq (cmp6 t u) ≡ (t.0 == u.0 && t.1 == u.1 && t.2 == u.2 && t.3 == u.3 && t.4 == u.4 && t.5 == u.5)
same6 t u =
    ap is_eq (cmp6_is t u)
    ∙ one_more_test (longer_cmp fives (longer_cmp fours left3) (sixes.front t) (sixes.front u)) _ t.5 u.5
    (one_more_test (longer_cmp fours left3 (t.0, t.1, t.2, t.3) (u.0, u.1, u.2, u.3)) _ t.4 u.4
    (one_more_test (left3 (t.0, t.1, t.2) (u.0, u.1, u.2)) _ t.3 u.3 (same_left3 (t.0, t.1, t.2) (u.0, u.1, u.2))))

-- ---- symbols
pub symbol_equal : (s t : Symbol) → symbol_cmp s t ≡ Equal → s ≡ t
symbol_equal (Fsym a b c d e f) (Fsym a' b' c' d' e' f') h = ap fsym (equal6 (a, b, c, d, e, f) (a', b', c', d', e', f') h)
symbol_equal (Fsym a b c d e f) (Ginv a' b' c' d' e' f') h = absurd (cc h)
symbol_equal (Fsym a b c d e f) (Rsym a' b' c') h = absurd (cc h)
symbol_equal (Fsym a b c d e f) (Sinv a' b' c') h = absurd (cc h)
symbol_equal (Ginv a b c d e f) (Fsym a' b' c' d' e' f') h = absurd (cc h)
symbol_equal (Ginv a b c d e f) (Ginv a' b' c' d' e' f') h = ap ginv (equal6 (a, b, c, d, e, f) (a', b', c', d', e', f') h)
symbol_equal (Ginv a b c d e f) (Rsym a' b' c') h = absurd (cc h)
symbol_equal (Ginv a b c d e f) (Sinv a' b' c') h = absurd (cc h)
symbol_equal (Rsym a b c) (Fsym a' b' c' d' e' f') h = absurd (cc h)
symbol_equal (Rsym a b c) (Ginv a' b' c' d' e' f') h = absurd (cc h)
symbol_equal (Rsym a b c) (Rsym a' b' c') h = ap rsym (equal3 (a, b, c) (a', b', c') h)
symbol_equal (Rsym a b c) (Sinv a' b' c') h = absurd (cc h)
symbol_equal (Sinv a b c) (Fsym a' b' c' d' e' f') h = absurd (cc h)
symbol_equal (Sinv a b c) (Ginv a' b' c' d' e' f') h = absurd (cc h)
symbol_equal (Sinv a b c) (Rsym a' b' c') h = absurd (cc h)
symbol_equal (Sinv a b c) (Sinv a' b' c') h = ap sinv (equal3 (a, b, c) (a', b', c') h)

pub symbol_anti : (s t : Symbol) → symbol_cmp s t ≡ ordering_reverse (symbol_cmp t s)
symbol_anti (Fsym a b c d e f) (Fsym a' b' c' d' e' f') = anti6 (a, b, c, d, e, f) (a', b', c', d', e', f')
symbol_anti (Fsym a b c d e f) (Ginv a' b' c' d' e' f') = refl
symbol_anti (Fsym a b c d e f) (Rsym a' b' c') = refl
symbol_anti (Fsym a b c d e f) (Sinv a' b' c') = refl
symbol_anti (Ginv a b c d e f) (Fsym a' b' c' d' e' f') = refl
symbol_anti (Ginv a b c d e f) (Ginv a' b' c' d' e' f') = anti6 (a, b, c, d, e, f) (a', b', c', d', e', f')
symbol_anti (Ginv a b c d e f) (Rsym a' b' c') = refl
symbol_anti (Ginv a b c d e f) (Sinv a' b' c') = refl
symbol_anti (Rsym a b c) (Fsym a' b' c' d' e' f') = refl
symbol_anti (Rsym a b c) (Ginv a' b' c' d' e' f') = refl
symbol_anti (Rsym a b c) (Rsym a' b' c') = anti3 (a, b, c) (a', b', c')
symbol_anti (Rsym a b c) (Sinv a' b' c') = refl
symbol_anti (Sinv a b c) (Fsym a' b' c' d' e' f') = refl
symbol_anti (Sinv a b c) (Ginv a' b' c' d' e' f') = refl
symbol_anti (Sinv a b c) (Rsym a' b' c') = refl
symbol_anti (Sinv a b c) (Sinv a' b' c') = anti3 (a, b, c) (a', b', c')

pub symbol_itself : (s : Symbol) → symbol_cmp s s ≡ Equal
symbol_itself s = own_reverse (symbol_cmp s s) (symbol_anti s s)

pub is_same_is : (s t : Symbol) → is_eq (symbol_cmp s t) ≡ is_same s t
is_same_is (Fsym a b c d e f) (Fsym a' b' c' d' e' f') = same6 (a, b, c, d, e, f) (a', b', c', d', e', f')
is_same_is (Fsym a b c d e f) (Ginv a' b' c' d' e' f') = refl
is_same_is (Fsym a b c d e f) (Rsym a' b' c') = refl
is_same_is (Fsym a b c d e f) (Sinv a' b' c') = refl
is_same_is (Ginv a b c d e f) (Fsym a' b' c' d' e' f') = refl
is_same_is (Ginv a b c d e f) (Ginv a' b' c' d' e' f') = same6 (a, b, c, d, e, f) (a', b', c', d', e', f')
is_same_is (Ginv a b c d e f) (Rsym a' b' c') = refl
is_same_is (Ginv a b c d e f) (Sinv a' b' c') = refl
is_same_is (Rsym a b c) (Fsym a' b' c' d' e' f') = refl
is_same_is (Rsym a b c) (Ginv a' b' c' d' e' f') = refl
is_same_is (Rsym a b c) (Rsym a' b' c') = same3 (a, b, c) (a', b', c')
is_same_is (Rsym a b c) (Sinv a' b' c') = refl
is_same_is (Sinv a b c) (Fsym a' b' c' d' e' f') = refl
is_same_is (Sinv a b c) (Ginv a' b' c' d' e' f') = refl
is_same_is (Sinv a b c) (Rsym a' b' c') = refl
is_same_is (Sinv a b c) (Sinv a' b' c') = same3 (a, b, c) (a', b', c')
