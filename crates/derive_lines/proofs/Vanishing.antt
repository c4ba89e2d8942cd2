-- The values of what lines make and recover: all items vanish where the root vanishes and the decisions hold, and what is recovered vanishes where
-- the given polynomials do and no condition does.
use Rattle.std.specs.Prelude.{◌≡◌, ◌≢◌, ℕ, zero, suc, ◌⊎◌, true, false, if◌then◌else◌, List, [], ◌∷◌, take, slice_get, Contains, refl}
use mathlib.Core.Logic.{inl, inr}
use Rattle.std.proofs.Common.{arith, sym, ◌∙◌, ap, subst}
use Rattle.std.proofs.lemmas.Option.{none-some, same_Some, slice_get_within, get_or_from_slice_get}
use Rattle.std.specs.declared.option.Option.{Option}
use Rattle.std.specs.declared.option.Option.TheVariants.{None, Some}
use Rattle.field_laws.specs.Field.{Field, IsField, IsElement, whole, AllElements}
use Rattle.field_laws.proofs.FieldSteps.{whole_is, whole_apart, times-zero, sum_of_difference, minus-zero, other_zero}
use Rattle.sparse_poly.specs.declared.Term.{Term}
use Rattle.sparse_poly.specs.Polynomials.{eval, products, IsSum}
use Rattle.sparse_poly.specs.Contributions.{contributions}
use Rattle.sparse_poly.specs.Units.{AllNonzero}
use Rattle.sparse_poly.proofs.Evaluation.{eval_is, eval-same, combined_value, product_value}
use Rattle.sparse_poly.proofs.Ordered.{constant_is}
use Rattle.sparse_poly.proofs.Units.{unit_value}
use Rattle.derive_lines.specs.declared.parts.Decision.{Decision}
use Rattle.derive_lines.specs.declared.parts.Line.{Line}
use Rattle.derive_lines.specs.declared.parts.Item.{Item}
use Rattle.derive_lines.specs.declared.parts.Item.TheVariants.{Root, Decision as of_decision, Line as of_line}
use Rattle.derive_lines.specs.declared.parts.Way.{Way}
use Rattle.derive_lines.specs.declared.parts.Way.TheVariants.{Fwd, Back}
use Rattle.derive_lines.specs.Lines.{conditions, zero_poly, made_poly, item_poly, operand, reduced, rest, multiplier_in, IsGoodLine, AreGoodLines}
use Rattle.derive_lines.specs.Recovery.{IsRecovered, is_given, is_zero, by_line}
use Rattle.derive_lines.specs.Refuting.{IsNonzeroConstant, IsContradiction, IsSo, AllVanish, AllHold}

-- an element among the first n + 1 is among the first n, or is the one at n
pub slice_get-take_more : {X : Type 0} (xs : List X) (n k : ℕ) (x : X) → slice_get (take (suc n) xs) k ≡ Some x → (slice_get (take n xs) k ≡ Some x) ⊎ (slice_get xs n ≡ Some x)
slice_get-take_more [] n k x e = absurd (none-some x e)
slice_get-take_more (y ∷ ys) zero zero x e = inr e
slice_get-take_more (y ∷ ys) zero (suc k) x e = absurd (none-some x e)
slice_get-take_more (y ∷ ys) (suc n) zero x e = inl e
slice_get-take_more (y ∷ ys) (suc n) (suc k) x e = slice_get-take_more ys n k x e

pub slice_get-take : {X : Type 0} (xs : List X) (k : ℕ) (x : X) → slice_get xs k ≡ Some x → slice_get (take (suc k) xs) k ≡ Some x
slice_get-take [] k x e = absurd (none-some x e)
slice_get-take (y ∷ ys) zero x e = e
slice_get-take (y ∷ ys) (suc k) x e = slice_get-take ys k x e

module _ {E : Type 0} (f : Field E) (l : IsField f) (s : List E) (p : AllElements f s) where
  open f use {plus, minus, times}

  -- from l*q - a*p = m*r to r, where q and p vanish and m does not, and to q, where p and r vanish and l does not
  to_rest : (b q a c m r : E) → IsElement f b → IsElement f a → IsElement f m → IsElement f r → plus (times b q) (minus (times a c)) ≡ times m r → q ≡ f.zero → c ≡ f.zero → m ≢ f.zero → r ≡ f.zero
  to_rest b q a c m r hb ha hm hr e eq ec nm =
      other_zero f l m r hm hr nm (
      sym e ∙ ap (λ x. plus (times b x) (minus (times a c))) eq ∙ ap (λ x. plus (times b f.zero) (minus (times a x))) ec
      ∙ ap (λ x. plus x (minus (times a f.zero))) (times-zero f l b hb) ∙ ap (λ x. plus f.zero (minus x)) (times-zero f l a ha)
      ∙ ap (plus f.zero) (minus-zero f l) ∙ l.plus-zero f.zero l.zero_is
      )

  to_reduced : (b q a c m r : E) → IsElement f b → IsElement f q → IsElement f a → IsElement f m → plus (times b q) (minus (times a c)) ≡ times m r → c ≡ f.zero → r ≡ f.zero → b ≢ f.zero → q ≡ f.zero
  to_reduced b q a c m r hb hq ha hm e ec er nb =
      other_zero f l b q hb hq nb (
      sym (l.plus-zero (times b q) (l.times_is b q hb hq)) ∙ ap (plus (times b q)) (sym (minus-zero f l))
      ∙ ap (λ x. plus (times b q) (minus x)) (sym (times-zero f l a ha)) ∙ ap (λ x. plus (times b q) (minus (times a x))) (sym ec)
      ∙ e ∙ ap (times m) er ∙ times-zero f l m hm
      )

  values : (b q a c m r : List Term) → IsSum (contributions b q a c) (products m r) → plus (times (eval f s b) (eval f s q)) (minus (times (eval f s a) (eval f s c))) ≡ times (eval f s m) (eval f s r)
  values b q a c m r h = sym (combined_value f l s p b q a c (contributions b q a c) (λ k. refl)) ∙ eval-same f l s p (contributions b q a c) (products m r) h ∙ product_value f l s p m r (products m r) (λ k. refl)

  -- a line states l*q = a*p + m*r as values
  pub line_values : (b q a c m r : List Term) → IsSum (contributions b q a c) (products m r) → times (eval f s b) (eval f s q) ≡ plus (times (eval f s a) (eval f s c)) (times (eval f s m) (eval f s r))
  line_values b q a c m r h =
      sum_of_difference f l (times (eval f s b) (eval f s q)) (times (eval f s a) (eval f s c)) (times (eval f s m) (eval f s r))
      (l.times_is (eval f s b) (eval f s q) (eval_is f l s p b) (eval_is f l s p q)) (l.times_is (eval f s a) (eval f s c) (eval_is f l s p a) (eval_is f l s p c)) (values b q a c m r h)

  made_vanishes : (w : Way) (b a m made from by : List Term) → eval f s from ≡ f.zero → eval f s by ≡ f.zero → eval f s (multiplier_in w b m) ≢ f.zero → IsSum (contributions b (reduced w from made) a by) (products m (rest w from made)) → eval f s made ≡ f.zero
  made_vanishes Fwd b a m made from by hf hb n e =
      to_rest (eval f s b) (eval f s from) (eval f s a) (eval f s by) (eval f s m) (eval f s made) (eval_is f l s p b) (eval_is f l s p a) (eval_is f l s p m) (eval_is f l s p made) (values b from a by m made e) hf hb n
  made_vanishes Back b a m made from by hf hb n e =
      to_reduced (eval f s b) (eval f s made) (eval f s a) (eval f s by) (eval f s m) (eval f s from) (eval_is f l s p b) (eval_is f l s p made) (eval_is f l s p a) (eval_is f l s p m) (values b made a by m from e) hb hf n

  -- a forward line whose l does not vanish leads back
  from_vanishes : (w : Way) (b a m made from by : List Term) → w ≡ Fwd → eval f s by ≡ f.zero → eval f s made ≡ f.zero → eval f s b ≢ f.zero → IsSum (contributions b (reduced w from made) a by) (products m (rest w from made)) → eval f s from ≡ f.zero
  from_vanishes Fwd b a m made from by w hb hm n e =
      to_reduced (eval f s b) (eval f s from) (eval f s a) (eval f s by) (eval f s m) (eval f s made) (eval_is f l s p b) (eval_is f l s p from) (eval_is f l s p a) (eval_is f l s p m) (values b from a by m made e) hb hm n
  from_vanishes Back b a m made from by w hb hm n e = absurd (cc w)

  -- the conditions do not vanish where the decisions hold
  pub conditions_hold : (ds : List Decision) → AllHold f s ds → AllNonzero f s (conditions ds)
  conditions_hold [] h = tt
  conditions_hold (d ∷ ds) h =
      let more : AllHold f s ds = λ k e lt. h (suc k) e (omega arith) in
      elim d.zero as (λ b. IsSo f s b d.poly → AllNonzero f s (if b then conditions ds else d.poly ∷ conditions ds)) [
        | true ↦ λ z. conditions_hold ds more
        | false ↦ λ n. (n, conditions_hold ds more)
      ] (h zero d (omega arith))

  zero_vanishes : (ds : List Decision) (j : ℕ) (q : List Term) → AllHold f s ds → zero_poly (slice_get ds j) ≡ Some q → eval f s q ≡ f.zero
  zero_vanishes [] j q h e = absurd (none-some q e)
  zero_vanishes (d ∷ ds) zero q h e =
      elim d.zero as (λ b. IsSo f s b d.poly → (if b then Some d.poly else None) ≡ Some q → eval f s q ≡ f.zero) [
        | true ↦ λ z g. ap (eval f s) (sym (same_Some d.poly q g)) ∙ z
        | false ↦ λ n g. absurd (none-some q g)
      ] (h zero d (omega arith)) e
  zero_vanishes (d ∷ ds) (suc j) q h e = zero_vanishes ds j q (λ k x lt. h (suc k) x (omega arith)) e

  pub listed_vanishes : (ps : List (List Term)) (i : ℕ) (q : List Term) → AllVanish f s ps → slice_get ps i ≡ Some q → eval f s q ≡ f.zero
  listed_vanishes ps i q h e = ap (eval f s) (sym (get_or_from_slice_get ps i q q e)) ∙ h i q (slice_get_within ps i q e)

  pub member_vanishes : (ps : List (List Term)) (q : List Term) → AllVanish f s ps → Contains ps q → eval f s q ≡ f.zero
  member_vanishes ps q h (i, lt, e) = ap (eval f s) (sym e) ∙ h i q lt

  pub member_nonzero : (ns : List (List Term)) (q : List Term) → AllNonzero f s ns → Contains ns q → eval f s q ≢ f.zero
  member_nonzero [] q h (k, lt, e) = absurd (omega arith)
  member_nonzero (n ∷ ns) q h (zero, lt, e) = subst (λ x. eval f s x ≢ f.zero) e h.0
  member_nonzero (n ∷ ns) q h (suc k, lt, e) = member_nonzero ns q h.1 (k, omega arith, e)

  constant_nonzero : (q : List Term) → IsNonzeroConstant q → eval f s q ≢ f.zero
  constant_nonzero q c e =
      whole_apart f l c.number c.nonzero (
      sym (l.times-one (whole f c.number) (whole_is f l c.number)) ∙ sym (l.plus-zero (times (whole f c.number) f.one) (l.times_is _ _ (whole_is f l c.number) l.one_is))
      ∙ ap (eval f s) (sym (constant_is c.number c.nonzero)) ∙ ap (eval f s) (sym c.is) ∙ e
      )

  module _ (root : List (List Term)) (ds : List Decision) (ls : List Line) (good : AreGoodLines root ds ls) where
    module _ (vanish : AllVanish f s root) (hold : AllHold f s ds) where
      operand_vanishes : (before : List Line) → ((k : ℕ) (line : Line) → slice_get before k ≡ Some line → eval f s line.made ≡ f.zero) → (o : Option Item) (q : List Term) → operand root ds before o ≡ Some q → eval f s q ≡ f.zero
      operand_vanishes before h None q e = ap (eval f s) (sym (same_Some [] q e))
      operand_vanishes before h (Some (Root i)) q e = listed_vanishes root i q vanish e
      operand_vanishes before h (Some (of_decision j)) q e = zero_vanishes ds j q hold e
      operand_vanishes before h (Some (of_line k)) q e = made (slice_get before k) (h k) e
        where
          made : (o : Option Line) → ((line : Line) → o ≡ Some line → eval f s line.made ≡ f.zero) → made_poly o ≡ Some q → eval f s q ≡ f.zero
          made None h e = absurd (none-some q e)
          made (Some line) h e = ap (eval f s) (sym (same_Some line.made q e)) ∙ h line refl

      line_vanishes : (before : List Line) (line : Line) → ((k : ℕ) (line : Line) → slice_get before k ≡ Some line → eval f s line.made ≡ f.zero) → IsGoodLine root ds before line → eval f s line.made ≡ f.zero
      line_vanishes before line h g =
          made_vanishes line.way line.l line.a line.m line.made g.from g.by (operand_vanishes before h line.from g.from g.refers.from_is) (operand_vanishes before h line.by g.by g.refers.by_is)
          (unit_value f l s p (conditions ds) (multiplier_in line.way line.l line.m) (conditions_hold ds hold) g.unit) g.sides.identity

      first_vanish : (n k : ℕ) (line : Line) → slice_get (take n ls) k ≡ Some line → eval f s line.made ≡ f.zero
      first_vanish zero k line e = absurd (none-some line e)
      first_vanish (suc n) k line e = either n k line (first_vanish n) (slice_get-take_more ls n k line e)
        where
          either : (n k : ℕ) (line : Line) → ((k : ℕ) (line : Line) → slice_get (take n ls) k ≡ Some line → eval f s line.made ≡ f.zero) → (slice_get (take n ls) k ≡ Some line) ⊎ (slice_get ls n ≡ Some line) → eval f s line.made ≡ f.zero
          either n k line rec (inl h) = rec k line h
          either n k line rec (inr h) = line_vanishes (take n ls) line rec (good n line h)

      -- each item vanishes
      pub item_vanishes : (item : Item) (q : List Term) → item_poly root ds ls item ≡ Some q → eval f s q ≡ f.zero
      item_vanishes item q e = operand_vanishes ls (λ k line h. first_vanish (suc k) k line (slice_get-take ls k line h)) (Some item) q e

      pub no_contradiction : (q : List Term) → eval f s q ≡ f.zero → IsContradiction (conditions ds) q → ⊥
      no_contradiction q z (inl c) = constant_nonzero q c z
      no_contradiction q z (inr m) = member_nonzero (conditions ds) q (conditions_hold ds hold) m z

    -- what is recovered vanishes
    pub recovered_vanishes : (given : List (List Term)) → AllVanish f s given → AllNonzero f s (conditions ds) → {n : ℕ} {q : List Term} → IsRecovered root ds ls given n q → eval f s q ≡ f.zero
    recovered_vanishes given h nz (is_given m) = member_vanishes given _ h m
    recovered_vanishes given h nz is_zero = refl
    recovered_vanishes given h nz (by_line {k = k} {q = q} {p = c} {r = r} le lead rc rr) =
        let g = good k lead.line lead.is in
        let from_same : g.from ≡ q = same_Some g.from q (sym g.refers.from_is ∙ lead.refers.from_is) in
        let by_same : g.by ≡ c = same_Some g.by c (sym g.refers.by_is ∙ lead.refers.by_is) in
        sym (ap (eval f s) from_same) ∙ from_vanishes lead.line.way lead.line.l lead.line.a lead.line.m lead.line.made g.from g.by lead.forward
        (ap (eval f s) by_same ∙ recovered_vanishes given h nz rc) (ap (eval f s) lead.made ∙ recovered_vanishes given h nz rr)
        (unit_value f l s p (conditions ds) lead.line.l nz lead.unit) g.sides.identity
