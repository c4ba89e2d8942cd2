use Rattle.std.proofs.Common.{arith, rules, subst, sym, ap, ◌∙◌, ◌≡◌, ◌<◌, ◌≤◌, ◌-◌, ◌+◌, ◌*◌, ◌^◌, [], ◌∷◌, List, ℕ}
use Rattle.std.specs.declared.option.Option.TheVariants.{None}
use Rattle.monomial.specs.Layouts.{lane, lanes}
use Rattle.monomial.specs.Readings.{left_powers}
use Rattle.monomial.proofs.Lanes.{lanes_first, lanes_end}
use Rattle.monomial.proofs.Placings.{pending, Placing, next_pending, not_pending, Placing-start, Placing-shifted, Placing-none, Placing-lower, Placing-same, Placing-in_range, Placing-above, Placing-high, Placing-left, Placing-end}
use Rattle.monomial.proofs.placed_word.Goals.{then-var-variable-2-via-then-var-variable-2, then-var-variable-2-via-else-var-variable-2+then-exp-gt32767}
use Rattle.monomial.proofs.placed_word.Goals as goal

pub lanes-init : goal.lanes-init
lanes-init c =
    let y = c.word-variables.ensures.layout in
    let p = next_pending _ _ c.next-power.result c.next-power.ensures.steps in
    record {
      placing = subst (λ us. Placing c.args.layout.now c.args.monomial.now us (pending c.next-power.result (left_powers c.next-power.new.self)) 0) c.word-variables.ensures.value
          (subst (λ ps. Placing c.args.layout.now c.args.monomial.now c.args.layout.now ps 0) (sym c.powers-left.ensures ∙ p.whole) (Placing-start c.args.layout.now c.args.monomial.now y c.len-powers.ensures.monomial));
      none = p.none;
      within = omega arith;
    }

equal : (a b : ℕ) → a ≤ b → b ≤ a → a ≡ b
equal a b l k = omega arith

-- the lane that is next
opened : (vs : List ℕ) (m ps : List (ℕ × ℕ)) (n v w : ℕ) → 0 < n → Placing vs m (lanes n v) ps w → Placing vs m (lane v (n - 1) ∷ lanes (n - 1) v) ps w
opened vs m ps n v w h g = subst (λ us. Placing vs m us ps w) (lanes_first n v h) g

pub overflow_mul-word : goal.overflow_mul-word
overflow_mul-word c =
    let small = Placing-shifted _ _ _ _ _ _ (opened _ _ _ c.lanes.place c.word-variables.result c.lanes.word c.lanes-test.true c.lanes.invariant.placing) in
    search rules

pub lanes-preserved-in_default : goal.lanes-preserved-in_default
lanes-preserved-in_default c =
    let none : c.lanes.power ≡ None = not_pending c.lanes.power c.in_default.not-Some in
    let left : pending c.lanes.power (left_powers c.lanes.left) ≡ [] = ap (λ r. pending r (left_powers c.lanes.left)) none ∙ c.lanes.invariant.none none in
    record {
      placing = Placing-none _ _ _ _ _ _ left (opened _ _ _ c.lanes.place c.word-variables.result c.lanes.word c.lanes-test.true c.lanes.invariant.placing);
      none = c.lanes.invariant.none;
      within = omega (arith, c.lanes.invariant.within);
    }

pub lanes-preserved-then-var-variable : goal.lanes-preserved-then-var-variable
lanes-preserved-then-var-variable c =
    let variable : c.from-variable.result ≡ lane c.word-variables.result (c.lanes.place - 1) = c.from-variable.ensures ∙ c.lane.ensures in
    let low : c.in-Some.var < lane c.word-variables.result (c.lanes.place - 1) = subst (λ v. c.in-Some.var < v) variable c.if-var-variable.true in
    let old = subst (λ r. Placing c.args.layout.now c.args.monomial.now (lane c.word-variables.result (c.lanes.place - 1) ∷ lanes (c.lanes.place - 1) c.word-variables.result) (pending r (left_powers c.lanes.left)) c.lanes.word) c.in-Some.is (opened _ _ _ c.lanes.place c.word-variables.result c.lanes.word c.lanes-test.true c.lanes.invariant.placing) in
    record {
      placing = subst (λ r. Placing c.args.layout.now c.args.monomial.now (lanes (c.lanes.place - 1) c.word-variables.result) (pending r (left_powers c.lanes.left)) (c.lanes.word * 65536)) (sym c.in-Some.is) (Placing-lower _ _ _ _ (c.in-Some.var, c.in-Some.exp) _ _ low old);
      none = c.lanes.invariant.none;
      within = omega (arith, c.lanes.invariant.within);
    }

pub returns-then-var-variable-2 : goal.returns-then-var-variable-2
returns-then-var-variable-2 c =
    let variable : c.from-variable.result ≡ lane c.word-variables.result (c.lanes.place - 1) = c.from-variable.ensures ∙ c.lane.ensures in
    let old = subst (λ r. Placing c.args.layout.now c.args.monomial.now (lane c.word-variables.result (c.lanes.place - 1) ∷ lanes (c.lanes.place - 1) c.word-variables.result) (pending r (left_powers c.lanes.left)) c.lanes.word) c.in-Some.is (opened _ _ _ c.lanes.place c.word-variables.result c.lanes.word c.lanes-test.true c.lanes.invariant.placing) in
    elim c.then-var-variable-2.branch [
      | then-var-variable-2-via-then-var-variable-2 w ↦ Placing-above _ _ _ _ (c.in-Some.var, c.in-Some.exp) _ _ (subst (λ v. v < c.in-Some.var) variable w.if-var-variable-2.true) old
      | then-var-variable-2-via-else-var-variable-2+then-exp-gt32767 w ↦ Placing-high _ _ _ (c.in-Some.var, c.in-Some.exp) _ _ w.if-exp-gt32767.true old
    ]

pub overflow_add-word : goal.overflow_add-word
overflow_add-word c =
    let variable : c.from-variable.result ≡ lane c.word-variables.result (c.lanes.place - 1) = c.from-variable.ensures ∙ c.lane.ensures in
    let same : c.in-Some.var ≡ lane c.word-variables.result (c.lanes.place - 1) = equal _ _ c.if-var-variable-2.false c.if-var-variable.false ∙ variable in
    let old = subst (λ r. Placing c.args.layout.now c.args.monomial.now (lane c.word-variables.result (c.lanes.place - 1) ∷ lanes (c.lanes.place - 1) c.word-variables.result) (pending r (left_powers c.lanes.left)) c.lanes.word) c.in-Some.is (opened _ _ _ c.lanes.place c.word-variables.result c.lanes.word c.lanes-test.true c.lanes.invariant.placing) in
    let small = Placing-in_range _ _ _ _ _ (Placing-same _ _ _ _ (c.in-Some.var, c.in-Some.exp) _ _ same c.if-exp-gt32767.false old) in
    let sum : c.lanes.word * 65536 + c.from-word.result < 2 ^ 128 = subst (λ e. c.lanes.word * 65536 + e < 2 ^ 128) (sym c.from-word.ensures) small in
    search rules

pub lanes-preserved : goal.lanes-preserved
lanes-preserved c =
    let variable : c.from-variable.result ≡ lane c.word-variables.result (c.lanes.place - 1) = c.from-variable.ensures ∙ c.lane.ensures in
    let same : c.in-Some.var ≡ lane c.word-variables.result (c.lanes.place - 1) = equal _ _ c.if-var-variable-2.false c.if-var-variable.false ∙ variable in
    let old = subst (λ r. Placing c.args.layout.now c.args.monomial.now (lane c.word-variables.result (c.lanes.place - 1) ∷ lanes (c.lanes.place - 1) c.word-variables.result) (pending r (left_powers c.lanes.left)) c.lanes.word) c.in-Some.is (opened _ _ _ c.lanes.place c.word-variables.result c.lanes.word c.lanes-test.true c.lanes.invariant.placing) in
    let p = next_pending (left_powers c.lanes.left) _ c.next-power-in-lanes.result c.next-power-in-lanes.ensures.steps in
    record {
      placing = subst (λ ps. Placing c.args.layout.now c.args.monomial.now (lanes (c.lanes.place - 1) c.word-variables.result) ps (c.lanes.word * 65536 + c.from-word.result)) p.whole
          (subst (λ e. Placing c.args.layout.now c.args.monomial.now (lanes (c.lanes.place - 1) c.word-variables.result) (left_powers c.lanes.left) (c.lanes.word * 65536 + e)) (sym c.from-word.ensures) (Placing-same _ _ _ _ (c.in-Some.var, c.in-Some.exp) _ _ same c.if-exp-gt32767.false old));
      none = p.none;
      within = omega (arith, c.lanes.invariant.within);
    }

pub returns-in-Some-power : goal.returns-in-Some-power
returns-in-Some-power c =
    let ended : c.lanes.place ≡ 0 = omega (arith, c.lanes-test.false) in
    let old = subst (λ r. Placing c.args.layout.now c.args.monomial.now (lanes c.lanes.place c.word-variables.result) (pending r (left_powers c.lanes.left)) c.lanes.word) c.in-Some-power.is c.lanes.invariant.placing in
    Placing-left _ _ c.in-Some-power.field-0 (left_powers c.lanes.left) c.lanes.word (subst (λ us. Placing c.args.layout.now c.args.monomial.now us (c.in-Some-power.field-0 ∷ left_powers c.lanes.left) c.lanes.word) (ap (λ n. lanes n c.word-variables.result) ended ∙ lanes_end c.word-variables.result) old)

pub returns-in-None : goal.returns-in-None
returns-in-None c =
    let ended : c.lanes.place ≡ 0 = omega (arith, c.lanes-test.false) in
    let left : pending c.lanes.power (left_powers c.lanes.left) ≡ [] = ap (λ r. pending r (left_powers c.lanes.left)) c.in-None.is ∙ c.lanes.invariant.none c.in-None.is in
    Placing-end _ _ _ _ c.word-variables.ensures.layout left (subst (λ us. Placing c.args.layout.now c.args.monomial.now us (pending c.lanes.power (left_powers c.lanes.left)) c.lanes.word) (ap (λ n. lanes n c.word-variables.result) ended ∙ lanes_end c.word-variables.result) c.lanes.invariant.placing)
