use Rattle.std.proofs.Common.{rules, arith, ◌≡◌, refl, sym, ◌∙◌, subst}
use Rattle.std.specs.Prelude.{◌≢◌}
use Rattle.case_rules.specs.declared.equation.Equation.{Equation}
use Rattle.case_system.specs.Facts.{HasBareFacts}
use Rattle.case_system.proofs.BeingCleared.{strip_same, strip_changed}
use Rattle.case_system.proofs.Counting.{passed_strip, passed_bare, new_bare, stripped_bare, same_bare}
use Rattle.derive_lines.specs.declared.parts.Item.TheVariants.{Line}
use Rattle.case_system.specs.Appending.{IsStrippedBy}
use Rattle.case_system.specs.Outlines.{IsOutlineOf}
use Rattle.case_system.specs.CaseLines.{all_lines}
use Rattle.case_system.proofs.clearing.strip_equation.Goals as goal

pub returns-then-not-may_strip_later-clause-stripped : goal.returns-then-not-may_strip_later-clause-stripped
returns-then-not-may_strip_later-clause-stripped c =
    let counted : c.args.facts.clean ≢ 0 = λ e. (let more = c.if-facts-gt0.true in omega (arith, more, e)) in
    passed_strip c.args.conditions.now (all_lines c.args.lines.now) c.args.equation.now c.in_ok-copied_equation.field-0 c.args.facts.clean c.terms-terms.ensures.poly c.requires.clean counted
    (c.may_strip_later.ensures c.if-not-may_strip_later.true)
    c.in_ok-copied_equation.ensures

pub returns-then-not-may_strip_later-clause-bare : goal.returns-then-not-may_strip_later-clause-bare
returns-then-not-may_strip_later-clause-bare c =
    let counted : c.args.facts.clean ≢ 0 = λ e. (let more = c.if-facts-gt0.true in omega (arith, more, e)) in
    subst (λ (x : Equation). HasBareFacts c.args.conditions.now x.poly c.args.facts) (sym c.in_ok-copied_equation.ensures)
    (record {
      bare = passed_bare c.args.conditions.now c.args.equation.now.poly c.args.facts.clean c.requires.clean counted
          (c.may_strip_later.ensures c.if-not-may_strip_later.true);
      outline = c.requires.outline;
    })

pub returns-then-is_same-clause-stripped : goal.returns-then-is_same-clause-stripped
returns-then-is_same-clause-stripped c = strip_same c.args.conditions.now (all_lines c.args.lines.now) c.args.equation.now (record { poly = c.in_ok-factor.field-0.rest; item = c.args.equation.now.item }) c.in_ok-factor.field-0.factor c.in_ok-factor.ensures (c.is_same.ensures.0 c.if-is_same.true) refl

pub returns-clause-stripped : goal.returns-clause-stripped
returns-clause-stripped c =
    subst (λ (e : Equation). IsStrippedBy c.args.conditions.now (all_lines c.args.lines.now) c.args.equation.now (all_lines c.push.new.self) e) (sym c.new.ensures.equation)
    (strip_changed c.args.conditions.now (all_lines c.args.lines.now) (all_lines c.push.new.self) c.args.equation.now c.in_ok-factor.field-0.factor c.in_ok-factor.field-0.rest c.len.result c.in_ok-factor.ensures (λ e. cc (sym c.if-is_same.false ∙ c.is_same.ensures.1 e)) (search rules) (search rules))

pub returns-clause-bare : goal.returns-clause-bare
returns-clause-bare c = new_bare c.args.conditions.now (record { poly = c.in_ok-factor.field-0.rest; item = Line c.len.result }) c.new.result c.new.ensures.equation c.new.ensures.clean c.new.ensures.outline (stripped_bare _ _ _ _ c.in_ok-factor.ensures)

pub returns-then-is_same-clause-bare : goal.returns-then-is_same-clause-bare
returns-then-is_same-clause-bare c =
    let same : c.in_ok-factor.field-0.rest ≡ c.args.equation.now.poly = c.is_same.ensures.0 c.if-is_same.true in
    record {
      bare = same_bare _ _ _ _ c.args.facts.clean c.in_ok-factor.ensures same c.requires.clean;
      outline = subst (λ p. IsOutlineOf p c.args.facts.outline) (sym same) c.requires.outline;
    }
