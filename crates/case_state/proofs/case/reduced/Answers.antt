use Rattle.std.proofs.Common.{rules, ◌≡◌, ◌<◌, length, sym, ◌∙◌, ap, subst}
use Rattle.pseudo_rem.specs.Steps.{IsReduction}
use Rattle.case_rules.specs.declared.equation.Equation.{Equation}
use Rattle.case_rules.specs.Cases.{equation_at}
use Rattle.case_rules.specs.Branches.{step_line}
use Rattle.case_system.specs.Clean.{IsBare}
use Rattle.case_system.proofs.Counting.{stripped_bare}
use Rattle.case_system.proofs.Placing.{same_index}
use Rattle.case_system.specs.CaseLines.{all_lines}
use Rattle.case_state.proofs.Branching.{reduced_by}
use Rattle.case_state.proofs.case.reduced.Goals as goal

pub replace-requires-clause-stripped : goal.replace-requires-clause-stripped
replace-requires-clause-stripped c =
    subst (IsBare c.args.system.now.conditions) (sym c.in_ok-copy.ensures)
    (subst (λ us. IsBare us c.in_ok-step.step.r) c.conditions.ensures (stripped_bare c.conditions.result.now _ _ _ c.in_ok-step.ensures.is_step.stripped))

pub returns-clause-answer : goal.returns-clause-answer
returns-clause-answer c =
    let q_is : c.index-equations-q.result ≡ equation_at c.args.system.now.equations c.args.q =
    subst (λ es. c.index-equations-q.result ≡ equation_at es c.args.q) c.equations.ensures (same_index c.equations.result.now c.args.q c.index-equations-q.result (subst (λ es. c.args.q < length es) (sym c.equations.ensures) c.requires.q_place) c.index-equations-q.is) in
    let p_is : c.index-equations-p.result ≡ equation_at c.args.system.now.equations c.args.p =
    subst (λ es. c.index-equations-p.result ≡ equation_at es c.args.p) c.equations-2.ensures (same_index c.equations-2.result.now c.args.p c.index-equations-p.result (subst (λ es. c.args.p < length es) (sym c.equations-2.ensures) c.requires.p_place) c.index-equations-p.is) in
    reduced_by c.args.system.now c.replace.new.self c.args.q c.args.p c.args.var c.in_ok-replace.field-0 (all_lines c.args.lines.now) (all_lines c.push.new.self) (all_lines c.replace.new.lines) c.in_ok-step.step c.in_ok-copy.field-0 c.len.result c.step_line.result
    (subst (λ us. IsReduction us (equation_at c.args.system.now.equations c.args.q).poly (equation_at c.args.system.now.equations c.args.p).poly c.args.var c.in_ok-step.step) c.conditions.ensures
    (subst (λ (e : Equation). IsReduction c.conditions.result.now e.poly (equation_at c.args.system.now.equations c.args.p).poly c.args.var c.in_ok-step.step) q_is
    (subst (λ (e : Equation). IsReduction c.conditions.result.now c.index-equations-q.result.poly e.poly c.args.var c.in_ok-step.step) p_is c.in_ok-step.ensures)))
    c.in_ok-copy.ensures (search rules)
    (c.step_line.ensures ∙ ap (λ (e : Equation). step_line e.item c.index-equations-p.result.item c.in_ok-step.step) q_is ∙ ap (λ (e : Equation). step_line (equation_at c.args.system.now.equations c.args.q).item e.item c.in_ok-step.step) p_is)
    (search rules) c.in_ok-replace.ensures.replaced
