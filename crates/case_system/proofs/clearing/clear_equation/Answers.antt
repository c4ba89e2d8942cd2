use Rattle.std.proofs.Common.{rules, ◌≤◌, length, ap, sym, subst}
use Rattle.case_rules.specs.declared.equation.Equation.{Equation}
use Rattle.case_system.proofs.Counting.{cleared_by_later, clean_to_all, same_equation, new_known}
use Rattle.case_system.specs.Appending.{IsClearedBy}
use Rattle.case_system.specs.CaseLines.{all_lines}
use Rattle.case_system.specs.Outlines.{IsOutlineOf}
use Rattle.case_system.proofs.clearing.clear_equation.Goals as goal

pub returns-then-len-before-clause-cleared : goal.returns-then-len-before-clause-cleared
returns-then-len-before-clause-cleared c =
    subst (λ (e : Equation). IsClearedBy c.args.conditions.now (all_lines c.args.lines.now) c.args.kept.equation (all_lines c.clear_from.new.lines) e) (sym c.new.ensures.equation)
    (cleared_by_later c.args.conditions.now c.args.kept.facts.clean (all_lines c.args.lines.now) c.args.kept.equation (all_lines c.clear_from.new.lines) c.in_ok-equation.equation c.requires.bare c.in_ok-equation.ensures.cleared)

pub returns-then-len-before-clause-known : goal.returns-then-len-before-clause-known
returns-then-len-before-clause-known c = new_known c.args.conditions.now c.in_ok-equation.equation c.new.result c.new.ensures.equation c.new.ensures.clean c.new.ensures.outline

pub returns-clause-cleared : goal.returns-clause-cleared
returns-clause-cleared c = cleared_by_later c.args.conditions.now c.args.kept.facts.clean (all_lines c.args.lines.now) c.args.kept.equation (all_lines c.clear_from.new.lines) c.in_ok-equation.equation c.requires.bare c.in_ok-equation.ensures.cleared

pub returns-clause-known : goal.returns-clause-known
returns-clause-known c =
    let none : length (all_lines c.clear_from.new.lines) ≤ length (all_lines c.args.lines.now) = search rules in
    record {
      clean = clean_to_all c.args.conditions.now (all_lines c.args.lines.now) c.args.kept.equation c.args.kept.facts.clean (all_lines c.clear_from.new.lines) c.in_ok-equation.equation (length c.polys.result.now) c.requires.bare c.in_ok-equation.ensures.cleared none (ap length c.polys.ensures);
      outline = subst (λ (e : Equation). IsOutlineOf e.poly c.args.kept.facts.outline) (sym (same_equation _ (all_lines c.args.lines.now) c.args.kept.equation (all_lines c.clear_from.new.lines) c.in_ok-equation.equation c.in_ok-equation.ensures.cleared none)) c.requires.outline;
    }
