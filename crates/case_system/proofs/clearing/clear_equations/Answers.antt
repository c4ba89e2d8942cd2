use Rattle.std.proofs.Common.{rules, ◌≡◌, ◌∷◌, [], sym, ap, subst}
use Rattle.std.specs.List.{AllByRecursion}
use Rattle.case_system.specs.declared.kept.Kept.{Kept}
use Rattle.case_system.specs.Facts.{HasBareFacts, HaveFacts}
use Rattle.case_system.specs.Kept.{equations_of}
use Rattle.case_system.specs.Places.{Ascend}
use Rattle.case_system.proofs.BeingCleared.{AreBeingAdded, adding_begun, added_next, all_added_at_last}
use Rattle.case_system.proofs.Counting.{facts_length}
use Rattle.case_system.proofs.Placing.{ascend_none}
use Rattle.case_system.specs.CaseLines.{all_lines}
use Rattle.case_system.proofs.clearing.clear_equations.Goals as goal

pub equations-init : goal.equations-init
equations-init c =
    let same : c.from-left.result.items ≡ c.args.stripped.items = search rules in
    let none : c.in_ok-with_capacity.field-0.items ≡ [] = search rules in
    let no_counts : c.in_ok-with_capacity-2.field-0.items ≡ [] = search rules in
    let bare : AllByRecursion (λ (k : Kept). HasBareFacts c.args.conditions.now k.equation.poly k.facts) c.from-left.result.items = subst (AllByRecursion (λ (k : Kept). HasBareFacts c.args.conditions.now k.equation.poly k.facts)) (sym same) c.requires in
    record {
      cleared = subst (λ ks. AreBeingAdded c.args.conditions.now (all_lines c.args.lines.now) (equations_of c.args.stripped.items) (equations_of ks) (all_lines c.args.lines.now) c.in_ok-with_capacity.field-0.items) (sym same) (adding_begun c.args.conditions.now (all_lines c.args.lines.now) (equations_of c.args.stripped.items) c.in_ok-with_capacity.field-0.items none);
      bare = bare;
      ascending = subst Ascend (sym none) ascend_none;
      known = subst (λ es. HaveFacts c.args.conditions.now es c.in_ok-with_capacity-2.field-0.items) (sym none) (subst (HaveFacts c.args.conditions.now []) (sym no_counts) tt);
    }

pub add-requires-clause-facts : goal.add-requires-clause-facts
add-requires-clause-facts c = facts_length c.args.conditions.now c.equations.list.equations.items c.equations.list.facts.items c.equations.invariant.known

pub equations-preserved : goal.equations-preserved
equations-preserved c =
    let left : c.equations.left.items ≡ c.in-Some.kept ∷ c.pop_front.new.self.items = c.in-Some.ensures.items in
    let bare : AllByRecursion (λ (k : Kept). HasBareFacts c.args.conditions.now k.equation.poly k.facts) (c.in-Some.kept ∷ c.pop_front.new.self.items) = subst (AllByRecursion (λ (k : Kept). HasBareFacts c.args.conditions.now k.equation.poly k.facts)) left c.equations.invariant.bare in
    record {
      cleared = added_next c.args.conditions.now (all_lines c.args.lines.now) (equations_of c.args.stripped.items) c.in-Some.kept.equation (equations_of c.pop_front.new.self.items) (all_lines c.equations.lines) (all_lines c.clear_equation.new.lines) c.equations.list.equations.items c.add.new.list.equations.items c.in_ok-cleared.cleared.equation
          (subst (λ ks. AreBeingAdded c.args.conditions.now (all_lines c.args.lines.now) (equations_of c.args.stripped.items) (equations_of ks) (all_lines c.equations.lines) c.equations.list.equations.items) left c.equations.invariant.cleared) c.in_ok-cleared.ensures.cleared c.in_ok-add.ensures.added;
      bare = bare.1;
      ascending = c.in_ok-add.ensures.ascending;
      known = c.in_ok-add.ensures.known c.args.conditions.now c.equations.invariant.known c.in_ok-cleared.ensures.known;
    }

pub returns-clause-cleared : goal.returns-clause-cleared
returns-clause-cleared c =
    let none : c.equations.left.items ≡ [] = search rules in
    all_added_at_last c.args.conditions.now (all_lines c.args.lines.now) (equations_of c.args.stripped.items) (equations_of c.equations.left.items) (all_lines c.equations.lines) c.equations.list.equations.items (ap equations_of none) c.equations.invariant.cleared
