use Rattle.std.proofs.Common.{◌++◌, ◌∷◌, [], sym, ◌∙◌, ap, subst}
use Rattle.std.specs.List.{AllByRecursion}
use Rattle.case_system.specs.declared.kept.Kept.{Kept}
use Rattle.case_system.specs.Appending.{AreClearedBy, AreStrippedBy}
use Rattle.case_system.specs.Facts.{HasBareFacts, HaveFacts}
use Rattle.case_system.specs.Kept.{equations_of}
use Rattle.case_system.specs.Systems.{SystemState}
use Rattle.case_system.proofs.Counting.{clean_more}
use Rattle.case_system.specs.CaseLines.{all_lines}
use Rattle.case_system.proofs.system.System.with_condition.Goals as goal

pub strip_equations-requires : goal.strip_equations-requires
strip_equations-requires c =
    subst (λ us. HaveFacts us c.self.inside.list.equations.items c.self.inside.list.facts.items) (sym (c.polys.ensures ∙ c.in_ok-conditions.ensures))
    (clean_more c.self.inside.conditions (c.args.by.now ∷ []) c.self.inside.list.equations.items c.self.inside.list.facts.items c.self.invariant.known)

pub clear_equations-requires : goal.clear_equations-requires
clear_equations-requires c = subst (λ us. AllByRecursion (λ (k : Kept). HasBareFacts us k.equation.poly k.facts) c.in_ok-stripped.stripped.items) c.polys.ensures c.in_ok-stripped.ensures.bare

pub returns : goal.returns
returns c =
    let more = c.self.inside.conditions ++ c.args.by.now ∷ [] in
    let stripped = equations_of c.in_ok-stripped.stripped.items in
    rw (← c.self.view_is) (record {
      middle = (all_lines c.strip_equations.new.lines);
      stripped = stripped;
      are_stripped = subst (λ us. AreStrippedBy us (all_lines c.args.lines.now) c.self.inside.list.equations.items (all_lines c.strip_equations.new.lines) stripped) (c.polys.ensures ∙ c.in_ok-conditions.ensures) c.in_ok-stripped.ensures.stripped;
      cleared = c.in_ok-list.ensures.cleared.cleared;
      are_cleared = subst (λ us. AreClearedBy us (all_lines c.strip_equations.new.lines) stripped (all_lines c.clear_equations.new.lines) c.in_ok-list.ensures.cleared.cleared) c.in_ok-conditions.ensures c.in_ok-list.ensures.cleared.are_cleared;
      is = ap (λ us. let s : SystemState = record { conditions = us; equations = c.in_ok-list.list.equations.items } in s) c.in_ok-conditions.ensures ∙ ap (λ es. let s : SystemState = record { conditions = more; equations = es } in s) c.in_ok-list.ensures.cleared.is;
    })
