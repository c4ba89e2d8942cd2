use Rattle.std.proofs.Common.{rules, ◌≡◌, ◌<◌, length, sym, subst}
use Rattle.std.specs.Prelude.{remove}
use Rattle.case_rules.proofs.AddedEquations.{ascend_removed}
use Rattle.case_system.specs.Places.{Ascend}
use Rattle.case_system.specs.Systems.{SystemState}
use Rattle.case_system.specs.Facts.{HaveFacts}
use Rattle.case_system.proofs.Counting.{facts_length, facts_removed}
use Rattle.case_system.proofs.system.System.remove.Goals as goal

pub remove-facts-requires : goal.remove-facts-requires
remove-facts-requires c =
    let within : c.args.i < length c.self.inside.list.equations.items = subst (λ (s : SystemState). c.args.i < length s.equations) (sym c.self.view_is) c.requires in
    let long = facts_length c.self.inside.conditions c.self.inside.list.equations.items c.self.inside.list.facts.items c.self.invariant.known in
    let same = c.self.inside.list.facts.len in
    search rules

pub invariant_of-self : goal.invariant_of-self
invariant_of-self c =
    let left : c.remove-removed.new.self.items ≡ remove c.self.inside.list.equations.items c.args.i = search rules in
    let counts : c.remove-facts.new.self.items ≡ remove c.self.inside.list.facts.items c.args.i = search rules in
    record {
      ascending = subst Ascend (sym left) (ascend_removed c.self.inside.list.equations.items c.args.i c.self.invariant.ascending);
      known = subst (λ es. HaveFacts c.self.inside.conditions es c.remove-facts.new.self.items) (sym left) (subst (HaveFacts c.self.inside.conditions (remove c.self.inside.list.equations.items c.args.i)) (sym counts)
          (facts_removed c.self.inside.conditions c.self.inside.list.equations.items c.self.inside.list.facts.items c.args.i c.self.invariant.known));
    }
