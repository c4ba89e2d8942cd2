use Rattle.std.proofs.Common.{rules, ◌≡◌, subst}
use Rattle.case_system.specs.Facts.{HaveFacts}
use Rattle.case_system.proofs.system.System.new.Goals as goal

pub invariant_of-result : goal.invariant_of-result
invariant_of-result c =
    let same : c.deref.result.now ≡ c.args.equations.items = search rules in
    record { ascending = c.requires; known = subst (λ es. HaveFacts c.new.result es c.in_ok-facts.facts.items) same (c.in_ok-facts.ensures c.new.result) }
