use Rattle.std.proofs.Common.{rules, ◌≡◌, ◌<◌, ◌∙◌, length, false, sym, subst}
use Rattle.std.proofs.lemmas.Bool.{true≢false}
use Rattle.case_system.specs.Systems.{SystemState}
use Rattle.case_system.proofs.Counting.{facts_length, facts_of}
use Rattle.case_system.proofs.system.System.contains.Goals as goal

pub index-requires : goal.index-requires
index-requires c =
    let within : c.args.i < length c.self.inside.list.equations.items = subst (λ (s : SystemState). c.args.i < length s.equations) (sym c.self.view_is) c.requires in
    let long = facts_length c.self.inside.conditions c.self.inside.list.equations.items c.self.inside.list.facts.items c.self.invariant.known in
    let same = c.self.inside.list.facts.len in
    search rules

pub returns-else-may_contain : goal.returns-else-may_contain
returns-else-may_contain c =
    let within : c.args.i < length c.self.inside.list.equations.items = subst (λ (s : SystemState). c.args.i < length s.equations) (sym c.self.view_is) c.requires in
    let known = facts_of c.self.inside.conditions c.self.inside.list.equations.items c.self.inside.list.facts.items c.args.i c.index.result.now c.self.invariant.known within c.index.ensures in
    let missing : c.may_contain.result ≡ false = search rules in
    rw (← c.self.view_is) (λ t. absurd (true≢false (sym t ∙ missing)), λ d. absurd (true≢false (sym (c.may_contain.ensures.1 (known.outline.some c.args.var d)) ∙ missing)))
