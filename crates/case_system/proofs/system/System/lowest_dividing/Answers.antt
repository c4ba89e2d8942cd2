use Rattle.std.proofs.Common.{rules, ◌≡◌, ◌<◌, ◌∙◌, length, false, sym, subst}
use Rattle.std.proofs.lemmas.Bool.{true≢false}
use Rattle.std.proofs.lemmas.List.{get_or_default}
use Rattle.std.specs.Prelude.{MatchOption}
use Rattle.sparse_poly.specs.Clearing.{IsDividedBy}
use Rattle.case_rules.specs.declared.equation.Equation.{Equation}
use Rattle.case_rules.specs.Cases.{equation_at, no_equation}
use Rattle.case_rules.specs.Rules.{None_has, IsLowestDividing}
use Rattle.case_system.specs.Systems.{SystemState}
use Rattle.case_system.proofs.Counting.{facts_length, facts_of}
use Rattle.case_system.proofs.Outlining.{no_bit}
use Rattle.case_system.proofs.system.System.lowest_dividing.Goals as goal

pub index-requires : goal.index-requires
index-requires c =
    let within : c.args.i < length c.self.inside.list.equations.items = subst (λ (s : SystemState). c.args.i < length s.equations) (sym c.self.view_is) c.requires.place in
    let long = facts_length c.self.inside.conditions c.self.inside.list.equations.items c.self.inside.list.facts.items c.self.invariant.known in
    let same = c.self.inside.list.facts.len in
    search rules

pub returns-then-not-may_be_divided : goal.returns-then-not-may_be_divided
returns-then-not-may_be_divided c =
    let within : c.args.i < length c.self.inside.list.equations.items = subst (λ (s : SystemState). c.args.i < length s.equations) (sym c.self.view_is) c.requires.place in
    let known = facts_of c.self.inside.conditions c.self.inside.list.equations.items c.self.inside.list.facts.items c.args.i c.index.result.now c.self.invariant.known within c.index.ensures in
    let missing : c.may_be_divided.result ≡ false = search rules in
    rw (← c.self.view_is) (λ v d. true≢false (sym (c.may_be_divided.ensures.1 (λ z. no_bit _ v z (known.outline.each v d))) ∙ missing))

pub returns : goal.returns
returns c =
    let within : c.args.i < length c.self.inside.list.equations.items = subst (λ (s : SystemState). c.args.i < length s.equations) (sym c.self.view_is) c.requires.place in
    let same : c.index-2.result.now ≡ equation_at c.self.inside.list.equations.items c.args.i = c.index-2.ensures ∙ get_or_default c.self.inside.list.equations.items c.args.i c.index-2.result.now no_equation within in
    rw (← c.self.view_is) (subst (λ (e : Equation). MatchOption c.lowest_dividing.result (None_has (λ v. IsDividedBy v e.poly)) (IsLowestDividing e.poly)) same c.lowest_dividing.ensures)
