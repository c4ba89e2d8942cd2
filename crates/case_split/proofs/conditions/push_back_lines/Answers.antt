use Rattle.std.proofs.Common.{rules, arith, ◌≡◌, ◌<◌, ◌++◌, ◌∷◌, [], ap}
use Rattle.std.specs.Prelude.{length, List}
use Rattle.pseudo_rem.specs.Remainders.{rest_of}
use Rattle.case_rules.specs.declared.equation.Equation.{Equation}
use Rattle.case_rules.specs.Cases.{equation, count}
use Rattle.case_split.specs.Found.{back_line}
use Rattle.case_split.proofs.LeadingBack.{led_back_more, taken_place}
use Rattle.case_split.proofs.conditions.push_back_lines.Goals as goal

pub item-by-requires : goal.item-by-requires
item-by-requires c =
    let last : c.steps.left.items ≡ c.pop.new.self.items ++ c.in-Some.step ∷ [] = search rules in
    let place : c.in-Some.step.by < count c.args.case.now = taken_place c.args.case.now c.args.n.now c.args.steps.items c.args.lines.now.items c.steps.left.items c.pop.new.self.items c.in-Some.step c.steps.from c.steps.lines.items last c.requires c.steps.invariant in
    omega (arith, place, ap (λ (es : List Equation). length es) c.equations.ensures)

pub steps-preserved : goal.steps-preserved
steps-preserved c =
    let last : c.steps.left.items ≡ c.pop.new.self.items ++ c.in-Some.step ∷ [] = search rules in
    let pushed : c.push.new.self.items ≡ c.steps.lines.items ++ back_line c.steps.from (equation c.args.case.now c.in-Some.step.by).item c.in-Some.step.reduction (rest_of c.args.n.now c.pop.new.self.items) ∷ [] = search rules in
    led_back_more c.args.case.now c.args.n.now c.args.steps.items c.args.lines.now.items c.steps.left.items c.pop.new.self.items c.in-Some.step c.steps.from _ c.steps.lines.items c.push.new.self.items last (search rules) pushed c.steps.invariant
