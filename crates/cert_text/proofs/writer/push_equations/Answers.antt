use Rattle.std.proofs.Common.{arith, ◌<◌, ◌≤◌, length, subst, All}
use Rattle.std.proofs.lemmas.List.{take_all}
use Rattle.std.proofs.lemmas.List.Elements.{All-more}
use Rattle.sparse_poly.specs.Contributions.{IsPoly}
use Rattle.cert_text.specs.declared.sentence.Sentence.TheVariants as says
use Rattle.cert_text.proofs.Loops.{line_more}
use Rattle.cert_text.proofs.writer.push_equations.Goals as goal

pub equations-preserved : goal.equations-preserved
equations-preserved c =
    let lt : c.equations.equation-index < length c.args.equations.now = omega arith in
    record {
      text = line_more says.Equation c.equations.into.items c.push_equation.new.into.items _ c.args.equations.now c.equations.equation-index c.equation-item.result lt c.equation-item.is c.in_ok-push_equation.ensures.text c.equations.invariant.text;
      numbers = All-more IsPoly c.args.equations.now c.equations.equation-index c.equation-item.result lt c.equations.invariant.numbers (subst IsPoly c.equation-item.is c.in_ok-push_equation.ensures.numbers);
    }

pub returns-clause-numbers : goal.returns-clause-numbers
returns-clause-numbers c =
    let end : length c.args.equations.now ≤ c.equations.equation-index = omega arith in
    subst (All IsPoly) (take_all c.equations.equation-index c.args.equations.now end) c.equations.invariant.numbers
