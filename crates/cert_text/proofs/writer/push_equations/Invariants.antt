use Rattle.std.proofs.Common.{◌≡◌, ◌++◌, map, drop, take, All}
use Rattle.sparse_poly.specs.Contributions.{IsPoly}
use Rattle.cert_text.specs.declared.sentence.Sentence.TheVariants as says
use Rattle.cert_text.specs.Sentences.{spelled}
use Rattle.cert_text.proofs.writer.push_equations.Given as goal

abbrev pub invariant-equations : goal.invariant-equations
invariant-equations l = record {
  text : l.into.items ++ spelled (map says.Equation (drop l.equation-index l.equations)) ≡ l.initial.into.items ++ spelled (map says.Equation l.equations);
  numbers : All IsPoly (take l.equation-index l.equations);
}
