use Rattle.std.proofs.Common.{◌≡◌, ◌++◌, drop}
use Rattle.poly_text.specs.Text.{more_terms}
use Rattle.poly_text.proofs.writer.push_more_terms.Given as goal

abbrev pub invariant-loop-term : goal.invariant-loop-term
invariant-loop-term l = l.into.items ++ more_terms (drop l.term-index l.terms) ≡ l.initial.into.items ++ more_terms l.terms
