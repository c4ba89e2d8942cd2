use Rattle.std.proofs.Common.{◌≡◌, ◌++◌, drop, map}
use Rattle.poly_text.specs.Raw.{raw}
use Rattle.poly_text.proofs.reader.poly_of.Given as goal

abbrev pub invariant-loop-term : goal.invariant-loop-term
invariant-loop-term l = l.list.items ++ map raw (drop l.term-index l.terms) ≡ map raw l.terms
