use Rattle.std.specs.Prelude.{take}
use Rattle.pattern_store.specs.Numbers.{IsSetOf}
use Rattle.pattern_store.proofs.numbering.all_literals.Given as goal

-- the numbers of the decisions so far
abbrev pub invariant-loop-d : goal.invariant-loop-d
invariant-loop-d l = IsSetOf l.names.keys l.all.items (take l.d-index l.decisions)
