use Rattle.std.proofs.Common.{take}
use Rattle.case_rules.specs.Cases.{known, count}
use Rattle.case_split.specs.Found.{IsFirstOf}
use Rattle.case_split.proofs.dead.first_known.Given as goal

abbrev pub invariant-loop-condition : goal.invariant-loop-condition
invariant-loop-condition l = IsFirstOf l.case (take l.condition-index (known l.case)) (count l.case) l.first
