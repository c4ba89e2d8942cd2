use Rattle.std.specs.Prelude.{◌≡◌, drop}
use Rattle.case_rules.specs.Kept.{item_of}
use Rattle.case_system.proofs.kept.item_of.Given as goal

abbrev pub invariant-loop-equation : goal.invariant-loop-equation
invariant-loop-equation l = item_of l.poly l.other l.equations ≡ item_of l.poly l.other (drop l.equation-index l.equations)
