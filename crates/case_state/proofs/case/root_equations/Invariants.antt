use Rattle.std.proofs.Common.{◌≡◌, take}
use Rattle.case_rules.specs.Cases.{numbered}
use Rattle.case_state.proofs.case.root_equations.Given as goal

abbrev pub invariant-loop-poly : goal.invariant-loop-poly
invariant-loop-poly l = l.equations.items ≡ numbered 0 (take l.poly-index l.root)
