use Rattle.std.proofs.Common.{◌≡◌, take}
use Rattle.case_rules.specs.Cases.{polys_of}
use Rattle.case_state.proofs.copies.polys_of.Given as goal

abbrev pub invariant-loop-equation : goal.invariant-loop-equation
invariant-loop-equation l = l.polys.items ≡ polys_of (take l.equation-index l.equations)
