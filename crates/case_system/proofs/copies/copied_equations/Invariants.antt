use Rattle.std.proofs.Common.{◌≡◌, take}
use Rattle.case_system.proofs.copies.copied_equations.Given as goal

abbrev pub invariant-loop-equation : goal.invariant-loop-equation
invariant-loop-equation l = l.copies.items ≡ take l.equation-index l.equations
