use Rattle.std.proofs.Common.{◌≡◌, take}
use Rattle.case_system.proofs.copies.copied_polys.Given as goal

abbrev pub invariant-loop-poly : goal.invariant-loop-poly
invariant-loop-poly l = l.copies.items ≡ take l.poly-index l.polys
