use Rattle.std.specs.Prelude.{All, take}
use Rattle.sparse_poly.specs.Contributions.{IsPoly}
use Rattle.case_ledger.proofs.rooting.all_are_polys.Given as goal

abbrev pub invariant-loop-poly : goal.invariant-loop-poly
invariant-loop-poly l = All IsPoly (take l.poly-index l.polys)
