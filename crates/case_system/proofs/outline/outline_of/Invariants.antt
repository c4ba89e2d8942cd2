use Rattle.std.proofs.Common.{ℕ, ◌<◌, ◌⊎◌, drop}
use Rattle.sparse_poly.specs.Reads.{degree_in}
use Rattle.sparse_poly.specs.Clearing.{IsDividedBy}
use Rattle.case_system.specs.Outlines.{HasBit}
use Rattle.case_system.proofs.outline.outline_of.Given as goal

abbrev pub invariant-loop-term : goal.invariant-loop-term
invariant-loop-term l = record {
  some : (v : ℕ) → 0 < degree_in v l.terms → HasBit l.outline.some v ⊎ (0 < degree_in v (drop l.term-index l.terms));
  each : (v : ℕ) → IsDividedBy v l.terms → HasBit l.outline.each v × IsDividedBy v (drop l.term-index l.terms);
}
