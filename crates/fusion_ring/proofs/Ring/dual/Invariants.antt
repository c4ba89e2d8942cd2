use Rattle.std.proofs.Common.{◌≡◌, ℕ, ◌<◌, false}
use Rattle.fusion_ring.specs.Fusion.{channel}
use Rattle.fusion_ring.proofs.Ring.dual.Given as goal

abbrev pub invariant-loop-b : goal.invariant-loop-b
invariant-loop-b l = (b : ℕ) → b < l.b → channel l.self l.a b 0 ≡ false
