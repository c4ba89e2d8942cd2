use Rattle.std.proofs.Common.{take}
use Rattle.std.specs.Prelude.{ℕ}
use Rattle.std.specs.List.{Contains}
use Rattle.sparse_poly.specs.Polynomials.{variable}
use Rattle.sparse_poly.specs.Clearing.{IsDividedBy}
use Rattle.case_system.proofs.clearing.may_strip.Given as goal

abbrev pub invariant-loop-condition : goal.invariant-loop-condition
invariant-loop-condition l = (v : ℕ) → Contains (take l.condition-index l.conditions) (variable v) → IsDividedBy v l.poly → ⊥
