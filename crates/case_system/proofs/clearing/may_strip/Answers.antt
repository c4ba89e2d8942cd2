use Rattle.std.proofs.Common.{arith, List, subst, take_all}
use Rattle.std.specs.Prelude.{ℕ}
use Rattle.std.specs.List.{Contains}
use Rattle.sparse_poly.specs.declared.Term.{Term}
use Rattle.sparse_poly.specs.Polynomials.{variable}
use Rattle.sparse_poly.specs.Clearing.{IsDividedBy}
use Rattle.case_system.proofs.Counting.{none_so_far}
use Rattle.case_system.proofs.clearing.may_strip.Goals as goal

pub loop-condition-preserved : goal.loop-condition-preserved
loop-condition-preserved c = none_so_far c.args.conditions.now c.loop-condition.condition-index c.condition-item.result c.args.poly.now c.loop-condition-test.true c.condition-item.is c.loop-condition.invariant (c.may_strip_by.ensures c.if-may_strip_by.false)

pub returns : goal.returns
returns c = λ _. subst (λ (ns : List (List Term)). (v : ℕ) → Contains ns (variable v) → IsDividedBy v c.args.poly.now → ⊥) (take_all c.loop-condition.condition-index c.args.conditions.now (omega (arith, c.loop-condition-test.false))) c.loop-condition.invariant
