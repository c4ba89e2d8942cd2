use Rattle.std.proofs.Common.{arith, Ok, take_all, subst}
use Rattle.std.specs.Prelude.{Contains}
use Rattle.symbol_equations.specs.Differences.{EquationAt, AreDifferences}
use Rattle.symbol_equations.proofs.Listed.{difference_of_sides, differences_more}
use Rattle.symbol_equations.proofs.differences.Goals as goal

pub loop-at-preserved : goal.loop-at-preserved
loop-at-preserved g c left_at right_at made =
    differences_more c.args.symbols.now left_at right_at c.args.labels.now c.loop-at.at-index c.at-item.result c.loop-at.found.items c.push.new.self.items c.in_ok-difference.field-0
    (omega arith) c.at-item.is c.in_ok-push.ensures.items (c.loop-at.invariant left_at right_at made)
    (difference_of_sides c.args.symbols.now c.deref.result.now c.deref-in-loop-at.result.now c.equation.inside.left.items c.equation.inside.right.items (left_at c.at-item.result) (right_at c.at-item.result) c.in_ok-equation.equation c.in_ok-difference.field-0
    c.deref.ensures.value c.deref-in-loop-at.ensures.value c.equation.view_is (made c.at-item.result (Ok c.in_ok-equation.equation) c.in_ok-equation.ensures) c.in_ok-difference.ensures)

pub returns : goal.returns
returns g c left_at right_at made =
    subst (λ ats. AreDifferences c.args.symbols.now (EquationAt (Contains ats) left_at right_at) c.loop-at.found.items)
    (take_all c.loop-at.at-index c.args.labels.now (omega arith)) (c.loop-at.invariant left_at right_at made)
