use Rattle.std.proofs.Common.{rules, arith}
use Rattle.std.specs.List.Sorted.{IsBinarySearchResult}
use Rattle.std.specs.declared.result.Result.TheVariants.{Err}
use Rattle.std.proofs.lemmas.Fn.{always_returns_same}
use Rattle.case_rules.specs.declared.equation.Equation.{Equation}
use Rattle.sparse_poly.specs.Order.{poly_cmp}
use Rattle.case_system.proofs.Placing.{goes_before, goes_after}
use Rattle.case_system.proofs.kept.place_beside.Goals as goal

pub returns-then-i-q-clause-goes : goal.returns-then-i-q-clause-goes
returns-then-i-q-clause-goes c =
    let position : IsBinarySearchResult (λ (e : Equation). poly_cmp e.poly c.args.poly.now) c.args.equations.now (Err c.in-Err.i) = c.in-Err.ensures.position (λ (e : Equation). poly_cmp e.poly c.args.poly.now) (always_returns_same _ _ _ (λ a r g h. (search rules, search rules))) in
    goes_before c.args.poly.now c.args.equations.now c.args.q c.requires.ascending c.requires.place c.in-Err.i c.in-Err.ensures.bound position c.if-i-q.true

pub returns-else-i-q-clause-goes : goal.returns-else-i-q-clause-goes
returns-else-i-q-clause-goes c =
    let position : IsBinarySearchResult (λ (e : Equation). poly_cmp e.poly c.args.poly.now) c.args.equations.now (Err c.in-Err.i) = c.in-Err.ensures.position (λ (e : Equation). poly_cmp e.poly c.args.poly.now) (always_returns_same _ _ _ (λ a r g h. (search rules, search rules))) in
    goes_after c.args.poly.now c.args.equations.now c.args.q c.requires.ascending c.requires.place c.in-Err.i c.in-Err.ensures.bound position (omega (arith, c.if-i-q.false))
