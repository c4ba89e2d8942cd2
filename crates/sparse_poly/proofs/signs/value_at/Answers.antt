use Rattle.std.proofs.Common.{rules, ◌≡◌, ◌<◌, subst, drop, length, to_z}
use Rattle.std.specs.Int.{w128}
use Rattle.std.specs.Prelude.{◌+◌, ◌+ℤ◌}
use Rattle.sparse_poly.specs.Signs.{sign, value_at, is_minus_monomial}
use Rattle.sparse_poly.proofs.Packings.{drop_at}
use Rattle.sparse_poly.proofs.DividedValues.{next_term, plus_one, minus_one}
use Rattle.sparse_poly.proofs.signs.value_at.Goals.{then-is_minus_monomial+in_ok-value, else-is_minus_monomial+in_ok-value-2}
use Rattle.sparse_poly.proofs.signs.value_at.Goals as goal

pub loop-term-preserved : goal.loop-term-preserved
loop-term-preserved c =
    let within : c.loop-term.term-index < length c.args.terms.now = search rules in
    let next = drop_at c.args.terms.now c.loop-term.term-index c.term-item.result within c.term-item.is in
    let rest = value_at c.args.point (drop (c.loop-term.term-index + 1) c.args.terms.now) in
    let before = subst (λ ts. to_z w128 c.loop-term.value-bits +ℤ value_at c.args.point ts ≡ value_at c.args.point c.args.terms.now) next c.loop-term.invariant in
    next_term (sign c.args.point) c.term-item.result (to_z w128 c.loop-term.value-bits) (to_z w128 c.if-is_minus_monomial.value-bits) rest (value_at c.args.point c.args.terms.now) before
    (elim c.if-is_minus_monomial.branch [
      | then-is_minus_monomial+in_ok-value w ↦ minus_one _ _ _ (is_minus_monomial c.args.point c.term-item.result.monomial) (search rules) (search rules)
      | else-is_minus_monomial+in_ok-value-2 w ↦ plus_one _ _ _ (is_minus_monomial c.args.point c.term-item.result.monomial) (search rules) (search rules)
    ])
