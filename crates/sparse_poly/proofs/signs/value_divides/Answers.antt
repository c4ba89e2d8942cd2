use Rattle.std.proofs.Common.{rules, ◌≡◌, ◌∙◌, sym, ap, to_z, of_z}
use Rattle.std.specs.Int.{w128}
use Rattle.std.specs.Prelude.{nat_eq, pos, ◌*ℤ◌}
use Rattle.std.proofs.Math.IntN.{*ℤ-zero}
use Rattle.sparse_poly.specs.Signs.{value_at}
use Rattle.sparse_poly.proofs.DividedValues.{value-divided}
use Rattle.sparse_poly.proofs.signs.value_divides.Goals as goal

pub returns-then-by-eq0 : goal.returns-then-by-eq0
returns-then-by-eq0 c = λ e g d.
    let back : to_z w128 (of_z w128 c.in-Some-value_at.by) ≡ c.in-Some-value_at.by = search rules in
    let none : c.in-Some-value_at.by ≡ pos 0 = sym back ∙ ap (to_z w128) c.if-by-eq0.true in
    let multiple : c.in-Some.number ≡ value_at c.args.point g *ℤ value_at c.args.point c.args.divisor.now = c.in-Some.ensures.value ∙ sym (value-divided c.args.point c.args.divisor.now c.args.terms.now g d) in
    let gone : c.in-Some.number ≡ pos 0 = multiple ∙ ap (λ z. value_at c.args.point g *ℤ z) (sym c.in-Some-value_at.ensures.value ∙ none) ∙ *ℤ-zero (value_at c.args.point g) in
    cc (e, ap (λ z. nat_eq (of_z w128 z) 0) gone)

pub returns : goal.returns
returns c = λ e g d.
    let back : to_z w128 (of_z w128 c.in-Some-value_at.by) ≡ c.in-Some-value_at.by = search rules in
    let number : to_z w128 (of_z w128 c.in-Some.number) ≡ c.in-Some.number = search rules in
    c.divides_number.ensures e (value_at c.args.point g)
    (ap (λ z. value_at c.args.point g *ℤ z) (back ∙ c.in-Some-value_at.ensures.value) ∙ value-divided c.args.point c.args.divisor.now c.args.terms.now g d ∙ sym (number ∙ c.in-Some.ensures.value))
