use Rattle.std.proofs.Common.{rules, arith, ◌≤◌, ◌≡◌, ◌∙◌, sym, ap, to_z, of_z}
use mathlib.Core.Logic.{inl}
use Rattle.std.specs.Int.{w128}
use Rattle.std.specs.Prelude.{unsigned_abs, int_div, int_rem, ◌*ℤ◌, ◌+ℤ◌, pos, ℤ}
use Rattle.std.proofs.Math.IntN.{*ℤ_comm}
use Rattle.std.proofs.lemmas.Int.{ints, quot_is, rem_is, quot-rem, rem_below, fits_signed_from_abs}
use Rattle.sparse_poly.proofs.PrimitiveParts.{some_size}
use Rattle.sparse_poly.proofs.Contents.{no_remainder, factor_small}
use Rattle.sparse_poly.proofs.dividing.number_over.Goals as goal

plain : (x r a : ℤ) → x +ℤ r ≡ a → r ≡ pos 0 → x ≡ a
plain x r a e f = omega (arith, ints)

pub returns-then-number-divisor-ne0 : goal.returns-then-number-divisor-ne0
returns-then-number-divisor-ne0 c = λ z e.
    let gone : int_rem c.args.number c.args.divisor ≡ pos 0 = no_remainder c.args.divisor (int_div c.args.number c.args.divisor) (int_rem c.args.number c.args.divisor) c.args.number z (quot-rem c.args.number c.args.divisor) (inl (sym e ∙ *ℤ_comm z c.args.divisor)) (rem_below c.args.number c.args.divisor (some_size c.args.divisor c.requires.nonzero)) in
    let first : to_z w128 (of_z w128 c.args.number) ≡ c.args.number = search rules in
    let second : to_z w128 (of_z w128 c.args.divisor) ≡ c.args.divisor = search rules in
    c.if-number-divisor-ne0.true (ap (of_z w128) (ap (λ x. int_rem x (to_z w128 (of_z w128 c.args.divisor))) first ∙ ap (int_rem c.args.number) second ∙ gone))

pub returns : goal.returns
returns c =
    let r = rem_is w128 c.args.number c.args.divisor (search rules) (search rules) in
    let gone : int_rem c.args.number c.args.divisor ≡ pos 0 = sym r ∙ ap (to_z w128) c.if-number-divisor-ne0.false in
    let e : int_div c.args.number c.args.divisor *ℤ c.args.divisor ≡ c.args.number = plain _ _ _ (quot-rem c.args.number c.args.divisor) gone in
    let less : unsigned_abs (int_div c.args.number c.args.divisor) ≤ unsigned_abs c.args.number = factor_small c.args.divisor _ _ c.requires.nonzero (*ℤ_comm c.args.divisor _ ∙ e) in
    rw (quot_is w128 c.args.number c.args.divisor (search rules) (search rules) (fits_signed_from_abs w128 _ (omega (arith, less, c.requires.small)))) e
