use Rattle.std.proofs.Common.{rules, ◌≡◌, true, false}
use Rattle.poly_text.specs.Fronts.{begins_with, begins_with_digit}
use Rattle.poly_text.proofs.Scans.{coefficient_in, coefficient_out, no_coefficient, zero_coefficient}
use Rattle.poly_text.proofs.numbers.split_coefficient.Goals as goal
use Rattle.poly_text.proofs.numbers.split_coefficient.Goals.{then-not-begins_with_digit-via-then-not-begins_with_digit, then-not-begins_with_digit-via-else-not-begins_with_digit+then-begins_with}

pub returns-then-not-begins_with_digit : goal.returns-then-not-begins_with_digit
returns-then-not-begins_with_digit c = λ u. elim c.then-not-begins_with_digit.branch [
  | then-not-begins_with_digit-via-then-not-begins_with_digit w ↦ no_coefficient u c.args.fault.now c.args.text.now c.requires (search rules)
  | then-not-begins_with_digit-via-else-not-begins_with_digit+then-begins_with w ↦ zero_coefficient u c.args.fault.now c.args.text.now (search rules)
]

pub returns-then-number-le-MAX_COEFF : goal.returns-then-number-le-MAX_COEFF
returns-then-number-le-MAX_COEFF c = λ u.
    let d : begins_with_digit c.args.text.now ≡ true = search rules in
    let z : begins_with c.args.text.now 48 ≡ false = search rules in
    coefficient_in u c.split_digits-number.result.0 c.args.fault.now c.args.text.now c.split_digits-number.result.1.now d z c.split_digits-number.ensures.exact c.split_digits-number.ensures.rest c.if-number-le-MAX_COEFF.true

pub returns-else-number-le-MAX_COEFF : goal.returns-else-number-le-MAX_COEFF
returns-else-number-le-MAX_COEFF c = λ u.
    let d : begins_with_digit c.args.text.now ≡ true = search rules in
    let z : begins_with c.args.text.now 48 ≡ false = search rules in
    rw c.note.ensures (coefficient_out u c.split_digits-number.result.0 c.args.fault.now c.args.text.now c.split_digits-number.result.1.now d z c.split_digits-number.ensures.great c.split_digits-number.ensures.rest c.if-number-le-MAX_COEFF.false)
