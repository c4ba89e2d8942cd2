use Rattle.std.proofs.Common.{◌<◌, ◌+◌, ◌-◌, ◌*◌, ◌^◌, arith}
use Rattle.std.specs.Prelude.{get_or}
use Rattle.decimal_text.proofs.Digits.{great_step}
use Rattle.decimal_text.proofs.number.Goals as goal

pub returns-in_err-checked_mul : goal.returns-in_err-checked_mul
returns-in_err-checked_mul c =
    let s = c.args.text.now in
    let i = c.digits.byte-index in
    let n = c.digits.number in
    let no : n * 10 < 2 ^ 128 → ⊥ = c.in_err-checked_mul.ensures in
    let great = great_step s i n (2 ^ 128) (omega arith) (omega (arith, no)) in
    rw c.from_residual.ensures (omega (arith, great, c.digits.invariant.exact))

pub returns-in_err-number : goal.returns-in_err-number
returns-in_err-number c =
    let s = c.args.text.now in
    let i = c.digits.byte-index in
    let n = c.digits.number in
    let no : c.in_ok-checked_mul.field-0 + (get_or s i 0 - 48) < 2 ^ 128 → ⊥ = c.in_err-number.ensures in
    let great = great_step s i n (2 ^ 128) (omega arith) (omega (arith, no, c.in_ok-checked_mul.ensures)) in
    rw c.from_residual-in_err-number.ensures (omega (arith, great, c.digits.invariant.exact))
