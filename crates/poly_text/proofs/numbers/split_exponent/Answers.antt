use Rattle.poly_text.proofs.Scans.{exponent_in, exponent_low, exponent_high}
use Rattle.poly_text.proofs.numbers.split_exponent.Goals as goal
use Rattle.poly_text.proofs.numbers.split_exponent.Goals.{else-number-ge2-via-then-number-ge2+else-number-le65535, else-number-ge2-via-else-number-ge2}

pub returns-then-number-le65535 : goal.returns-then-number-le65535
returns-then-number-le65535 c = λ u. exponent_in u c.in_ok-number.number c.args.fault.now c.args.text.now c.in_ok-number.rest.now c.in_ok-number.ensures c.if-number-ge2.true c.if-number-le65535.true

pub returns-else-number-ge2 : goal.returns-else-number-ge2
returns-else-number-ge2 c = λ u. elim c.else-number-ge2.branch [
  | else-number-ge2-via-then-number-ge2+else-number-le65535 w ↦ rw c.note.ensures (exponent_high u c.in_ok-number.number 0 c.args.fault.now c.args.text.now c.in_ok-number.rest.now c.in_ok-number.ensures w.if-number-le65535.false)
  | else-number-ge2-via-else-number-ge2 w ↦ rw c.note.ensures (exponent_low u c.in_ok-number.number 0 c.args.fault.now c.args.text.now c.in_ok-number.rest.now c.in_ok-number.ensures w.if-number-ge2.false)
]
