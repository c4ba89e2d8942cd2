use Rattle.std.proofs.Common.{subst}
use Rattle.sparse_poly.specs.Polynomials.{IsSum}
use Rattle.derive_lines.specs.Lines.{left_side, right_side, reduced, rest}
use Rattle.derive_lines.proofs.OneAnswer.{same_from, same_by}
use Rattle.derive_lines.proofs.Vanishing.{line_values}
use Rattle.derive_lines.proofs.laws.line_law.Goals as goal

pub returns : goal.returns
returns g c s root ds before line from by p refers good =
    line_values g.F.CharZeroField.field g.F.CharZeroField.laws s p line.l (reduced line.way from line.made) line.a by line.m (rest line.way from line.made)
    (subst (λ x. IsSum (left_side line x by) (right_side line x)) (same_from root ds before line _ _ _ _ good.refers refers) (subst (λ x. IsSum (left_side line good.from x) (right_side line good.from)) (same_by root ds before line _ _ _ _ good.refers refers) good.sides.identity))
