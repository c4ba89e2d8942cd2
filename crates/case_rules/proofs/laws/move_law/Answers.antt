use Rattle.case_rules.proofs.Belonging.{regular}
use Rattle.case_rules.proofs.CanMoves.{can_move}
use Rattle.case_rules.proofs.OneMove.{one_move}
use Rattle.case_rules.proofs.Regular.{regular_polys}
use Rattle.case_rules.proofs.laws.move_law.Goals as goal

pub returns : goal.returns
returns c = record {
  one = λ root d m n b h k. one_move d (regular_polys d (regular root d b)) m n h k;
  can = λ root d m b h. (can_move root d b m h).0;
}
