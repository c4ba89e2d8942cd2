use Rattle.fusion_ring.proofs.Answered.{no_fault, one_fault, one_ring}
use Rattle.fusion_ring.proofs.laws.ring_answer_law.Goals as goal

pub returns : goal.returns
returns c = record {
  ok = λ n products ring fault. no_fault n products ring fault;
  one = λ n products first second. one_fault n products first second;
  ring = λ n products first second. one_ring n products first second;
}
