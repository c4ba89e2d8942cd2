use Rattle.ring_file.proofs.Answered.{no_fault, one_fault, one_problem}
use Rattle.ring_file.proofs.laws.problem_answer_law.Goals as goal

pub returns : goal.returns
returns c = record {
  ok = λ bytes problem fault. no_fault bytes problem fault;
  one = λ bytes first second. one_fault bytes first second;
  problem = λ bytes first second. one_problem bytes first second;
}
