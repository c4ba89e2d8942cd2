use Rattle.std.specs.Prelude.{ℕ, ◌<◌, ◌≤◌, ◌^◌}
use Rattle.std.proofs.Common.{arith}
use Rattle.poly_text.proofs.Answered.{no_fault, one_fault, one_spelling}
use Rattle.poly_text.proofs.Exists.{some_answer}
use Rattle.poly_text.proofs.laws.answer_law.Goals as goal

at_most : (u : ℕ) → u < 2 ^ 32 → u ≤ 2 ^ 32
at_most u h = omega arith

pub returns : goal.returns
returns c = record {
  some = λ unknowns text small. some_answer unknowns text small;
  ok = λ unknowns text p fault small. no_fault unknowns text (at_most unknowns small) p fault;
  one = λ unknowns text first second small. one_fault unknowns text (at_most unknowns small) first second;
  poly = λ unknowns text p q. one_spelling unknowns text p q;
}
