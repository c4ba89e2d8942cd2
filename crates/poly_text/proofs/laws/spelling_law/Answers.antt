use Rattle.std.specs.Prelude.{ℕ, ◌<◌, ◌≤◌, ◌^◌}
use Rattle.std.proofs.Common.{arith}
use Rattle.poly_text.specs.State.{Start}
use Rattle.poly_text.proofs.Runs.{plain_bytes}
use Rattle.poly_text.proofs.Answered.{spelling_live}
use Rattle.poly_text.proofs.laws.spelling_law.Goals as goal

at_most : (u : ℕ) → u < 2 ^ 32 → u ≤ 2 ^ 32
at_most u h = omega arith

pub returns : goal.returns
returns c = record {
  form = λ unknowns text p small h. (spelling_live unknowns text (at_most unknowns small) p h).form;
  numbers = λ unknowns text p small h. (spelling_live unknowns text (at_most unknowns small) p h).numbers;
  bytes = λ text. plain_bytes Start text;
}
