use Rattle.std.specs.Prelude.{◌≡◌, ◌<◌, ℕ, List, slice_get}
use Rattle.std.specs.declared.option.Option.TheVariants.{Some}
use Rattle.derive_lines.specs.declared.parts.Decision.{Decision}
use Rattle.cert_check.proofs.replay.first_kept.Given as goal

-- no decisions are kept so far
abbrev pub invariant-loop-n : goal.invariant-loop-n
invariant-loop-n l = (m : ℕ) (ds : List Decision) → m < l.n → slice_get l.cases m ≡ Some (Some ds) → ⊥
