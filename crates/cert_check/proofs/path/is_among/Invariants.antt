use Rattle.std.specs.Prelude.{◌≡◌, ◌<◌, ℕ, get_or}
use Rattle.cert_check.proofs.path.is_among.Given as goal

-- no choice so far is this decision
abbrev pub invariant-loop-choice : goal.invariant-loop-choice
invariant-loop-choice l = (k : ℕ) → k < l.choice-index → get_or l.choices k l.decision ≡ l.decision → ⊥
