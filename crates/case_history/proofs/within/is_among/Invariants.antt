use Rattle.std.specs.Prelude.{◌≡◌, ◌<◌, ℕ, get_or}
use Rattle.case_history.proofs.within.is_among.Given as goal

-- no decision so far is this one
abbrev pub invariant-loop-other : goal.invariant-loop-other
invariant-loop-other l = (k : ℕ) → k < l.other-index → get_or l.decisions k l.decision ≡ l.decision → ⊥
