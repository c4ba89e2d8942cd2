use Rattle.std.specs.Prelude.{◌<◌, ℕ, get_or, Contains}
use Rattle.derive_lines.specs.declared.Decision.{Decision}
use Rattle.case_history.proofs.within.is_within.Given as goal

-- the decisions of the pattern so far are among the decisions
abbrev pub invariant-loop-decision : goal.invariant-loop-decision
invariant-loop-decision l = (k : ℕ) → k < l.decision-index → (d : Decision) → Contains l.decisions (get_or l.pattern k d)
