use Rattle.std.specs.Prelude.{◌<◌, ℕ, get_or, Contains}
use Rattle.derive_lines.specs.declared.parts.Decision.{Decision}
use Rattle.cert_check.proofs.path.are_among.Given as goal

-- the decisions so far are among the choices
abbrev pub invariant-loop-decision : goal.invariant-loop-decision
invariant-loop-decision l = (k : ℕ) → k < l.decision-index → (d : Decision) → Contains l.choices (get_or l.decisions k d)
