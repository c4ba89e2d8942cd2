use Rattle.std.specs.Prelude.{take, reverse}
use Rattle.cert_check.specs.Kept.{IsReplay}
use Rattle.cert_check.proofs.accepting.replayed.Given as goal

-- the entries so far were replayed
abbrev pub invariant-loop-entry : goal.invariant-loop-entry
invariant-loop-entry l = IsReplay l.root (reverse (take l.entry-index l.entries)) l.replay
