use Rattle.std.specs.Prelude.{◌≡◌, take}
use Rattle.cert_check.proofs.path.are_decisions.Given as goal

-- the choices so far are the decisions so far
abbrev pub invariant-loop-i : goal.invariant-loop-i
invariant-loop-i l = take l.i l.decisions ≡ take l.i l.choices
