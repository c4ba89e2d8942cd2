use Rattle.std.specs.Prelude.{◌≡◌, take}
use Rattle.cert_check.proofs.path.copies.Given as goal

-- the choices so far were copied
abbrev pub invariant-loop-choice : goal.invariant-loop-choice
invariant-loop-choice l = l.copies.items ≡ take l.choice-index l.choices
