use Rattle.turn_lock.specs.Lock.{IsSeatOf}
use Rattle.turn_tests.proofs.append_all.Given as goal

abbrev pub invariant-loop-i : goal.invariant-loop-i
invariant-loop-i g l = IsSeatOf (λ _. tt) l.turns l.seat
