use Rattle.std.proofs.Common.{refl}
use Rattle.steal_workers.proofs.pool.end_of.Goals as goal

pub returns-in-None : goal.returns-in-None
returns-in-None c = (λ _. c.in-None.ensures, λ _. refl)

pub returns-in-Some : goal.returns-in-Some
returns-in-Some c = (λ e. absurd (cc e), λ done. absurd (done c.in-Some.field-0 c.in-Some.ensures.pending))
