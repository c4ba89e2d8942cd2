use Rattle.std.specs.Prelude.{[]}
use Rattle.case_history.specs.History.{IsPending, IsLeastPending}
use Rattle.legal_history.proofs.Serial.{least_one, step_wider, grows_wider, complete_one}
use Rattle.legal_history.proofs.laws.serial_law.Goals as goal

pub returns-clause-legal : goal.returns-clause-legal
returns-clause-legal c root budget h serial = grows_wider root budget IsLeastPending IsPending (λ _ _ p. p.pending) [] h serial

pub returns-clause-step : goal.returns-clause-step
returns-clause-step c root budget h more step = step_wider root budget IsLeastPending IsPending (λ _ _ p. p.pending) h more step

pub returns-clause-one : goal.returns-clause-one
returns-clause-one c root budget h other listed a b done ended = complete_one root budget (c.end_law.ensures root budget listed) IsLeastPending least_one (λ _ _ p. p.pending) [] h other a b done ended
