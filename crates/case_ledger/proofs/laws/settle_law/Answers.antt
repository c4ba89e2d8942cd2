use Rattle.std.specs.Prelude.{◌<◌, ℕ}
use Rattle.std.proofs.Common.{refl, sym, ◌∙◌, subst, ap}
use Rattle.case_history.specs.History.{IsPending, IsLeastPending}
use Rattle.legal_history.specs.Legal.{stays, goes}
use Rattle.legal_history.specs.Work.{work_left}
use Rattle.case_ledger.proofs.Settle.{settle_steps}
use Rattle.case_ledger.proofs.laws.settle_law.Goals as goal

pub returns-clause-step : goal.returns-clause-step
returns-clause-step c b n o reply new pending ends s = settle_steps IsPending b n o reply new pending pending ends s

pub returns-clause-serial : goal.returns-clause-serial
returns-clause-serial c b n o reply new least ends s = settle_steps IsLeastPending b n o reply new least least.pending ends s

pub returns-clause-less : goal.returns-clause-less
returns-clause-less c b new listed legal s = subst (λ (i : ℕ). work_left i new.history < work_left b.budget b.history) (sym s.budget_is) (c.work_law.ensures b.root.equations b.budget b.history new.history listed legal (c.serial_law.ensures.step _ _ _ _ s.step))

pub returns-clause-start : goal.returns-clause-start
returns-clause-start c b = record { root_is = refl; budget_is = refl; grows = stays }

pub returns-clause-on : goal.returns-clause-on
returns-clause-on c base b new g s = record {
  root_is = s.root_is ∙ g.root_is;
  budget_is = s.budget_is ∙ g.budget_is;
  grows = goes b.history new.history g.grows (rw (← g.budget_is, ← ap (λ r. r.equations) g.root_is) s.step);
}
