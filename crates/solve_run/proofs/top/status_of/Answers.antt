use Rattle.std.specs.Prelude.{◌<◌, ℕ}
use Rattle.std.proofs.Common.{sym, ◌∙◌, subst, arith}
use Rattle.case_history.specs.Counts.{leaf_count, open_count}
use Rattle.solve_run.specs.Outcomes.{Counts, none_open, some_open}
use Rattle.solve_run.specs.declared.status.Status.TheVariants.{Done, Open}
use Rattle.solve_run.proofs.top.status_of.Goals as goal

pub returns-in-0 : goal.returns-in-0
returns-in-0 c =
    let entries = c.args.entries.now in
    subst (λ (n : ℕ). Counts entries (Done n)) (sym c.leaf_count-leaves.ensures) (none_open (sym c.open_count.ensures ∙ c.in-0.is))

pub returns-in_default : goal.returns-in_default
returns-in_default c =
    let entries = c.args.entries.now in
    let some : 0 < c.open_count.result = omega arith in
    let counts : Counts entries (Open (leaf_count entries) (open_count entries)) = some_open (subst (λ (n : ℕ). 0 < n) c.open_count.ensures some) in
    subst (λ (n : ℕ). Counts entries (Open n c.open_count.result)) (sym c.leaf_count-leaves.ensures) (subst (λ (n : ℕ). Counts entries (Open (leaf_count entries) n)) (sym c.open_count.ensures) counts)
