-- A board that went on from a new one until no case was pending, and its certificate.
use Rattle.std.specs.Prelude.{◌≡◌, ℕ, [], length, reverse}
use Rattle.std.proofs.Common.{subst, ap, ◌∙◌}
use Rattle.leaf_cert.specs.declared.certificate.Certificate.{Certificate}
use Rattle.root_system.specs.Forms.{RootEquations}
use Rattle.case_rules.specs.Belonging.{IsRootList}
use Rattle.case_history.specs.History.{IsLeastPending, IsComplete}
use Rattle.case_history.specs.Replay.{Accepted}
use Rattle.legal_history.specs.Legal.{IsLegal}
use Rattle.legal_history.specs.Tree.{AreTreeLeaves}
use Rattle.case_ledger.specs.State.{BoardState}
use Rattle.case_ledger.specs.Board.{IsCertificate, GoesOn}
use Rattle.case_ledger.specs.Origins.{Continues}
use Rattle.solve_run.specs.Outcomes.{IsSearched}

pub searched : (root : RootEquations) (budget workers : ℕ) (b : BoardState) (c : Certificate)
    → Continues (record { root = root; budget = budget; history = [] }) b → (workers ≡ 1 → GoesOn IsLeastPending (record { root = root; budget = budget; history = [] }) b)
    → IsComplete b.history → IsRootList b.root.equations → IsLegal b.root.equations b.budget b.history → IsCertificate b c
    → (IsRootList root.equations → IsLegal root.equations budget b.history → IsComplete b.history → c.equations ≡ length root.equations → c.entries ≡ reverse b.history → Accepted c.unknowns root.equations c)
    → (IsRootList root.equations → IsLegal root.equations budget b.history → AreTreeLeaves root.equations budget b.history)
    → IsSearched root budget workers b.history c
searched root budget workers b c goes serially complete listed lawful made complete_law tree_law =
    let list : IsRootList root.equations = subst (λ (r : RootEquations). IsRootList r.equations) goes.root_is listed in
    let of_root : IsLegal root.equations b.budget b.history = subst (λ (r : RootEquations). IsLegal r.equations b.budget b.history) goes.root_is lawful in
    let legal : IsLegal root.equations budget b.history = subst (λ (n : ℕ). IsLegal root.equations n b.history) goes.budget_is of_root in
    let unknowns = made.unknowns ∙ ap (λ (r : RootEquations). r.unknowns) goes.root_is in
    let equations = made.equations ∙ ap (λ (r : RootEquations). length r.equations) goes.root_is in
    record {
      has_parts = record { unknowns = unknowns; equations = equations; budget = made.budget ∙ goes.budget_is; entries = made.entries };
      legal = legal;
      serial = λ one. (serially one).grows;
      complete = complete;
      accepted = subst (λ (n : ℕ). Accepted n root.equations c) unknowns (complete_law list legal complete equations made.entries);
      tree = tree_law list legal;
    }
