use Rattle.std.specs.Prelude.{◌≡◌, ◌≤◌, ℕ}
use Rattle.std.proofs.Common.{sym, subst}
use Rattle.std.proofs.lemmas.Result.{IfOk-weaker}
use Rattle.case_history.specs.History.{IsLeastPending}
use Rattle.case_ledger.specs.State.{BoardState}
use Rattle.case_ledger.specs.Board.{GoesOn}
use Rattle.case_ledger.specs.Origins.{Continues}
use Rattle.solve_run.proofs.Ranges.{head_in_range, root_below, unknowns_alone}
use Rattle.solve_run.proofs.Searched.{searched}
use Rattle.solve_run.proofs.search.certificate_of.Goals as goal

pub returns-clause-searched : goal.returns-clause-searched
returns-clause-searched g c =
    let root = c.args.root in
    let board = c.in_ok-board.board in
    let found = c.root-root.ensures in
    let goes = subst (λ (b : BoardState). Continues b board) c.in_ok-started.ensures c.in_ok-board.ensures.goes_on in
    let serially = subst (λ (b : BoardState). c.args.workers ≡ 1 → GoesOn IsLeastPending b board) c.in_ok-started.ensures c.in_ok-board.ensures.serial in
    IfOk-weaker c.certificate.result _ _
    (λ certificate made. (
      board.history,
      searched root c.args.budget c.args.workers board certificate goes serially c.in_ok-board.ensures.complete found.list found.legal made
          (c.complete_law.ensures root.equations c.args.budget board.history certificate)
          (c.tree_law.ensures root.equations c.args.budget board.history),
    ))
    c.certificate.ensures

pub returns-clause-head : goal.returns-clause-head
returns-clause-head g c =
    let board = c.in_ok-board.board in
    let goes = subst (λ (b : BoardState). Continues b board) c.in_ok-started.ensures c.in_ok-board.ensures.goes_on in
    let within = subst (λ (n : ℕ). n ≤ 1000000) (sym goes.budget_is) c.requires.budget in
    IfOk-weaker c.certificate.result _ _ (λ certificate made. head_in_range board certificate made c.root-root.ensures.form within) c.certificate.ensures

pub returns-clause-variables : goal.returns-clause-variables
returns-clause-variables g c =
    let board = c.in_ok-board.board in
    let root = c.root-root.ensures in
    let below = c.variables_law.ensures board.root.unknowns board.root.equations board.budget board.history root.list (root_below board.root root.form) root.legal in
    IfOk-weaker c.certificate.result _ _ (λ certificate made. unknowns_alone board certificate made below) c.certificate.ensures
