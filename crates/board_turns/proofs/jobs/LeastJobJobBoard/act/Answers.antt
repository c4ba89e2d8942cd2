use Rattle.std.specs.Prelude.{List, MatchOption}
use Rattle.std.proofs.Common.{refl, sym, subst}
use Rattle.std.proofs.lemmas.List.{reverse-reverse}
use Rattle.leaf_cert.specs.declared.certificate.RawEntry.{RawEntry}
use Rattle.case_history.specs.History.{IsLeastPending, IsComplete}
use Rattle.board_turns.proofs.jobs.LeastJobJobBoard.act.Goals as goal

pub returns-clause-test : goal.returns-clause-test
returns-clause-test c = (
  refl,
  subst (λ (h : List RawEntry). MatchOption c.least_pending.result (IsComplete h) (IsLeastPending h)) (sym (reverse-reverse c.args.board.now.history)) c.least_pending.ensures,
)
