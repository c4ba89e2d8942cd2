-- Boards that go on from others.
use Rattle.std.specs.Prelude.{◌≡◌, List, ◌++◌}
use Rattle.std.proofs.Common.{sym, ap, ◌∙◌, append_assoc}
use mathlib.Core.List.{IsPrefix}
use Rattle.leaf_cert.specs.declared.certificate.RawEntry.{RawEntry}
use Rattle.case_history.specs.History.{IsLeastPending}
use Rattle.legal_history.proofs.Serial.{grows_more}
use Rattle.case_ledger.specs.State.{BoardState}
use Rattle.case_ledger.specs.Board.{GoesOn}
use Rattle.case_ledger.specs.Origins.{origin_of, oldest_first, Continues}
use Rattle.case_ledger.specs.declared.kept_board.BoardOrigin.{BoardOrigin}
use Rattle.board_turns.proofs.Boards.{ends_with}

-- a board of the same root and budget, whose history begins with the other's
pub continues_by : (b new : BoardState) → origin_of new ≡ origin_of b → IsPrefix (oldest_first b) (oldest_first new) → Continues b new
continues_by b new same begins =
    let more = ends_with b.history new.history begins in
    record { root_is = ap (λ (o : BoardOrigin). o.root) same; budget_is = ap (λ (o : BoardOrigin). o.budget) same; more = more.0; history_is = more.1 }

-- first it goes on somehow, and then by the least pending cases
pub continues_on : (a b c : BoardState) → Continues a b → GoesOn IsLeastPending b c → Continues a c
continues_on a b c first then =
    let grown = grows_more b.root.equations b.budget IsLeastPending b.history c.history then.grows in
    record {
      root_is = then.root_is ∙ first.root_is;
      budget_is = then.budget_is ∙ first.budget_is;
      more = grown.0 ++ first.more;
      history_is = grown.1 ∙ ap (λ (h : List RawEntry). grown.0 ++ h) first.history_is ∙ sym (append_assoc grown.0 first.more a.history);
    }
