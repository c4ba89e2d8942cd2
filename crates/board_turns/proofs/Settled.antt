-- What settling a case does to the history, and what it says of boards that were seen.
use Rattle.std.specs.Prelude.{◌≡◌, ℕ, List, [], ◌∷◌, ◌++◌, IfOk, IfErr}
use Rattle.std.proofs.Common.{sym, ap, subst, ◌∙◌, ⊎_elim}
use Rattle.std.proofs.lemmas.List.{reverse-reverse}
use Rattle.std.specs.declared.option.Option.TheVariants.{Some}
use Rattle.std.specs.declared.result.Result.{Result}
use Rattle.std.specs.declared.result.Result.TheVariants.{Ok, Err}
use mathlib.Core.List.{IsPrefix}
use Rattle.leaf_cert.specs.declared.certificate.RawEntry.{RawEntry}
use Rattle.leaf_cert.specs.declared.certificate.RawEntry.TheVariants.{Split as split, Close as close}
use Rattle.case_rules.specs.Ends.{End}
use Rattle.case_history.specs.History.{publish}
use Rattle.legal_history.specs.Legal.{post}
use Rattle.case_ledger.specs.State.{BoardState}
use Rattle.case_ledger.specs.Board.{Settles, ClosesByStored, ClosesByItself}
use Rattle.case_ledger.specs.Origins.{origin_of, oldest_first, board_after}
use Rattle.case_ledger.specs.declared.answers.Reply.{Reply}
use Rattle.case_ledger.specs.declared.answers.Reply.TheVariants as reply
use Rattle.case_ledger.specs.declared.answers.Unsettled.{Unsettled}
use Rattle.case_ledger.specs.declared.kept_board.BoardOrigin.{BoardOrigin}
use Rattle.board_turns.specs.Jobs.{SettlesWith, SettlesOnce, SettlesLater}
use Rattle.board_turns.proofs.Boards.{after_same, begins_with}

-- the history of the new board ends with that of the old one
abbrev HasMore : BoardState → BoardState → Type 0
HasMore b new = (more : List RawEntry) × (new.history ≡ more ++ b.history)

more_by : (b new : BoardState) (n : ℕ) (o : End) (r : Reply) → Settles b n o r new → HasMore b new
more_by b new n o reply.NoCase s = ([], ap (λ (x : BoardState). x.history) s.1)
more_by b new n o (reply.AlreadySettled at) s = ([], ap (λ (x : BoardState). x.history) s.1)
more_by b new n o (reply.Closed k) s =
    ⊎_elim (λ (c : ClosesByStored b n k new). (close n k ∷ [], ap (λ (x : BoardState). x.history) c.is))
    (λ (c : ClosesByItself b n o k new). (close n k ∷ post c.refutation ∷ [], ap (λ (x : BoardState). x.history) c.is))
    s.1
more_by b new n o (reply.Split left right) s = (split n s.1.by ∷ [], ap (λ (x : BoardState). x.history) s.1.is)
more_by b new n o reply.Published s = (publish n s.1.leaf ∷ [], ap (λ (x : BoardState). x.history) s.1.is)

-- the history goes on
pub goes_on : (b new : BoardState) (n : ℕ) (o : End) (r : Result Reply Unsettled) → IfOk r (λ reply. Settles b n o reply new) → IfErr r (λ e. (e.outcome ≡ o) × (new ≡ b)) → IsPrefix (oldest_first b) (oldest_first new)
goes_on b new n o (Ok r) ok err = let more = more_by b new n o r ok in begins_with b.history new.history more.0 more.1
goes_on b new n o (Err e) ok err = begins_with b.history new.history [] (ap (λ (x : BoardState). x.history) err.1)

settled : (b new : BoardState) (n : ℕ) (o : End) (r : Result Reply Unsettled) → IfOk r (λ reply. Settles b n o reply new) → IfErr r (λ e. (e.outcome ≡ o) × (new ≡ b)) → SettlesWith b n (Some o) (Some r) new
settled b new n o (Ok r) ok err = ok
settled b new n o (Err e) ok err = err

-- what the board did, by the histories that were found and left
pub settled_once : (seen b new : BoardState) (n : ℕ) (o : End) (r : Result Reply Unsettled) → origin_of b ≡ origin_of seen → origin_of new ≡ origin_of b
    → IfOk r (λ reply. Settles b n o reply new) → IfErr r (λ e. (e.outcome ≡ o) × (new ≡ b))
    → SettlesOnce (record { seen = seen; n = n; outcome = Some o }) (oldest_first b) (oldest_first new) (Some r)
settled_once seen b new n o r same kept ok err =
    let at = sym (after_same seen b same) in
    let then = sym (after_same seen new (kept ∙ same)) in
    subst (λ (x : BoardState). SettlesWith (board_after (origin_of seen) (oldest_first b)) n (Some o) (Some r) x) then
    (subst (λ (x : BoardState). SettlesWith x n (Some o) (Some r) new) at (settled b new n o r ok err))

-- what a thread knows of it: the board that was found goes on from the one that it had seen
pub settled_later : (origin : BoardOrigin) (seen found left : List RawEntry) (n : ℕ) (o : End) (r : Result Reply Unsettled) → IsPrefix seen found
    → SettlesOnce (record { seen = board_after origin seen; n = n; outcome = Some o }) found left (Some r)
    → IfOk r (λ reply. SettlesLater (board_after origin seen) n o reply (board_after origin left))
settled_later origin seen found left n o (Ok r) begins s = record {
  found = found;
  begins = subst (λ (h : List RawEntry). IsPrefix h found) (sym (reverse-reverse seen)) begins;
  settles = s;
}
settled_later origin seen found left n o (Err e) begins s = tt
