-- Boards by their histories, the oldest entry first.
use Rattle.std.specs.Prelude.{◌≡◌, ℕ, List, ◌++◌, reverse}
use Rattle.std.proofs.Common.{sym, ap, subst, ◌∙◌}
use Rattle.std.proofs.lemmas.List.{reverse-append, reverse-reverse}
use mathlib.Core.List.{IsPrefix}
use Rattle.sparse_poly.specs.declared.Term.{Term}
use Rattle.leaf_cert.specs.declared.certificate.RawEntry.{RawEntry}
use Rattle.case_rules.specs.Belonging.{IsRootList}
use Rattle.case_rules.specs.Ends.{End}
use Rattle.legal_history.specs.Legal.{IsEndOf, IsLegal}
use Rattle.case_ledger.specs.State.{BoardState}
use Rattle.case_ledger.specs.Origins.{origin_of, oldest_first, board_after}
use Rattle.case_ledger.specs.declared.kept_board.BoardOrigin.{BoardOrigin}

-- a board is the one of its root and budget after its history
pub after_own : (b : BoardState) → board_after (origin_of b) (oldest_first b) ≡ b
after_own b = ap (λ (h : List RawEntry). record { root = b.root; budget = b.budget; history = h }) (reverse-reverse b.history)

-- a board is the one of the root and the budget of another, where they are the same
pub after_same : (seen b : BoardState) → origin_of b ≡ origin_of seen → board_after (origin_of seen) (oldest_first b) ≡ b
after_same seen b same = ap (λ (o : BoardOrigin). board_after o (oldest_first b)) (sym same) ∙ after_own b

-- what begins with other entries, the oldest first, ends with them, the newest first
pub ends_with : (base h : List RawEntry) → IsPrefix (reverse base) (reverse h) → (more : List RawEntry) × (h ≡ more ++ base)
ends_with base h p = (
  reverse p.0,
  sym (reverse-reverse h) ∙ ap reverse (sym p.1) ∙ reverse-append (reverse base) p.0 ∙ ap (λ (l : List RawEntry). reverse p.0 ++ l) (reverse-reverse base),
)

-- and the other way round
pub begins_with : (base h more : List RawEntry) → h ≡ more ++ base → IsPrefix (reverse base) (reverse h)
begins_with base h more e = (reverse more, sym (reverse-append more base) ∙ ap reverse (sym e))

-- the end of a case on a board is its end on each board that goes on from it
pub end_later : (seen b : BoardState) (n : ℕ) (o : End) → origin_of b ≡ origin_of seen → IsPrefix (oldest_first seen) (oldest_first b)
    → IsRootList b.root.equations → IsLegal b.root.equations b.budget b.history
    → ((root : List (List Term)) (budget : ℕ) (more base : List RawEntry) (m : ℕ) (e : End) → IsRootList root → IsEndOf root budget base m e → IsLegal root budget (more ++ base) → IsEndOf root budget (more ++ base) m e)
    → IsEndOf seen.root.equations seen.budget seen.history n o
    → IsEndOf b.root.equations b.budget b.history n o
end_later seen b n o same begins listed legal law ends =
    let more = ends_with seen.history b.history begins in
    let here = subst (λ (q : BoardOrigin). IsEndOf q.root.equations q.budget seen.history n o) (sym same) ends in
    let grown = subst (λ (h : List RawEntry). IsLegal b.root.equations b.budget h) more.1 legal in
    subst (λ (h : List RawEntry). IsEndOf b.root.equations b.budget h n o) (sym more.1) (law _ _ more.0 seen.history n o listed here grown)
