-- What a replay keeps, and the history whose replay it is.
use Rattle.std.specs.Prelude.{◌≡◌, ◌<◌, ℕ, List, [], ◌∷◌, length, slice_get}
use Rattle.std.specs.declared.option.Option.{Option}
use Rattle.std.specs.declared.option.Option.TheVariants.{None, Some}
use denote.Ref.{Bor}
use Rattle.sparse_poly.specs.declared.Term.{Term}
use Rattle.derive_lines.specs.declared.parts.Decision.{Decision}
use Rattle.leaf_cert.specs.declared.certificate.RawEntry.{RawEntry}
use Rattle.case_history.specs.History.{Placed, fate, cases_made, decisions_of, patterns}
use Rattle.case_history.specs.Replay.{Replays}

-- of each case that was made its decisions, while it is pending, and the patterns, both in the order of their numbers
pub record ReplayParts : Type 0 where
  pub cases : List (Option (List Decision))
  pub stored : List (List Decision)

-- the lists to which borrows point
abbrev pub lists_of : List (Bor (List Decision)) → List (List Decision)
lists_of [] = []
lists_of (p ∷ ps) = p.now ∷ lists_of ps

-- what is kept of a case with these decisions: they, if no entry settled it
abbrev pub kept_of : Option Placed → List Decision → Option (List Decision)
kept_of None ds = Some ds
kept_of (Some p) ds = None

-- the history replays over the root, and this is what its replay keeps
pub record IsReplay (root : List (List Term)) (h : List RawEntry) (k : ReplayParts) : Type 0 where
  pub replays : Replays root h
  pub made : length k.cases ≡ cases_made h
  pub each : (n : ℕ) → n < cases_made h → slice_get k.cases n ≡ Some (kept_of (fate h n) (decisions_of h n))
  pub stored_are : k.stored ≡ patterns h

-- the decisions of no case are kept
abbrev pub AreAllSettled : List (Option (List Decision)) → Type 0
AreAllSettled cases = (n : ℕ) (ds : List Decision) → slice_get cases n ≡ Some (Some ds) → ⊥

-- place n is the first at which decisions are kept
pub record IsFirstKept (cases : List (Option (List Decision))) (n : ℕ) : Type 0 where
  pub decisions : List Decision
  pub is : slice_get cases n ≡ Some (Some decisions)
  pub first : (m : ℕ) (ds : List Decision) → m < n → slice_get cases m ≡ Some (Some ds) → ⊥
