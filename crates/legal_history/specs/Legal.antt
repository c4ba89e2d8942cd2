-- Legal histories: each entry is made by the end of a case or by the least live pattern within its decisions.
use Rattle.std.specs.Prelude.{◌≡◌, ℕ, List, [], ◌∷◌, ◌++◌, length, slice_get}
use Rattle.std.specs.declared.option.Option.TheVariants.{Some}
use Rattle.sparse_poly.specs.declared.Term.{Term}
use Rattle.refute_store.specs.Live.{IsLeastLiveWithin, HasNoneWithin}
use Rattle.refute_cert.specs.Parts.{RefutationParts}
use Rattle.leaf_cert.specs.Parts.{LeafParts}
use Rattle.leaf_cert.specs.declared.certificate.RawEntry.{RawEntry}
use Rattle.leaf_cert.specs.declared.certificate.RawEntry.TheVariants.{Split as split, Post as posted, Close as close, Publish as published}
use Rattle.case_rules.specs.Cases.{CaseState, root_case}
use Rattle.case_rules.specs.Ends.{End, IsEnd}
use Rattle.case_rules.specs.declared.outcome.Outcome.TheVariants.{Split, Dead, Leaf as leaf_end}
use Rattle.case_history.specs.History.{publish, IsPending, IsLeastPending, decisions_of, patterns}

-- the entry that posts the pattern of a refutation
abbrev pub post : RefutationParts → RawEntry
post r = posted r.pattern r.lines r.end

-- the cases before a split of case n, and then both its branches
pub record AreSplitCases (root : List (List Term)) (budget : ℕ) (before : List CaseState) (n : ℕ) (by : List Term) (cases : List CaseState) : Type 0 where
  pub parent : CaseState
  pub zero : CaseState
  pub nonzero : CaseState
  pub is_parent : slice_get before n ≡ Some parent
  pub is_end : IsEnd root budget parent (Split by zero nonzero)
  pub all : cases ≡ before ++ zero ∷ nonzero ∷ []

-- all cases that were made, in the order of their numbers
abbrev pub AreCases : List (List Term) → ℕ → List RawEntry → List CaseState → Type 0
AreCases root budget [] cases = cases ≡ root_case root ∷ []
AreCases root budget (split n by ∷ h) cases = (before : List CaseState) × AreCases root budget h before × AreSplitCases root budget before n by cases
AreCases root budget (posted ds ls end ∷ h) cases = AreCases root budget h cases
AreCases root budget (close n k ∷ h) cases = AreCases root budget h cases
AreCases root budget (published n ds ls es end ∷ h) cases = AreCases root budget h cases

-- case n is c
pub record IsCase (root : List (List Term)) (budget : ℕ) (h : List RawEntry) (n : ℕ) (c : CaseState) : Type 0 where
  pub cases : List CaseState
  pub are : AreCases root budget h cases
  pub is : slice_get cases n ≡ Some c

-- the end of case n is o
pub record IsEndOf (root : List (List Term)) (budget : ℕ) (h : List RawEntry) (n : ℕ) (o : End) : Type 0 where
  pub c : CaseState
  pub is_case : IsCase root budget h n c
  pub is_end : IsEnd root budget c o

-- no live pattern is within the decisions of case n, and its end is o
pub record EndsLiving (root : List (List Term)) (budget : ℕ) (h : List RawEntry) (n : ℕ) (o : End) : Type 0 where
  pub none : HasNoneWithin (patterns h) (decisions_of h n)
  pub is_end : IsEndOf root budget h n o

-- One step, from history h to another, for a case that `next` allows.
pub data Step (root : List (List Term)) (budget : ℕ) (next : List RawEntry → ℕ → Type 0) (h : List RawEntry) : List RawEntry → Type 0 where
  -- case n is closed by the least live pattern within its decisions
  closes : (n k : ℕ) → next h n → IsLeastLiveWithin (patterns h) (decisions_of h n) k → Step root budget next h (close n k ∷ h)
  -- case n is dead: the pattern of its refutation is posted, and closes it
  refutes : (n : ℕ) (r : RefutationParts) → next h n → EndsLiving root budget h n (Dead r) → Step root budget next h (close n (length (patterns h)) ∷ post r ∷ h)
  -- case n is split
  splits : (n : ℕ) (by : List Term) (zero nonzero : CaseState) → next h n → EndsLiving root budget h n (Split by zero nonzero) → Step root budget next h (split n by ∷ h)
  -- the leaf of case n is published
  publishes : (n : ℕ) (l : LeafParts) → next h n → EndsLiving root budget h n (leaf_end l) → Step root budget next h (publish n l ∷ h)

-- a history that goes on from another by steps
pub data Grows (root : List (List Term)) (budget : ℕ) (next : List RawEntry → ℕ → Type 0) (base : List RawEntry) : List RawEntry → Type 0 where
  stays : Grows root budget next base base
  goes : (before after : List RawEntry) → Grows root budget next base before → Step root budget next before after → Grows root budget next base after

-- a legal history: it goes on from none, and any pending case may be settled next
abbrev pub IsLegal : List (List Term) → ℕ → List RawEntry → Type 0
IsLegal root budget h = Grows root budget IsPending [] h

-- a serial history: always the least pending case is settled next
abbrev pub IsSerial : List (List Term) → ℕ → List RawEntry → Type 0
IsSerial root budget h = Grows root budget IsLeastPending [] h
