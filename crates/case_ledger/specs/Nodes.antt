-- What a board keeps of each case.
use Rattle.std.specs.Prelude.{◌≡◌, ◌<◌, ◌≤◌, ℕ, Bool, true, false, List, length, slice_get, count_by}
use Rattle.std.specs.declared.option.Option.TheVariants.{Some}
use Rattle.case_rules.specs.Cases.{CaseState}
use Rattle.case_ledger.specs.declared.nodes.Node.{Node}
use Rattle.case_ledger.specs.declared.nodes.Node.TheVariants.{Pending, Settled}

-- node k is of a pending case
abbrev pub IsPendingNode : List Node → ℕ → Type 0
IsPendingNode nodes k = (c : CaseState) × (slice_get nodes k ≡ Some (Pending c))

-- no node is of a pending case
abbrev pub HasNoPending : List Node → Type 0
HasNoPending nodes = (k : ℕ) → IsPendingNode nodes k → ⊥

-- no node below n is of a pending case
abbrev pub HasNoneBelow : List Node → ℕ → Type 0
HasNoneBelow nodes n = (k : ℕ) → k < n → IsPendingNode nodes k → ⊥

-- node n is the first of a pending case
pub record IsFirstPending (nodes : List Node) (n : ℕ) : Type 0 where
  pub pending : IsPendingNode nodes n
  pub first : HasNoneBelow nodes n

-- n is the place of the first node of a pending case, and where there is none, the number of nodes
pub record IsNext (nodes : List Node) (n : ℕ) : Type 0 where
  pub first : HasNoneBelow nodes n
  pub within : n ≤ length nodes
  pub pending : n < length nodes → IsPendingNode nodes n

abbrev pub is_pending : Node → Bool
is_pending (Pending c) = true
is_pending (Settled at) = false

-- how many nodes are of pending cases
abbrev pub pending_in : List Node → ℕ
pending_in nodes = count_by is_pending nodes

-- what is kept beside the nodes: the place of the first of a pending case, and how many there are
pub record AreCounted (nodes : List Node) (next pending : ℕ) : Type 0 where
  pub is_next : IsNext nodes next
  pub pending_is : pending ≡ pending_in nodes
