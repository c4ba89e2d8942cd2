-- What is kept beside the nodes: the place of the first of a pending case, and how many there are.
use Rattle.std.specs.Prelude.{◌≡◌, ◌≢◌, ◌<◌, ◌≤◌, ◌+◌, ◌-◌, ℕ, zero, suc, List, [], ◌∷◌, ◌++◌, length, slice_get, slice_set, slice_index_or}
use Rattle.std.proofs.Common.{arith, refl, ap, append_assoc}
use Rattle.std.proofs.lemmas.Option.{same_Some, slice_get_within, get_or_from_slice_get}
use Rattle.std.proofs.lemmas.List.Sums.{sum_by-append, sum_by-set, count_by-le-length}
use Rattle.case_rules.specs.Cases.{CaseState}
use Rattle.case_ledger.specs.Nodes.{IsPendingNode, HasNoneBelow, IsNext, AreCounted, is_pending, pending_in}
use Rattle.case_ledger.proofs.NodeLists.{one_if}
use Rattle.case_ledger.specs.declared.nodes.Node.{Node}
use Rattle.case_ledger.specs.declared.nodes.Node.TheVariants.{Pending, Settled}

get-set_other : {X : Type 0} (xs : List X) (n m : ℕ) (v : X) → m ≢ n → slice_get (slice_set xs n v) m ≡ slice_get xs m
get-set_other [] n m v other = refl
get-set_other (x ∷ xs) zero zero v other = absurd (other refl)
get-set_other (x ∷ xs) zero (suc m) v other = refl
get-set_other (x ∷ xs) (suc n) zero v other = refl
get-set_other (x ∷ xs) (suc n) (suc m) v other = get-set_other xs n m v (λ e. other (ap suc e))

-- a settled node is not pending, and others are as they were
pub settled_no_more : (nodes : List Node) (n k at : ℕ) → IsPendingNode (slice_set nodes n (Settled at)) k → IsPendingNode nodes k
settled_no_more [] n k at p = p
settled_no_more (node ∷ nodes) zero zero at p = absurd (not_both p.0 at (same_Some _ _ p.1))
  where
    not_both : (c : CaseState) (i : ℕ) → Settled i ≡ Pending c → ⊥
    not_both c i same = cc
settled_no_more (node ∷ nodes) zero (suc k) at p = p
settled_no_more (node ∷ nodes) (suc n) zero at p = p
settled_no_more (node ∷ nodes) (suc n) (suc k) at p = settled_no_more nodes n k at p

-- nodes that are added at the end are above those before
pub before_added : (nodes more : List Node) (k : ℕ) → k < length nodes → IsPendingNode (nodes ++ more) k → IsPendingNode nodes k
before_added [] more k lt p = absurd (omega (arith, lt))
before_added (node ∷ nodes) more zero lt p = p
before_added (node ∷ nodes) more (suc k) lt p = before_added nodes more k (omega (arith, lt)) p

-- one node fewer is pending
pub one_fewer : (nodes : List Node) (n at : ℕ) → IsPendingNode nodes n → pending_in (slice_set nodes n (Settled at)) + 1 ≡ pending_in nodes
one_fewer nodes n at p =
    let s : pending_in (slice_set nodes n (Settled at)) + one_if (is_pending (slice_index_or nodes n (Settled at))) ≡ pending_in nodes + 0 = sum_by-set (λ (node : Node). one_if (is_pending node)) nodes n (Settled at) (Settled at) (slice_get_within nodes n (Pending p.0) p.1) in
    let one : ◌≡◌ {A = ℕ} (one_if (is_pending (slice_index_or nodes n (Settled at)))) 1 = ap (λ (node : Node). one_if (is_pending node)) (get_or_from_slice_get nodes n (Pending p.0) (Settled at) p.1) in
    omega (arith, s, one)

-- two nodes more are pending
pub two_more : (nodes : List Node) (z x : CaseState) → pending_in (nodes ++ Pending z ∷ Pending x ∷ []) ≡ pending_in nodes + 2
two_more nodes z x = let s : pending_in (nodes ++ Pending z ∷ Pending x ∷ []) ≡ pending_in nodes + 2 = sum_by-append (λ (node : Node). one_if (is_pending node)) nodes (Pending z ∷ Pending x ∷ []) in s

pub pending_within : (nodes : List Node) → pending_in nodes ≤ length nodes
pending_within nodes = count_by-le-length is_pending nodes

pub none_below_settled : (nodes : List Node) (n at next : ℕ) → HasNoneBelow nodes next → HasNoneBelow (slice_set nodes n (Settled at)) next
none_below_settled nodes n at next none = λ k lt p. none k lt (settled_no_more nodes n k at p)

pub none_below_added : (nodes more : List Node) (next : ℕ) → next ≤ length nodes → HasNoneBelow nodes next → HasNoneBelow (nodes ++ more) next
none_below_added nodes more next le none = λ k lt p. none k lt (before_added nodes more k (omega (arith, le, lt)) p)

-- the count of one pending case
pub one_counted : (c : CaseState) → AreCounted (Pending c ∷ []) 0 1
one_counted c = record { is_next = record { first = λ k lt p. omega (arith, lt); within = omega arith; pending = λ lt. (c, refl) }; pending_is = refl }

-- the count after a case was settled
pub settled_counted : (nodes : List Node) (n at next pending new : ℕ) → AreCounted nodes next pending → IsPendingNode nodes n → IsNext (slice_set nodes n (Settled at)) new → AreCounted (slice_set nodes n (Settled at)) new (pending - 1)
settled_counted nodes n at next pending new counted p is = record { is_next = is; pending_is = omega (arith, one_fewer nodes n at p, counted.pending_is) }

-- and after two were added too
pub split_counted : (nodes : List Node) (z x : CaseState) (n at next pending new : ℕ) → AreCounted nodes next pending → IsPendingNode nodes n → IsNext (slice_set nodes n (Settled at) ++ Pending z ∷ Pending x ∷ []) new → AreCounted (slice_set nodes n (Settled at) ++ Pending z ∷ Pending x ∷ []) new (pending + 1)
split_counted nodes z x n at next pending new counted p is = record { is_next = is; pending_is = omega (arith, one_fewer nodes n at p, two_more (slice_set nodes n (Settled at)) z x, counted.pending_is) }

pub two_pushed : (nodes : List Node) (z x : Node) → (nodes ++ z ∷ []) ++ x ∷ [] ≡ nodes ++ z ∷ x ∷ []
two_pushed nodes z x = append_assoc nodes (z ∷ []) (x ∷ [])
