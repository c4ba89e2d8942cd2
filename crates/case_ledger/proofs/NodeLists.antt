-- The nodes of cases while a history goes on.
use Rattle.std.specs.Prelude.{◌≡◌, ◌≢◌, ◌<◌, ◌≤◌, ◌+◌, ℕ, zero, suc, Bool, true, false, cond, List, [], ◌∷◌, ◌++◌, length, slice_get, slice_set, count_by}
use Rattle.std.specs.List.{range_with_len}
use Rattle.std.specs.Option.{is_none}
use Rattle.std.specs.declared.option.Option.TheVariants.{Some}
use Rattle.std.proofs.Common.{arith, refl, ◌∙◌, ap, subst}
use Rattle.std.proofs.lemmas.Option.{none-some, same_Some}
use Rattle.std.proofs.lemmas.List.Sums.{sum_by-append}
use Rattle.leaf_cert.specs.declared.certificate.RawEntry.{RawEntry}
use Rattle.case_rules.specs.Cases.{CaseState}
use Rattle.case_history.specs.History.{settles, fate}
use Rattle.case_history.proofs.Fates.{fate-other, fate-same}
use Rattle.case_ledger.specs.Nodes.{is_pending, pending_in}
use Rattle.case_ledger.specs.Agreeing.{IsNode, AreNodes}
use Rattle.case_ledger.specs.declared.nodes.Node.{Node}
use Rattle.case_ledger.specs.declared.nodes.Node.TheVariants.{Pending, Settled}

-- the entry settles case n and no other
pub record SettlesJust (e : RawEntry) (n : ℕ) : Type 0 where
  pub here : (m : ℕ) → m ≡ n → settles e m ≡ true
  pub others : (m : ℕ) → m ≢ n → settles e m ≡ false

node_kept : (e : RawEntry) (h : List RawEntry) (n : ℕ) (c : CaseState) (node : Node) → settles e n ≡ false → IsNode h n c node → IsNode (e ∷ h) n c node
node_kept e h n c (Pending d) other is = (fate-other e h n other ∙ is.0, is.1)
node_kept e h n c (Settled at) other is = record { entry = is.entry; is = fate-other e h n other ∙ is.is }

-- nodes from n on stay where the entry settles none of their cases
pub nodes_kept : (e : RawEntry) (h : List RawEntry) (n : ℕ) (cases : List CaseState) (nodes : List Node) → ((m : ℕ) → n ≤ m → settles e m ≡ false) → AreNodes h n cases nodes → AreNodes (e ∷ h) n cases nodes
nodes_kept e h n [] [] others are = tt
nodes_kept e h n [] (node ∷ nodes) others are = are
nodes_kept e h n (c ∷ cases) [] others are = are
nodes_kept e h n (c ∷ cases) (node ∷ nodes) others are = (node_kept e h n c node (others n (omega arith)) are.0, nodes_kept e h (n + 1) cases nodes (λ m le. others m (omega (arith, le))) are.1)

-- the entry settles the case of node k, which is case m
pub nodes_settled : (e : RawEntry) (h : List RawEntry) (n k m : ℕ) (cases : List CaseState) (nodes : List Node) → m ≡ n + k → SettlesJust e m → k < length nodes → AreNodes h n cases nodes → AreNodes (e ∷ h) n cases (slice_set nodes k (Settled (length h)))
nodes_settled e h n k m [] [] at just lt are = absurd (omega (arith, lt))
nodes_settled e h n k m [] (node ∷ nodes) at just lt are = absurd are
nodes_settled e h n k m (c ∷ cases) [] at just lt are = absurd are
nodes_settled e h n zero m (c ∷ cases) (node ∷ nodes) at just lt are = (record { entry = e; is = fate-same e h n (just.here n (omega (arith, at))) }, nodes_kept e h (n + 1) cases nodes (λ i le. just.others i (λ same. omega (arith, same, le, at))) are.1)
nodes_settled e h n (suc k) m (c ∷ cases) (node ∷ nodes) at just lt are =
    (node_kept e h n c node (just.others n (λ same. omega (arith, same, at))) are.0, nodes_settled e h (n + 1) k m cases nodes (omega (arith, at)) just (omega (arith, lt)) are.1)

-- more cases, with their nodes
pub nodes_appended : (h : List RawEntry) (n : ℕ) (cases more : List CaseState) (nodes added : List Node) → AreNodes h n cases nodes → AreNodes h (n + length nodes) more added → AreNodes h n (cases ++ more) (nodes ++ added)
nodes_appended h n [] more [] added are rest = let same : n + 0 ≡ n = omega arith in subst (λ (i : ℕ). AreNodes h i more added) same rest
nodes_appended h n [] more (node ∷ nodes) added are rest = absurd are
nodes_appended h n (c ∷ cases) more [] added are rest = absurd are
nodes_appended h n (c ∷ cases) more (node ∷ nodes) added are rest =
    let same : n + suc (length nodes) ≡ n + 1 + length nodes = omega arith in
    (are.0, nodes_appended h (n + 1) cases more nodes added are.1 (subst (λ (i : ℕ). AreNodes h i more added) same rest))

-- a node is that of case m, which stands at place k
pub record HasCase (h : List RawEntry) (m k : ℕ) (cases : List CaseState) (node : Node) : Type 0 where
  pub c : CaseState
  pub is : slice_get cases k ≡ Some c
  pub is_node : IsNode h m c node

pub case_of_node : (h : List RawEntry) (n k m : ℕ) (cases : List CaseState) (nodes : List Node) (node : Node) → m ≡ n + k → AreNodes h n cases nodes → slice_get nodes k ≡ Some node → HasCase h m k cases node
case_of_node h n k m [] [] node at are is = absurd (none-some node is)
case_of_node h n k m [] (other ∷ nodes) node at are is = absurd are
case_of_node h n k m (c ∷ cases) [] node at are is = absurd are
case_of_node h n zero m (c ∷ cases) (other ∷ nodes) node at are is =
    let same : n ≡ m = omega (arith, at) in
    record { c = c; is = refl; is_node = subst (λ (i : ℕ). IsNode h i c node) same (subst (IsNode h n c) (same_Some other node is) are.0) }
case_of_node h n (suc k) m (c ∷ cases) (other ∷ nodes) node at are is =
    let found = case_of_node h (n + 1) k m cases nodes node (omega (arith, at)) are.1 is in
    record { c = found.c; is = found.is; is_node = found.is_node }

pub length-nodes : (h : List RawEntry) (n : ℕ) (cases : List CaseState) (nodes : List Node) → AreNodes h n cases nodes → length nodes ≡ length cases
length-nodes h n [] [] are = refl
length-nodes h n [] (node ∷ nodes) are = absurd are
length-nodes h n (c ∷ cases) [] are = absurd are
length-nodes h n (c ∷ cases) (node ∷ nodes) are = ap suc (length-nodes h (n + 1) cases nodes are.1)

-- what a member adds to a count
abbrev pub one_if : Bool → ℕ
one_if b = cond b 1 0

count-cons : {X : Type 0} (p : X → Bool) (x : X) (xs : List X) → count_by p (x ∷ xs) ≡ one_if (p x) + count_by p xs
count-cons p x xs = let s : count_by p (x ∷ xs) ≡ 0 + one_if (p x) + count_by p xs = sum_by-append (λ y. one_if (p y)) (x ∷ []) xs in omega (arith, s)

-- a node is pending exactly if its case is not settled
pending_told : (h : List RawEntry) (n : ℕ) (c : CaseState) (node : Node) → IsNode h n c node → is_pending node ≡ is_none (fate h n)
pending_told h n c (Pending d) is = rw is.0 refl
pending_told h n c (Settled at) is = rw is.is refl

-- the nodes of pending cases are as many as the cases that are not settled
pub pending_counted : (h : List RawEntry) (n : ℕ) (cases : List CaseState) (nodes : List Node) → AreNodes h n cases nodes → pending_in nodes ≡ count_by (λ (m : ℕ). is_none (fate h m)) (range_with_len n (length nodes))
pending_counted h n [] [] are = refl
pending_counted h n [] (node ∷ nodes) are = absurd are
pending_counted h n (c ∷ cases) [] are = absurd are
pending_counted h n (c ∷ cases) (node ∷ nodes) are =
    let here : one_if (is_pending node) ≡ one_if (is_none (fate h n)) = ap one_if (pending_told h n c node are.0) in
    omega (arith, here, count-cons is_pending node nodes, count-cons (λ (m : ℕ). is_none (fate h m)) n (range_with_len (n + 1) (length nodes)), pending_counted h (n + 1) cases nodes are.1)
