-- What a board keeps agrees with its history, and goes on to do so when a case is settled.
use Rattle.std.specs.Prelude.{◌≡◌, ◌≤◌, ◌+◌, ◌==◌, ℕ, suc, List, [], ◌∷◌, ◌++◌, length, slice_get, slice_set, count_by, MatchOption}
use Rattle.std.specs.List.{range_with_len}
use Rattle.std.specs.Option.{is_none, option_map}
use Rattle.std.specs.declared.option.Option.{Option}
use Rattle.std.specs.declared.option.Option.TheVariants.{None, Some}
use Rattle.std.proofs.Common.{arith, refl, sym, ◌∙◌, ap, subst, inl, inr}
use Rattle.std.proofs.lemmas.Option.{none-some, slice_get_cases, slice_get_within, slice_get-map, get_or_from_slice_get}
use Rattle.std.proofs.lemmas.List.{length-map, length-set, map-append}
use Rattle.sparse_poly.specs.declared.Term.{Term}
use Rattle.derive_lines.specs.declared.parts.Decision.{Decision}
use Rattle.refute_store.specs.Live.{IsLeastLiveWithin, HasNoneWithin}
use Rattle.refute_cert.specs.Parts.{RefutationParts}
use Rattle.leaf_cert.specs.Parts.{LeafParts}
use Rattle.leaf_cert.specs.declared.certificate.RawEntry.{RawEntry}
use Rattle.leaf_cert.specs.declared.certificate.RawEntry.TheVariants.{Split as split, Close as close}
use Rattle.case_rules.specs.Cases.{CaseState, root_case}
use Rattle.case_rules.specs.Belonging.{IsRootList}
use Rattle.case_rules.specs.EndLaws.{AreBranches}
use Rattle.case_rules.specs.declared.outcome.Outcome.TheVariants.{Split as split_end, Dead as dead_end, Leaf as leaf_end}
use Rattle.case_history.specs.History.{publish, settles, fate, case_decisions, cases_made, decisions_of, patterns, IsPending, IsLeastPending, IsComplete}
use Rattle.case_history.proofs.Numbers.{not_same, same_test}
use Rattle.case_history.proofs.Fates.{fate-other, unmade}
use Rattle.legal_history.specs.Legal.{post, IsCase, EndsLiving, closes, refutes, splits, publishes, stays, goes}
use Rattle.case_ledger.specs.CaseLaws.{AreCaseLaws}
use Rattle.case_ledger.specs.Nodes.{IsPendingNode, HasNoPending, IsFirstPending, pending_in}
use Rattle.case_ledger.specs.Board.{IsSettledAt, pending_count}
use Rattle.case_ledger.specs.Agreeing.{AreNodes, decisions_of_cases, Agrees}
use Rattle.case_ledger.specs.declared.nodes.Node.{Node}
use Rattle.case_ledger.specs.declared.nodes.Node.TheVariants.{Pending, Settled}
use Rattle.case_ledger.proofs.NodeLists.{SettlesJust, nodes_kept, nodes_settled, nodes_appended, case_of_node, length-nodes, pending_counted}

settles_just : (e : RawEntry) (n : ℕ) → ((m : ℕ) → settles e m ≡ (n == m)) → SettlesJust e n
settles_just e n tests = record { here = λ m same. tests m ∙ same_test n m same; others = λ m other. tests m ∙ not_same n m (λ same. other (sym same)) }

module _ (root : List (List Term)) (budget : ℕ) where
  -- the first board
  pub first_agrees : IsRootList root → Agrees root budget [] (Pending (root_case root) ∷ []) []
  first_agrees listed = record { listed = listed; legal = stays; cases = root_case root ∷ []; are = refl; decisions_are = refl; nodes_are = ((refl, refl), tt); patterns_are = refl }

  -- there are as many nodes as cases
  pub node_count : (h : List RawEntry) (nodes : List Node) (ps : List (List Decision)) → Agrees root budget h nodes ps → length nodes ≡ cases_made h
  node_count h nodes ps a = length-nodes h 0 a.cases nodes a.nodes_are ∙ (sym (length-map a.cases (λ (c : CaseState). c.decisions)) ∙ ap length a.decisions_are)

  -- where there is no node no case was made
  pub no_node : (h : List RawEntry) (nodes : List Node) (ps : List (List Decision)) (n : ℕ) → Agrees root budget h nodes ps → slice_get nodes n ≡ None → cases_made h ≤ n
  no_node h nodes ps n a none = elim (slice_get_cases nodes n).1 [ inl found ↦ absurd (none-some found.0 (sym none ∙ found.2)) | inr past ↦ omega (arith, past.0, node_count h nodes ps a) ]

  pub settled_node : (h : List RawEntry) (nodes : List Node) (ps : List (List Decision)) (n at : ℕ) → Agrees root budget h nodes ps → slice_get nodes n ≡ Some (Settled at) → IsSettledAt h n at
  settled_node h nodes ps n at a is = (case_of_node h 0 n n a.cases nodes (Settled at) (omega arith) a.nodes_are is).is_node

  pub pending_node : (h : List RawEntry) (nodes : List Node) (ps : List (List Decision)) (n : ℕ) (c : CaseState) → Agrees root budget h nodes ps → slice_get nodes n ≡ Some (Pending c) → IsPending h n × IsCase root budget h n c
  pending_node h nodes ps n c a is =
      let found = case_of_node h 0 n n a.cases nodes (Pending c) (omega arith) a.nodes_are is in
      (record { made = omega (arith, slice_get_within nodes n (Pending c) is, node_count h nodes ps a); unsettled = found.is_node.0 }, record { cases = a.cases; are = a.are; is = found.is ∙ ap Some (sym found.is_node.1) })

  -- a pending case has its node
  pub node_of_pending : (h : List RawEntry) (nodes : List Node) (ps : List (List Decision)) (n : ℕ) → Agrees root budget h nodes ps → IsPending h n → IsPendingNode nodes n
  node_of_pending h nodes ps n a p = go (slice_get nodes n) refl
    where
      go : (o : Option Node) → slice_get nodes n ≡ o → IsPendingNode nodes n
      go None is = absurd (omega (arith, no_node h nodes ps n a is, p.made))
      go (Some (Pending c)) is = (c, is)
      go (Some (Settled at)) is = absurd (none-some _ (sym p.unsettled ∙ (settled_node h nodes ps n at a is).is))

  -- as many nodes are pending as cases
  pub count_pending : (h : List RawEntry) (nodes : List Node) (ps : List (List Decision)) → Agrees root budget h nodes ps → pending_in nodes ≡ pending_count h
  count_pending h nodes ps a = pending_counted h 0 a.cases nodes a.nodes_are ∙ ap (λ (i : ℕ). count_by (λ (m : ℕ). is_none (fate h m)) (range_with_len 0 i)) (node_count h nodes ps a)

  -- the first pending node is that of the least pending case
  pub least_node : (h : List RawEntry) (nodes : List Node) (ps : List (List Decision)) (o : Option ℕ) → Agrees root budget h nodes ps → MatchOption o (HasNoPending nodes) (IsFirstPending nodes) → MatchOption o (IsComplete h) (IsLeastPending h)
  least_node h nodes ps None a none = λ n p. none n (node_of_pending h nodes ps n a p)
  least_node h nodes ps (Some n) a first = record { pending = (pending_node h nodes ps n first.pending.0 a first.pending.1).0; least = λ m lt p. first.first m lt (node_of_pending h nodes ps m a p) }

  -- the decisions of case n are those of the case
  decisions_at : (h : List RawEntry) (n : ℕ) (cases : List CaseState) (c : CaseState) → decisions_of_cases cases ≡ case_decisions h → slice_get cases n ≡ Some c → decisions_of h n ≡ c.decisions
  decisions_at h n cases c are is = get_or_from_slice_get (case_decisions h) n c.decisions [] (ap (λ (l : List (List Decision)). slice_get l n) (sym are) ∙ (slice_get-map (λ (d : CaseState). d.decisions) cases n ∙ ap (option_map (λ (d : CaseState). d.decisions)) is))

  pub same_decisions : (h : List RawEntry) (nodes : List Node) (ps : List (List Decision)) (n : ℕ) (c : CaseState) → Agrees root budget h nodes ps → slice_get nodes n ≡ Some (Pending c) → decisions_of h n ≡ c.decisions
  same_decisions h nodes ps n c a is =
      let found = case_of_node h 0 n n a.cases nodes (Pending c) (omega arith) a.nodes_are is in
      decisions_at h n a.cases c a.decisions_are (found.is ∙ ap Some (sym found.is_node.1))

  pub covered_node : (h : List RawEntry) (nodes : List Node) (ps : List (List Decision)) (n k : ℕ) (c : CaseState) → Agrees root budget h nodes ps → slice_get nodes n ≡ Some (Pending c) → IsLeastLiveWithin ps c.decisions k → IsPending h n × IsLeastLiveWithin (patterns h) (decisions_of h n) k
  covered_node h nodes ps n k c a is l = ((pending_node h nodes ps n c a is).0, rw (← a.patterns_are, same_decisions h nodes ps n c a is) l)

  pub uncovered_node : (h : List RawEntry) (nodes : List Node) (ps : List (List Decision)) (n : ℕ) (c : CaseState) → Agrees root budget h nodes ps → slice_get nodes n ≡ Some (Pending c) → HasNoneWithin ps c.decisions → IsPending h n × HasNoneWithin (patterns h) (decisions_of h n)
  uncovered_node h nodes ps n c a is l = ((pending_node h nodes ps n c a is).0, rw (← a.patterns_are, same_decisions h nodes ps n c a is) l)

  -- the nodes after an entry that settles case n
  settled_nodes : (e : RawEntry) (h : List RawEntry) (nodes : List Node) (ps : List (List Decision)) (n : ℕ) → (a : Agrees root budget h nodes ps) → IsPending h n → ((m : ℕ) → settles e m ≡ (n == m)) → AreNodes (e ∷ h) 0 a.cases (slice_set nodes n (Settled (length h)))
  settled_nodes e h nodes ps n a p tests = nodes_settled e h 0 n n a.cases nodes (omega arith) (settles_just e n tests) (omega (arith, p.made, node_count h nodes ps a)) a.nodes_are

  -- case n is closed
  pub agrees_close : (h : List RawEntry) (nodes : List Node) (ps : List (List Decision)) (n k : ℕ) → Agrees root budget h nodes ps → IsPending h n → IsLeastLiveWithin (patterns h) (decisions_of h n) k → Agrees root budget (close n k ∷ h) (slice_set nodes n (Settled (length h))) ps
  agrees_close h nodes ps n k a p least = record {
    listed = a.listed;
    legal = goes h (close n k ∷ h) a.legal (closes n k p least);
    cases = a.cases;
    are = a.are;
    decisions_are = a.decisions_are;
    nodes_are = settled_nodes (close n k) h nodes ps n a p (λ _. refl);
    patterns_are = a.patterns_are;
  }

  -- the leaf of case n is published
  pub agrees_publish : (h : List RawEntry) (nodes : List Node) (ps : List (List Decision)) (n : ℕ) (l : LeafParts) → Agrees root budget h nodes ps → IsPending h n → EndsLiving root budget h n (leaf_end l) → Agrees root budget (publish n l ∷ h) (slice_set nodes n (Settled (length h))) ps
  agrees_publish h nodes ps n l a p e = record {
    listed = a.listed;
    legal = goes h (publish n l ∷ h) a.legal (publishes n l p e);
    cases = a.cases;
    are = a.are;
    decisions_are = a.decisions_are;
    nodes_are = settled_nodes (publish n l) h nodes ps n a p (λ _. refl);
    patterns_are = a.patterns_are;
  }

  -- the refutation of case n is posted, and closes it
  pub agrees_refute : (h : List RawEntry) (nodes : List Node) (ps : List (List Decision)) (n : ℕ) (r : RefutationParts) → Agrees root budget h nodes ps → IsPending h n → EndsLiving root budget h n (dead_end r) → Agrees root budget (close n (length (patterns h)) ∷ post r ∷ h) (slice_set nodes n (Settled (length h + 1))) (ps ++ r.pattern ∷ [])
  agrees_refute h nodes ps n r a p e = record {
    listed = a.listed;
    legal = goes h (close n (length (patterns h)) ∷ post r ∷ h) a.legal (refutes n r p e);
    cases = a.cases;
    are = a.are;
    decisions_are = a.decisions_are;
    nodes_are = subst (λ (i : ℕ). AreNodes (close n (length (patterns h)) ∷ post r ∷ h) 0 a.cases (slice_set nodes n (Settled i))) next_place
        (nodes_settled (close n (length (patterns h))) (post r ∷ h) 0 n n a.cases nodes (omega arith) (settles_just (close n (length (patterns h))) n (λ _. refl)) (omega (arith, p.made, node_count h nodes ps a)) (nodes_kept (post r) h 0 a.cases nodes (λ _ _. refl) a.nodes_are));
    patterns_are = ap (λ (l : List (List Decision)). l ++ r.pattern ∷ []) a.patterns_are;
  }
    where
      next_place : suc (length h) ≡ length h + 1
      next_place = omega arith

  module _ (laws : AreCaseLaws root budget) where
    -- case n is split into the next two
    pub agrees_split : (h : List RawEntry) (nodes : List Node) (ps : List (List Decision)) (n : ℕ) (by : List Term) (z x : CaseState) → Agrees root budget h nodes ps → IsPending h n → EndsLiving root budget h n (split_end by z x) → Agrees root budget (split n by ∷ h) (slice_set nodes n (Settled (length h)) ++ Pending z ∷ Pending x ∷ []) ps
    agrees_split h nodes ps n by z x a p e = record {
      listed = a.listed;
      legal = goes h (split n by ∷ h) a.legal (splits n by z x p e);
      cases = a.cases ++ z ∷ x ∷ [];
      are = (a.cases, a.are, record { parent = e.is_end.c; zero = z; nonzero = x; is_parent = is_parent; is_end = e.is_end.is_end; all = refl });
      decisions_are = decisions_are;
      nodes_are = nodes_appended (split n by ∷ h) 0 a.cases (z ∷ x ∷ []) (slice_set nodes n (Settled (length h))) (Pending z ∷ Pending x ∷ []) (settled_nodes (split n by) h nodes ps n a p (λ _. refl)) ((fresh _ (omega (arith, long)), refl), ((fresh _ (omega (arith, long)), refl), tt));
      patterns_are = a.patterns_are;
    }
      where
        long : length (slice_set nodes n (Settled (length h))) ≡ cases_made h
        long = length-set nodes n (Settled (length h)) ∙ node_count h nodes ps a

        is_parent : slice_get a.cases n ≡ Some e.is_end.c
        is_parent =
            let node = node_of_pending h nodes ps n a p in
            let found = case_of_node h 0 n n a.cases nodes (Pending node.0) (omega arith) a.nodes_are node.1 in
            found.is ∙ ap Some (laws.one h n found.c e.is_end.c (record { cases = a.cases; are = a.are; is = found.is }) e.is_end.is_case)

        branches : AreBranches root budget e.is_end.c by z x
        branches = laws.ends.split e.is_end.c by z x (laws.belongs h n e.is_end.c e.is_end.is_case) (laws.few h n e.is_end.c e.is_end.is_case) e.is_end.is_end

        decisions_are : decisions_of_cases (a.cases ++ z ∷ x ∷ []) ≡ case_decisions (split n by ∷ h)
        decisions_are =
            let same = decisions_at h n a.cases e.is_end.c a.decisions_are is_parent in
            map-append (λ (c : CaseState). c.decisions) a.cases (z ∷ x ∷ []) ∙ rw (a.decisions_are, branches.zero_decisions, branches.nonzero_decisions, same) refl

        fresh : (m : ℕ) → cases_made h ≤ m → fate (split n by ∷ h) m ≡ None
        fresh m le = fate-other (split n by) h m (not_same n m (λ same. omega (arith, p.made, le, same))) ∙ unmade root h m (laws.replays h a.legal) le
