-- What a board keeps after a settle.
use Rattle.std.specs.Prelude.{◌≡◌, ◌+◌, ℕ, List, [], ◌∷◌, ◌++◌, length, slice_set}
use Rattle.std.proofs.Common.{arith, refl, sym, ◌∙◌, ap, subst}
use Rattle.std.proofs.lemmas.List.{length-map, length-append, map-append}
use Rattle.sparse_poly.specs.declared.Term.{Term}
use Rattle.refute_store.specs.Live.{IsLeastLiveWithin}
use Rattle.refute_cert.specs.Parts.{RefutationParts}
use Rattle.leaf_cert.specs.Parts.{LeafParts}
use Rattle.leaf_cert.specs.declared.certificate.RawEntry.{RawEntry}
use Rattle.leaf_cert.specs.declared.certificate.RawEntry.TheVariants.{Split as split, Close as close}
use Rattle.pattern_store.specs.Refuted.{patterns_of}
use Rattle.case_rules.specs.Cases.{CaseState}
use Rattle.case_rules.specs.declared.outcome.Outcome.TheVariants.{Split as split_end, Dead as dead_end, Leaf as leaf_end}
use Rattle.case_history.specs.History.{publish, patterns, decisions_of, IsPending}
use Rattle.legal_history.specs.Legal.{post, EndsLiving}
use Rattle.root_system.specs.Forms.{RootEquations}
use Rattle.case_ledger.specs.State.{BoardState}
use Rattle.case_ledger.specs.CaseLaws.{AreCaseLaws}
use Rattle.case_ledger.specs.Entries.{history_of, IsPosted, ArePosted}
use Rattle.case_ledger.specs.Agreeing.{Agrees, IsKept}
use Rattle.case_ledger.specs.declared.entries.Kept.{Kept}
use Rattle.case_ledger.specs.declared.entries.Kept.TheVariants.{Split, Post, Close, Publish}
use Rattle.case_ledger.specs.declared.nodes.Node.{Node}
use Rattle.case_ledger.specs.declared.nodes.Node.TheVariants.{Pending, Settled}
use Rattle.case_ledger.proofs.KeptEntries.{entries_stay, posted_more, posted_push, history_push, length-history, last_stored}
use Rattle.case_ledger.proofs.Steps.{agrees_close, agrees_publish, agrees_refute, agrees_split}

module _ (root : List (List Term)) (budget : ℕ) where
  -- one entry more, whose history is e, and nodes that agree with it
  one_more : (entries : List Kept) (nodes settled : List Node) (stored : List RefutationParts) (entry : Kept) (e : RawEntry) → e ∷ history_of stored entries ≡ history_of stored (entries ++ entry ∷ []) → IsKept root budget entries nodes stored → IsPosted (length stored) entry → Agrees root budget (e ∷ history_of stored entries) settled (patterns_of stored) → IsKept root budget (entries ++ entry ∷ []) settled stored
  one_more entries nodes settled stored entry e same kept last agrees = record {
    small = kept.small;
    posted = posted_push (length stored) entries entry kept.posted last;
    agrees = subst (λ (h : List RawEntry). Agrees root budget h settled (patterns_of stored)) same agrees;
  }

  pub kept_close : (entries : List Kept) (nodes : List Node) (stored : List RefutationParts) (n k at : ℕ) → IsKept root budget entries nodes stored → IsPending (history_of stored entries) n → IsLeastLiveWithin (patterns (history_of stored entries)) (decisions_of (history_of stored entries) n) k → at ≡ length entries → IsKept root budget (entries ++ Close n k ∷ []) (slice_set nodes n (Settled at)) stored
  kept_close entries nodes stored n k at kept p least is =
      one_more entries nodes (slice_set nodes n (Settled at)) stored (Close n k) (close n k) (sym (history_push stored entries (Close n k))) kept tt
      (rw (is, ← length-history stored entries) (agrees_close root budget (history_of stored entries) nodes (patterns_of stored) n k kept.agrees p least))

  pub kept_publish : (entries : List Kept) (nodes : List Node) (stored : List RefutationParts) (n at : ℕ) (l : LeafParts) → IsKept root budget entries nodes stored → IsPending (history_of stored entries) n → EndsLiving root budget (history_of stored entries) n (leaf_end l) → at ≡ length entries → IsKept root budget (entries ++ Publish n l ∷ []) (slice_set nodes n (Settled at)) stored
  kept_publish entries nodes stored n at l kept p e is =
      one_more entries nodes (slice_set nodes n (Settled at)) stored (Publish n l) (publish n l) (sym (history_push stored entries (Publish n l))) kept tt
      (rw (is, ← length-history stored entries) (agrees_publish root budget (history_of stored entries) nodes (patterns_of stored) n l kept.agrees p e))

  pub kept_split : AreCaseLaws root budget → (entries : List Kept) (nodes : List Node) (stored : List RefutationParts) (n at : ℕ) (by : List Term) (z x : CaseState) → IsKept root budget entries nodes stored → IsPending (history_of stored entries) n → EndsLiving root budget (history_of stored entries) n (split_end by z x) → at ≡ length entries → IsKept root budget (entries ++ Split n by ∷ []) (slice_set nodes n (Settled at) ++ Pending z ∷ Pending x ∷ []) stored
  kept_split laws entries nodes stored n at by z x kept p e is =
      one_more entries nodes (slice_set nodes n (Settled at) ++ Pending z ∷ Pending x ∷ []) stored (Split n by) (split n by) (sym (history_push stored entries (Split n by))) kept tt
      (rw (is, ← length-history stored entries) (agrees_split root budget laws (history_of stored entries) nodes (patterns_of stored) n by z x kept.agrees p e))

  -- the history after a post and a close by it
  pub refuted_history : (entries : List Kept) (stored : List RefutationParts) (n k : ℕ) (r : RefutationParts) → ArePosted (length stored) entries → k ≡ length stored → history_of (stored ++ r ∷ []) ((entries ++ Post k ∷ []) ++ Close n k ∷ []) ≡ close n k ∷ post r ∷ history_of stored entries
  refuted_history entries stored n k r posted is =
      history_push (stored ++ r ∷ []) (entries ++ Post k ∷ []) (Close n k)
      ∙ (ap (λ (h : List RawEntry). close n k ∷ h) (history_push (stored ++ r ∷ []) entries (Post k)) ∙ rw (is, last_stored stored r, entries_stay stored (r ∷ []) entries posted) refl)

  pub kept_refute : (entries : List Kept) (nodes : List Node) (stored : List RefutationParts) (n k at : ℕ) (r : RefutationParts) → IsKept root budget entries nodes stored → IsPending (history_of stored entries) n → EndsLiving root budget (history_of stored entries) n (dead_end r) → k ≡ length stored → at ≡ length entries + 1 → IsKept root budget ((entries ++ Post k ∷ []) ++ Close n k ∷ []) (slice_set nodes n (Settled at)) (stored ++ r ∷ [])
  kept_refute entries nodes stored n k at r kept p e number is = record {
    small = kept.small;
    posted = posted_push _ (entries ++ Post k ∷ []) (Close n k) (posted_push _ entries (Post k) (posted_more _ _ entries (omega (arith, more)) kept.posted) (omega (arith, more, number))) tt;
    agrees = rw (refuted_history entries stored n k r kept.posted number, map-append (λ (q : RefutationParts). q.pattern) stored (r ∷ []), pattern_number, is, ← length-history stored entries) (agrees_refute root budget (history_of stored entries) nodes (patterns_of stored) n r kept.agrees p e);
  }
    where
      more : length (stored ++ r ∷ []) ≡ length stored + 1
      more = length-append stored (r ∷ [])

      pattern_number : k ≡ length (patterns (history_of stored entries))
      pattern_number = number ∙ (sym (length-map stored (λ (q : RefutationParts). q.pattern)) ∙ ap length kept.agrees.patterns_are)

-- the board after a post and a close by it
pub refuted_board : (root : RootEquations) (budget : ℕ) (entries : List Kept) (stored : List RefutationParts) (n k : ℕ) (r : RefutationParts) → ArePosted (length stored) entries → k ≡ length stored → ◌≡◌ {A = BoardState} (record { root = root; budget = budget; history = history_of (stored ++ r ∷ []) ((entries ++ Post k ∷ []) ++ Close n k ∷ []) }) (record { root = root; budget = budget; history = close n k ∷ post r ∷ history_of stored entries })
refuted_board root budget entries stored n k r posted is = rw (refuted_history root.equations budget entries stored n k r posted is) refl
