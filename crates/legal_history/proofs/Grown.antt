-- Legal histories replay, and have cases.
use Rattle.std.specs.Prelude.{◌≡◌, ℕ, List, [], ◌∷◌, ◌++◌}
use Rattle.std.proofs.Common.{refl, sym, ◌∙◌, subst}
use Rattle.sparse_poly.specs.declared.Term.{Term}
use Rattle.refute_store.specs.Live.{IsWithin}
use Rattle.refute_cert.proofs.Pushes.{get_last}
use Rattle.leaf_cert.specs.declared.certificate.RawEntry.{RawEntry}
use Rattle.case_rules.specs.Cases.{CaseState, root_case}
use Rattle.case_rules.specs.Ends.{End}
use Rattle.case_rules.specs.declared.outcome.Outcome.TheVariants.{Dead, Leaf as leaf_end}
use Rattle.case_history.specs.History.{decisions_of, patterns}
use Rattle.case_history.specs.Replay.{Replays}
use Rattle.case_rules.specs.EndLaws.{AreEndLaws}
use Rattle.legal_history.specs.Legal.{AreCases, IsEndOf, closes, refutes, splits, publishes, stays, goes, IsLegal}
use Rattle.legal_history.proofs.Cases.{IsFit, cases_fit, case_decisions_are}

module _ (root : List (List Term)) (budget : ℕ) (laws : AreEndLaws root budget) where
  -- a case of which an end is known is fit, and its decisions are those of the history
  pub fit_end : (h : List RawEntry) (n : ℕ) (o : End) → (e : IsEndOf root budget h n o) → IsFit root budget e.c × (decisions_of h n ≡ e.c.decisions)
  fit_end h n o e = (cases_fit root budget laws h e.is_case.cases n e.c e.is_case.are e.is_case.is, case_decisions_are root budget laws h e.is_case.cases n e.c e.is_case.are e.is_case.is)

  -- each entry of a legal history may come
  pub legal_replays : (h : List RawEntry) → IsLegal root budget h → Replays root h
  legal_replays h stays = tt
  legal_replays h (goes before after g (closes n k p least)) = (record { pending = p; pattern = record { pattern = least.live.pattern; is = least.live.is; within = least.live.within } }, legal_replays before g)
  legal_replays h (goes before after g (refutes n r p e)) =
      let f = fit_end before n (Dead r) e.is_end in
      let dead = laws.dead e.is_end.c r f.0.belongs f.0.few e.is_end.is_end in (
        record {
          pending = record { made = p.made; unsettled = p.unsettled };
          pattern = record { pattern = r.pattern; is = get_last (patterns before) r.pattern; within = subst (IsWithin r.pattern) (sym f.1) dead.within };
        },
        (dead.refutes, legal_replays before g),
      )
  legal_replays h (goes before after g (splits n by z x p e)) = (p, legal_replays before g)
  legal_replays h (goes before after g (publishes n l p e)) =
      let f = fit_end before n (leaf_end l) e.is_end in
      let leaf = laws.leaf e.is_end.c l f.0.belongs f.0.few e.is_end.is_end in
      (record { pending = p; same = leaf.same ∙ sym f.1; good = leaf.good }, legal_replays before g)

  -- a legal history has cases
  pub legal_cases : (h : List RawEntry) → IsLegal root budget h → (cs : List CaseState) × AreCases root budget h cs
  legal_cases h stays = (root_case root ∷ [], refl)
  legal_cases h (goes before after g (closes n k p least)) = legal_cases before g
  legal_cases h (goes before after g (refutes n r p e)) = legal_cases before g
  legal_cases h (goes before after g (splits n by z x p e)) =
      (e.is_end.is_case.cases ++ z ∷ x ∷ [], (e.is_end.is_case.cases, e.is_end.is_case.are, record { parent = e.is_end.c; zero = z; nonzero = x; is_parent = e.is_end.is_case.is; is_end = e.is_end.is_end; all = refl }))
  legal_cases h (goes before after g (publishes n l p e)) = legal_cases before g
