-- The cases and the entries of a legal history have their variables below n.
use Rattle.std.specs.Prelude.{ℕ, ◌+◌, List, [], ◌∷◌, All}
use Rattle.std.proofs.Common.{sym, subst}
use Rattle.std.proofs.lemmas.List.Elements.{All-head, All-tail}
use Rattle.std.specs.List.{AllByRecursion}
use Rattle.sparse_poly.specs.declared.Term.{Term}
use Rattle.sparse_poly.specs.Contributions.{IsPoly}
use Rattle.sparse_poly.proofs.Descending.{all_both}
use Rattle.leaf_cert.specs.declared.certificate.RawEntry.{RawEntry}
use Rattle.leaf_cert.specs.declared.certificate.RawEntry.TheVariants.{Split as split, Post as posted, Close as close, Publish as published}
use Rattle.case_rules.specs.Cases.{CaseState, numbered, root_case}
use Rattle.case_rules.specs.Belonging.{Belongs, IsRootList}
use Rattle.case_rules.specs.Ends.{End}
use Rattle.case_rules.specs.declared.outcome.Outcome.TheVariants.{Split, Dead, Leaf as leaf_end}
use Rattle.legal_history.specs.Legal.{AreCases, IsCase, IsEndOf, closes, refutes, splits, publishes, stays, goes, IsLegal}
use Rattle.sparse_poly.specs.Reads.{HasVariablesBelow}
use Rattle.leaf_cert.specs.Variables.{HasEntryVariablesBelow}
use Rattle.legal_ranges.proofs.Clearings.{AreEquationsBelow}
use Rattle.legal_ranges.proofs.Cases.{IsCaseBelow}
use Rattle.legal_ranges.proofs.Cones.{each_at}
use Rattle.legal_ranges.proofs.Ends.{IsEndBelow, end_below}

module _ (n : ℕ) where
  numbered_below : (k : ℕ) (root : List (List Term)) → All IsPoly root → All (HasVariablesBelow n) root → AreEquationsBelow n (numbered k root)
  numbered_below k [] p h = tt
  numbered_below k (q ∷ qs) p h =
      (record { poly = All-head IsPoly q qs p; below = All-head (HasVariablesBelow n) q qs h }, numbered_below (k + 1) qs (All-tail IsPoly q qs p) (All-tail (HasVariablesBelow n) q qs h))

  module _ (root : List (List Term)) (budget : ℕ) (listed : IsRootList root) (below : All (HasVariablesBelow n) root) (belongs : (h : List RawEntry) (k : ℕ) (c : CaseState) → IsCase root budget h k c → Belongs root c) where
    root_below : IsCaseBelow n (root_case root)
    root_below = record { decisions = tt; lines = tt; equations = numbered_below 0 root listed.primitive.polys below }

    -- all cases that were made
    cases_below : (h : List RawEntry) (cs : List CaseState) → AreCases root budget h cs → AllByRecursion (IsCaseBelow n) cs
    cases_below [] cs are = subst (AllByRecursion (IsCaseBelow n)) (sym are) (root_below, tt)
    cases_below (split k by ∷ h) cs are = branches (cases_below h are.0 are.1)
      where
        branches : AllByRecursion (IsCaseBelow n) are.0 → AllByRecursion (IsCaseBelow n) cs
        branches before =
            let parent : Belongs root are.2.parent = belongs h k are.2.parent (record { cases = are.0; are = are.1; is = are.2.is_parent }) in
            let both : IsEndBelow n (Split by are.2.zero are.2.nonzero) = end_below n root budget are.2.parent (Split by are.2.zero are.2.nonzero) parent (each_at (IsCaseBelow n) are.0 k are.2.parent before are.2.is_parent) are.2.is_end in
            subst (AllByRecursion (IsCaseBelow n)) (sym are.2.all) (all_both (IsCaseBelow n) are.0 (are.2.zero ∷ are.2.nonzero ∷ []) before (both.1, (both.2, tt)))
    cases_below (posted ds ls end ∷ h) cs are = cases_below h cs are
    cases_below (close k j ∷ h) cs are = cases_below h cs are
    cases_below (published k ds ls es end ∷ h) cs are = cases_below h cs are

    -- the end of a case
    end_of_below : (h : List RawEntry) (k : ℕ) (o : End) → IsEndOf root budget h k o → IsEndBelow n o
    end_of_below h k o e =
        end_below n root budget e.c o (belongs h k e.c e.is_case)
        (each_at (IsCaseBelow n) e.is_case.cases k e.c (cases_below h e.is_case.cases e.is_case.are) e.is_case.is) e.is_end

    pub entries_below : (h : List RawEntry) → IsLegal root budget h → AllByRecursion (HasEntryVariablesBelow n) h
    entries_below h stays = tt
    entries_below h (goes before after g (closes k j p least)) = (tt, entries_below before g)
    entries_below h (goes before after g (refutes k r p e)) = (tt, (end_of_below before k (Dead r) e.is_end, entries_below before g))
    entries_below h (goes before after g (splits k by z x p e)) = ((end_of_below before k (Split by z x) e.is_end).0, entries_below before g)
    entries_below h (goes before after g (publishes k l p e)) = (end_of_below before k (leaf_end l) e.is_end, entries_below before g)
