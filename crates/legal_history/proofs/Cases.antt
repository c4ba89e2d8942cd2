-- The cases of a history.
use Rattle.std.specs.Prelude.{◌≡◌, ◌≤◌, ℕ, zero, suc, true, false, List, [], ◌∷◌, ◌++◌, length, slice_get}
use Rattle.std.specs.declared.option.Option.TheVariants.{Some}
use Rattle.std.proofs.Common.{arith, refl, sym, ◌∙◌, ap, subst, length-append}
use Rattle.std.proofs.lemmas.Option.{none-some, same_Some, slice_get_within}
use Rattle.sparse_poly.specs.declared.Term.{Term}
use Rattle.derive_lines.specs.declared.parts.Decision.{Decision}
use Rattle.derive_lines.specs.Refuting.{decided}
use Rattle.leaf_cert.specs.declared.certificate.RawEntry.{RawEntry}
use Rattle.leaf_cert.specs.declared.certificate.RawEntry.TheVariants.{Split as split, Post as posted, Close as close, Publish as published}
use Rattle.case_rules.specs.Cases.{CaseState, root_case}
use Rattle.case_rules.specs.Belonging.{Belongs}
use Rattle.case_rules.specs.Ends.{End, IsEnd}
use Rattle.case_rules.specs.declared.outcome.Outcome.TheVariants.{Split}
use Rattle.case_history.specs.History.{cases_made, decisions_of}
use Rattle.case_history.proofs.Fates.{made-split, decisions_kept, decisions-left, decisions-right}
use Rattle.case_rules.specs.EndLaws.{AreBranches, AreEndLaws}
use Rattle.legal_history.specs.Legal.{AreCases}
use Rattle.legal_history.proofs.Pairs.{get-first, IsOneOf, old, first, second, get-two}

-- a case belongs to the root, and has at most so many moves as the budget
pub record IsFit (root : List (List Term)) (budget : ℕ) (c : CaseState) : Type 0 where
  pub belongs : Belongs root c
  pub few : c.moves ≤ budget

-- there are as many cases as were made
pub length-cases : (root : List (List Term)) (budget : ℕ) (h : List RawEntry) (cs : List CaseState) → AreCases root budget h cs → length cs ≡ cases_made h
length-cases root budget [] cs are = rw are refl
length-cases root budget (split n by ∷ h) cs are =
    let ih = length-cases root budget h are.0 are.1 in
    rw are.2.all (omega (arith, length-append are.0 (are.2.zero ∷ are.2.nonzero ∷ []), made-split h n by, ih))
length-cases root budget (posted ps ls end ∷ h) cs are = length-cases root budget h cs are
length-cases root budget (close n k ∷ h) cs are = length-cases root budget h cs are
length-cases root budget (published n ps ls es end ∷ h) cs are = length-cases root budget h cs are

module _ (root : List (List Term)) (budget : ℕ) (laws : AreEndLaws root budget) where
  -- all cases are fit
  pub cases_fit : (h : List RawEntry) (cs : List CaseState) (k : ℕ) (c : CaseState) → AreCases root budget h cs → slice_get cs k ≡ Some c → IsFit root budget c
  cases_fit [] cs zero c are is = let e : Some (root_case root) ≡ Some c = sym (ap (λ (l : List CaseState). slice_get l 0) are) ∙ is in rw (sym (same_Some (root_case root) c e)) (record { belongs = laws.top; few = omega arith })
  cases_fit [] cs (suc k) c are is = absurd (none-some c (sym (ap (λ (l : List CaseState). slice_get l (suc k)) are) ∙ is))
  cases_fit (split n by ∷ h) cs k c are is = go (get-two are.0 are.2.zero are.2.nonzero c k (rw are.2.all at is))
      (λ (j : ℕ) (d : CaseState). cases_fit h are.0 j d are.1)
    where
      go : IsOneOf are.0 are.2.zero are.2.nonzero c k → ((j : ℕ) (d : CaseState) → slice_get are.0 j ≡ Some d → IsFit root budget d) → IsFit root budget c
      go (old e) ih = ih k c e
      go (first e same) ih = let f = ih n are.2.parent are.2.is_parent in let s = laws.split are.2.parent by are.2.zero are.2.nonzero f.belongs f.few are.2.is_end in rw same (record { belongs = s.zero_belongs; few = s.zero_moves })
      go (second e same) ih = let f = ih n are.2.parent are.2.is_parent in let s = laws.split are.2.parent by are.2.zero are.2.nonzero f.belongs f.few are.2.is_end in rw same (record { belongs = s.nonzero_belongs; few = s.nonzero_moves })
  cases_fit (posted ps ls end ∷ h) cs k c are is = cases_fit h cs k c are is
  cases_fit (close n j ∷ h) cs k c are is = cases_fit h cs k c are is
  cases_fit (published n ps ls es end ∷ h) cs k c are is = cases_fit h cs k c are is

  -- a history has one list of cases
  pub one_cases : (h : List RawEntry) (cs ds : List CaseState) → AreCases root budget h cs → AreCases root budget h ds → cs ≡ ds
  one_cases [] cs ds a b = a ∙ sym b
  one_cases (split n by ∷ h) cs ds a b = rw (a.2.all, b.2.all) (ends (one_cases h a.0 b.0 a.1 b.1))
    where
      ends : a.0 ≡ b.0 → a.0 ++ a.2.zero ∷ a.2.nonzero ∷ [] ≡ b.0 ++ b.2.zero ∷ b.2.nonzero ∷ []
      ends same =
          let p : a.2.parent ≡ b.2.parent = same_Some _ _ (sym a.2.is_parent ∙ (ap (λ (l : List CaseState). slice_get l n) same ∙ b.2.is_parent)) in
          let e : IsEnd root budget b.2.parent (Split by a.2.zero a.2.nonzero) = subst (λ (c : CaseState). IsEnd root budget c (Split by a.2.zero a.2.nonzero)) p a.2.is_end in
          let f = cases_fit h b.0 n b.2.parent b.1 b.2.is_parent in
          let o : ◌≡◌ {A = End} (Split by a.2.zero a.2.nonzero) (Split by b.2.zero b.2.nonzero) = laws.one b.2.parent _ _ f.belongs e b.2.is_end in
          let z : a.2.zero ≡ b.2.zero = cc in
          let x : a.2.nonzero ≡ b.2.nonzero = cc in
          rw (same, z, x) refl
  one_cases (posted ps ls end ∷ h) cs ds a b = one_cases h cs ds a b
  one_cases (close n k ∷ h) cs ds a b = one_cases h cs ds a b
  one_cases (published n ps ls es end ∷ h) cs ds a b = one_cases h cs ds a b

  -- the decisions of case n are those of the case
  pub case_decisions_are : (h : List RawEntry) (cs : List CaseState) (k : ℕ) (c : CaseState) → AreCases root budget h cs → slice_get cs k ≡ Some c → decisions_of h k ≡ c.decisions
  case_decisions_are [] cs zero c are is = let e : Some (root_case root) ≡ Some c = sym (ap (λ (l : List CaseState). slice_get l 0) are) ∙ is in ap (λ (d : CaseState). d.decisions) (same_Some (root_case root) c e)
  case_decisions_are [] cs (suc k) c are is = absurd (none-some c (sym (ap (λ (l : List CaseState). slice_get l (suc k)) are) ∙ is))
  case_decisions_are (split n by ∷ h) cs k c are is = go (get-two are.0 are.2.zero are.2.nonzero c k (rw are.2.all at is))
      (λ (j : ℕ) (d : CaseState). case_decisions_are h are.0 j d are.1)
    where
      long : length are.0 ≡ cases_made h
      long = length-cases root budget h are.0 are.1

      f : IsFit root budget are.2.parent
      f = cases_fit h are.0 n are.2.parent are.1 are.2.is_parent

      s : AreBranches root budget are.2.parent by are.2.zero are.2.nonzero
      s = laws.split are.2.parent by are.2.zero are.2.nonzero f.belongs f.few are.2.is_end

      go : IsOneOf are.0 are.2.zero are.2.nonzero c k → ((j : ℕ) (d : CaseState) → slice_get are.0 j ≡ Some d → decisions_of h j ≡ d.decisions) → decisions_of (split n by ∷ h) k ≡ c.decisions
      go (old e) ih = decisions_kept (split n by) h k (omega (arith, slice_get_within are.0 k c e, long)) ∙ ih k c e
      go (first e same) ih = decisions-left h n by k (e ∙ long) ∙ (ap (λ (l : List Decision). decided l by true) (ih n are.2.parent are.2.is_parent) ∙ (sym s.zero_decisions ∙ ap (λ (d : CaseState). d.decisions) (sym same)))
      go (second e same) ih = decisions-right h n by k (omega (arith, e, long)) ∙ (ap (λ (l : List Decision). decided l by false) (ih n are.2.parent are.2.is_parent) ∙ (sym s.nonzero_decisions ∙ ap (λ (d : CaseState). d.decisions) (sym same)))
  case_decisions_are (posted ps ls end ∷ h) cs k c are is = case_decisions_are h cs k c are is
  case_decisions_are (close n j ∷ h) cs k c are is = case_decisions_are h cs k c are is
  case_decisions_are (published n ps ls es end ∷ h) cs k c are is = case_decisions_are h cs k c are is

  -- cases stay as they are while a history grows
  pub cases_stay : (more h : List RawEntry) (cs ds : List CaseState) (k : ℕ) (c : CaseState) → AreCases root budget h cs → AreCases root budget (more ++ h) ds → slice_get cs k ≡ Some c → slice_get ds k ≡ Some c
  cases_stay [] h cs ds k c a b is = ap (λ (l : List CaseState). slice_get l k) (one_cases h ds cs b a) ∙ is
  cases_stay (split n by ∷ more) h cs ds k c a b is =
      let ih : slice_get b.0 k ≡ Some c = cases_stay more h cs b.0 k c a b.1 is in
      ap (λ (l : List CaseState). slice_get l k) b.2.all ∙ (get-first b.0 (b.2.zero ∷ b.2.nonzero ∷ []) k (slice_get_within b.0 k c ih) ∙ ih)
  cases_stay (posted ps ls end ∷ more) h cs ds k c a b is = cases_stay more h cs ds k c a b is
  cases_stay (close n j ∷ more) h cs ds k c a b is = cases_stay more h cs ds k c a b is
  cases_stay (published n ps ls es end ∷ more) h cs ds k c a b is = cases_stay more h cs ds k c a b is
