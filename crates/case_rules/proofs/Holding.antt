-- Where an assignment holds at the branches of a case.
use Rattle.std.specs.Prelude.{◌≡◌, ◌≢◌, ◌⊎◌, ◌↔◌, ℕ, Bool, true, false, List, [], ◌∷◌}
use mathlib.Core.Logic.{inl, inr}
use Rattle.std.proofs.Common.{subst, ap, sym}
use Rattle.std.proofs.lemmas.List.Elements.{All-append, All-cons, All-nil, All-from_recursion, recursion_from_All}
use Rattle.std.specs.declared.option.Option.{Option}
use Rattle.std.specs.declared.option.Option.TheVariants.{None, Some}
use Rattle.field_laws.specs.Field.{Field}
use Rattle.sparse_poly.specs.declared.Term.{Term}
use Rattle.sparse_poly.specs.Polynomials.{eval}
use Rattle.sparse_poly.proofs.Descending.{all_front, all_last}
use Rattle.derive_lines.specs.declared.parts.Decision.{Decision}
use Rattle.derive_lines.specs.Refuting.{decided, IsSo, AllHold, HoldsAt}
use Rattle.case_rules.specs.Cases.{CaseState}
use Rattle.case_rules.specs.Branches.{IsReduced, IsBranch}

-- the decisions of a branch
pub decisions_of : (c : CaseState) (s : List Term) (zero : Bool) (tail : Option ℕ) (d : CaseState) → IsBranch c s zero tail d → d.decisions ≡ decided c.decisions s zero
decisions_of c s true None d b = ap (λ (c : CaseState). c.decisions) b
decisions_of c s true (Some i) d b = ap (λ (c : CaseState). c.decisions) b.is
decisions_of c s false tail d b = ap (λ (c : CaseState). c.decisions) b.is

module _ {E : Type 0} (f : Field E) (s : List E) (root : List (List Term)) where
  abbrev So : Decision → Type 0
  So d = IsSo f s d.zero d.poly

  all_before : (ds : List Decision) (p : List Term) (zero : Bool) → AllHold f s (decided ds p zero) → AllHold f s ds × IsSo f s zero p
  all_before ds p zero h =
      let d : Decision = record { poly = p; zero = zero } in
      let r = recursion_from_All So (decided ds p zero) h in
      (All-from_recursion So ds (all_front So ds (d ∷ []) r), all_last So ds d r)

  all_after : (ds : List Decision) (p : List Term) (zero : Bool) → AllHold f s ds → IsSo f s zero p → AllHold f s (decided ds p zero)
  all_after ds p zero h g =
      let d : Decision = record { poly = p; zero = zero } in
      All-append So ds (d ∷ []) h (All-cons So d [] g (All-nil So))

  pub at_branch : (c : CaseState) (by : List Term) (zero : Bool) (tail : Option ℕ) (d : CaseState) → IsBranch c by zero tail d → HoldsAt f s root d.decisions ↔ (HoldsAt f s root c.decisions × IsSo f s zero by)
  at_branch c by zero tail d b = (down, up)
    where
      down : HoldsAt f s root d.decisions → HoldsAt f s root c.decisions × IsSo f s zero by
      down h = let both = all_before c.decisions by zero (subst (AllHold f s) (decisions_of c by zero tail d b) h.1) in ((h.0, both.0), both.1)

      up : HoldsAt f s root c.decisions × IsSo f s zero by → HoldsAt f s root d.decisions
      up h = (h.0.0, subst (AllHold f s) (sym (decisions_of c by zero tail d b)) (all_after c.decisions by zero h.0.1 h.1))

  -- at just one of both branches
  pub at_one : (c : CaseState) (by : List Term) (tail : Option ℕ) (z n : CaseState) → (eval f s by ≡ f.zero) ⊎ (eval f s by ≢ f.zero) → IsBranch c by true tail z → IsBranch c by false tail n → HoldsAt f s root c.decisions → HoldsAt f s root z.decisions ⊎ HoldsAt f s root n.decisions
  at_one c by tail z n (inl e) bz bn h = inl ((at_branch c by true tail z bz).1 (h, e))
  at_one c by tail z n (inr e) bz bn h = inr ((at_branch c by false tail n bn).1 (h, e))

  pub not_both : (c : CaseState) (by : List Term) (tail : Option ℕ) (z n : CaseState) → IsBranch c by true tail z → IsBranch c by false tail n → HoldsAt f s root z.decisions → HoldsAt f s root n.decisions → ⊥
  not_both c by tail z n bz bn hz hn = ((at_branch c by false tail n bn).0 hn).1 (((at_branch c by true tail z bz).0 hz).1)

  pub at_reduced : (c : CaseState) (q p v : ℕ) (d : CaseState) → IsReduced c q p v d → HoldsAt f s root d.decisions ↔ HoldsAt f s root c.decisions
  at_reduced c q p v d r =
      let same : d.decisions ≡ c.decisions = ap (λ (c : CaseState). c.decisions) r.is in
      (subst (HoldsAt f s root) same, subst (HoldsAt f s root) (sym same))
