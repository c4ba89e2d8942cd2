-- Live patterns by their numbers are live patterns by decisions.
use Rattle.std.specs.Prelude.{◌≡◌, ◌<◌, ◌↔◌, ℕ, List, MatchOption, slice_get, length, map}
use Rattle.std.specs.declared.option.Option.{Option}
use Rattle.std.specs.declared.option.Option.TheVariants.{None, Some}
use Rattle.std.proofs.Common.{arith, refl, sym, ◌∙◌, inl, inr, subst}
use Rattle.std.proofs.lemmas.List.{length-map}
use Rattle.std.proofs.lemmas.Option.{same_Some, slice_get_within, slice_get-map, slice_get_cases}
use Rattle.sparse_poly.specs.declared.Term.{Term}
use Rattle.derive_lines.specs.declared.parts.Decision.{Decision}
use Rattle.refute_store.specs.Live.{IsPattern, IsWithin, IsLive, IsLiveWithin, IsLeastLiveWithin, HasNoneWithin}
use Rattle.refute_store.specs.Sets.{sets}
use Rattle.refute_cert.specs.Parts.{RefutationParts}
use Rattle.pattern_store.specs.Numbers.{IsSetOf, IsNumbered, AreNumbered}
use Rattle.pattern_store.specs.Refuted.{patterns_of}
use Rattle.pattern_store.proofs.Literals.{within_sets}

module _ (names : List (List Term)) (store : List (List ℕ × RefutationParts)) (n : AreNumbered names store) where
  abbrev rows : List (List Decision)
  rows = patterns_of (map (λ (p : List ℕ × RefutationParts). p.1) store)

  -- a pattern by its number, as a set and in decisions
  record IsKept (k : ℕ) : Type 0 where
    set : List ℕ
    decisions : List Decision
    is_set : IsPattern (sets store) k set
    is_row : IsPattern rows k decisions
    numbered : IsNumbered names set decisions

  kept : (k : ℕ) → k < length store → IsKept k
  kept k lt = elim (slice_get_cases store k).1 [ inl c ↦ found c.0 c.2 | inr c ↦ absurd (omega (arith, c.0, lt)) ]
    where
      found : (p : List ℕ × RefutationParts) → slice_get store k ≡ Some p → IsKept k
      found p is =
          let row : slice_get (map (λ (q : List ℕ × RefutationParts). q.1) store) k ≡ Some p.1 = slice_get-map (λ (q : List ℕ × RefutationParts). q.1) store k ∙ rw is refl in
          record {
            set = p.0;
            decisions = p.1.pattern;
            is_set = slice_get-map (λ (q : List ℕ × RefutationParts). q.0) store k ∙ rw is refl;
            is_row = slice_get-map (λ (r : RefutationParts). r.pattern) (map (λ (q : List ℕ × RefutationParts). q.1) store) k ∙ rw row refl;
            numbered = n k p is;
          }

  in_sets : (k : ℕ) (s : List ℕ) → IsPattern (sets store) k s → k < length store
  in_sets k s is = rw length-map at (slice_get_within (sets store) k s is)

  in_rows : (k : ℕ) (p : List Decision) → IsPattern rows k p → k < length store
  in_rows k p is = rw (length-map, length-map) at (slice_get_within rows k p is)

  -- no later set is within the set exactly where no later pattern is within the pattern
  sets_live : (k : ℕ) → IsLive rows k → IsLive (sets store) k
  sets_live k l =
      let x = kept k (in_rows k l.pattern l.is) in
      let same : l.pattern ≡ x.decisions = same_Some _ _ (sym l.is ∙ x.is_row) in
      record {
        pattern = x.set;
        is = x.is_set;
        unmet = λ j t lt at w.
            let y = kept j (in_sets j t at) in
            let t_is : t ≡ y.set = same_Some _ _ (sym at ∙ y.is_set) in
            l.unmet j y.decisions lt y.is_row (subst (IsWithin y.decisions) (sym same) ((within_sets names y.set x.set y.decisions x.decisions y.numbered x.numbered.set_of).1 (subst (λ (u : List ℕ). IsWithin u x.set) t_is w)));
      }

  rows_live : (k : ℕ) → IsLive (sets store) k → IsLive rows k
  rows_live k l =
      let x = kept k (in_sets k l.pattern l.is) in
      let same : l.pattern ≡ x.set = same_Some _ _ (sym l.is ∙ x.is_set) in
      record {
        pattern = x.decisions;
        is = x.is_row;
        unmet = λ j t lt at w.
            let y = kept j (in_rows j t at) in
            let t_is : t ≡ y.decisions = same_Some _ _ (sym at ∙ y.is_row) in
            l.unmet j y.set lt y.is_set (subst (IsWithin y.set) (sym same) ((within_sets names y.set x.set y.decisions x.decisions y.numbered x.numbered.set_of).0 (subst (λ (u : List Decision). IsWithin u x.decisions) t_is w)));
      }

  pub same_live : (k : ℕ) → IsLive (sets store) k ↔ IsLive rows k
  same_live k = (rows_live k, sets_live k)

  module _ (q : List ℕ) (ds : List Decision) (m : IsSetOf names q ds) where
    to_sets : (k : ℕ) → IsLiveWithin rows ds k → IsLiveWithin (sets store) q k
    to_sets k l =
        let x = kept k (in_rows k l.pattern l.is) in
        let same : l.pattern ≡ x.decisions = same_Some _ _ (sym l.is ∙ x.is_row) in
        let live = sets_live k (record { pattern = l.pattern; is = l.is; unmet = l.unmet }) in
        let set_is : live.pattern ≡ x.set = same_Some _ _ (sym live.is ∙ x.is_set) in
        record {
          pattern = live.pattern;
          is = live.is;
          unmet = live.unmet;
          within = subst (λ (u : List ℕ). IsWithin u q) (sym set_is) ((within_sets names x.set q x.decisions ds x.numbered m).0 (subst (λ (u : List Decision). IsWithin u ds) same l.within));
        }

    from_sets : (k : ℕ) → IsLiveWithin (sets store) q k → IsLiveWithin rows ds k
    from_sets k l =
        let x = kept k (in_sets k l.pattern l.is) in
        let same : l.pattern ≡ x.set = same_Some _ _ (sym l.is ∙ x.is_set) in
        let live = rows_live k (record { pattern = l.pattern; is = l.is; unmet = l.unmet }) in
        let row_is : live.pattern ≡ x.decisions = same_Some _ _ (sym live.is ∙ x.is_row) in
        record {
          pattern = live.pattern;
          is = live.is;
          unmet = live.unmet;
          within = subst (λ (u : List Decision). IsWithin u ds) (sym row_is) ((within_sets names x.set q x.decisions ds x.numbered m).1 (subst (λ (u : List ℕ). IsWithin u q) same l.within));
        }

    pub found_by_sets : (o : Option ℕ) → MatchOption o (HasNoneWithin (sets store) q) (IsLeastLiveWithin (sets store) q) → MatchOption o (HasNoneWithin rows ds) (IsLeastLiveWithin rows ds)
    found_by_sets None none = λ k l. none k (to_sets k l)
    found_by_sets (Some k) least = record { live = from_sets k least.live; least = λ j lt l. least.least j lt (to_sets j l) }
