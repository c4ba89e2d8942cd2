-- Patterns by their numbers.
use Rattle.std.specs.Prelude.{◌≡◌, ◌<◌, ◌≤◌, ◌+◌, ◌⊎◌, ℕ, Some, List, [], ◌∷◌, map, length, get_or}
use Rattle.std.proofs.Common.{arith, refl, sym, ◌∙◌, ap, subst, inl, inr}
use Rattle.std.proofs.lemmas.Option.{slice_get-map, slice_get_read, slice_get_within}
use Rattle.refute_store.specs.Sets.{sets}
use Rattle.refute_store.specs.declared.Pattern.{Pattern}
use Rattle.refute_store.specs.Live.{IsPattern, IsWithin, IsLive, IsLiveWithin, IsLeastLiveWithin, HasNoneWithin}

pub pattern_read : {X : Type 0} (set_of : X → List ℕ) (xs : List X) (k : ℕ) (x : X) → k < length xs → x ≡ get_or xs k x → IsPattern (map set_of xs) k (set_of x)
pattern_read set_of xs k x lt is = slice_get-map set_of xs k ∙ rw (slice_get_read xs (length xs) k x refl lt is) refl

pub same_pattern : (ps : List (List ℕ)) (k : ℕ) (p q : List ℕ) → IsPattern ps k p → IsPattern ps k q → p ≡ q
same_pattern ps k p q a b = some-some p q (sym a ∙ b)
  where
    some-some : (p q : List ℕ) → Some p ≡ Some q → p ≡ q
    some-some p q e = cc

-- pattern j, which is within pattern k, is looked at: no pattern up to it is within
pub unmet_more : (ps : List (List ℕ)) (k j : ℕ) (p q : List ℕ) → ((i : ℕ) (r : List ℕ) → k < i → i < j → IsPattern ps i r → IsWithin r p → ⊥) → IsPattern ps j q → (IsWithin q p → ⊥) → (i : ℕ) (r : List ℕ) → k < i → i < j + 1 → IsPattern ps i r → IsWithin r p → ⊥
unmet_more ps k j p q before is not i r lt le at within =
    let t : (i < j) ⊎ (i ≡ j) = grind arith in
    elim t [ inl l ↦ before i r lt l at within | inr e ↦ not (subst (λ (s : List ℕ). IsWithin s p) (same_pattern ps j r q (subst (λ (n : ℕ). IsPattern ps n r) e at) is) within) ]

pub all_unmet : (ps : List (List ℕ)) (k j : ℕ) (p : List ℕ) → length ps ≤ j → IsPattern ps k p → ((i : ℕ) (r : List ℕ) → k < i → i < j → IsPattern ps i r → IsWithin r p → ⊥) → IsLive ps k
all_unmet ps k j p end is before = record { pattern = p; is = is; unmet = λ i q lt at within. before i q lt (omega (arith, slice_get_within ps i q at)) at within }

pub met : (ps : List (List ℕ)) (k j : ℕ) (p q : List ℕ) → k < j → IsPattern ps k p → IsPattern ps j q → IsWithin q p → IsLive ps k → ⊥
met ps k j p q lt is at within live = live.unmet j q lt at (subst (IsWithin q) (same_pattern ps k p live.pattern is live.is) within)

pub not_here : (ps : List (List ℕ)) (k : ℕ) (p ds : List ℕ) → IsPattern ps k p → (IsWithin p ds → ⊥) → IsLiveWithin ps ds k → ⊥
not_here ps k p ds is not l = not (subst (λ (s : List ℕ). IsWithin s ds) (same_pattern ps k l.pattern p l.is is) l.within)

pub not_live : (ps : List (List ℕ)) (k : ℕ) (ds : List ℕ) → (IsLive ps k → ⊥) → IsLiveWithin ps ds k → ⊥
not_live ps k ds not l = not (record { pattern = l.pattern; is = l.is; unmet = l.unmet })

pub least_here : (ps : List (List ℕ)) (k : ℕ) (p ds : List ℕ) → IsPattern ps k p → IsWithin p ds → IsLive ps k → ((j : ℕ) → j < k → IsLiveWithin ps ds j → ⊥) → IsLeastLiveWithin ps ds k
least_here ps k p ds is within live before = record {
  live = record { pattern = live.pattern; is = live.is; unmet = live.unmet; within = subst (λ (s : List ℕ). IsWithin s ds) (same_pattern ps k p live.pattern is live.is) within };
  least = before;
}

pub none_left : (ps : List (List ℕ)) (k : ℕ) (ds : List ℕ) → length ps ≤ k → ((j : ℕ) → j < k → IsLiveWithin ps ds j → ⊥) → HasNoneWithin ps ds
none_left ps k ds end before j l = before j (omega (arith, slice_get_within ps j l.pattern l.is)) l

-- the sets of what contracts see are those of the patterns
pub sets_view : {T : Type 0} (ps : List (Pattern T)) → sets (map (λ p. (p.set.items, p.payload)) ps) ≡ map (λ p. p.set.items) ps
sets_view [] = refl
sets_view (p ∷ ps) = ap (λ rest. p.set.items ∷ rest) (sets_view ps)
