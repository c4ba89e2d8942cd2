-- What a replay keeps: refutations of its patterns, and where its entries stand.
use Rattle.std.specs.Prelude.{◌≡◌, ◌<◌, ◌⊎◌, ℕ, Bool, true, false, List, [], ◌∷◌, ◌++◌, length, slice_get, reverse}
use Rattle.std.specs.declared.option.Option.TheVariants.{None, Some}
use Rattle.std.specs.declared.option.Option.{Option}
use Rattle.std.proofs.Common.{refl, sym, ◌∙◌, ap, inl, inr, subst}
use Rattle.std.proofs.lemmas.Option.{none-some, same_Some}
use Rattle.std.proofs.lemmas.List.{reverse-append, length-reverse}
use Rattle.sparse_poly.specs.declared.Term.{Term}
use Rattle.derive_lines.specs.declared.parts.Decision.{Decision}
use Rattle.refute_store.specs.Live.{IsPattern}
use Rattle.refute_cert.proofs.Pushes.{get_pushed, get_before, get_last}
use Rattle.leaf_cert.specs.declared.certificate.RawEntry.{RawEntry}
use Rattle.leaf_cert.specs.declared.certificate.RawEntry.TheVariants.{Split, Post, Close, Publish}
use Rattle.case_history.specs.History.{Placed, settles, fate, cases_made, patterns, IsPending}
use Rattle.case_history.specs.Replay.{Replays, HasRefutation, SettlesAt}
use Rattle.case_history.proofs.Fates.{fate-other, fate-same, settles_pending, settled_made}

-- each pattern has a refutation
pub patterns_refuted : (root : List (List Term)) (h : List RawEntry) (k : ℕ) (p : List Decision) → Replays root h → IsPattern (patterns h) k p → HasRefutation root p
patterns_refuted root [] k p r is = absurd (none-some p is)
patterns_refuted root (Split m by ∷ h) k p r is = patterns_refuted root h k p r.1 is
patterns_refuted root (Post ds ls end ∷ h) k p r is = elim (get_pushed (patterns h) ds k p is) [
  | inl old ↦ patterns_refuted root h k p r.1 old
  | inr new ↦ subst (HasRefutation root) new.1 (record { lines = ls; end = end; refutes = r.0 })
]
patterns_refuted root (Close m j ∷ h) k p r is = patterns_refuted root h k p r.1 is
patterns_refuted root (Publish m ds ls es end ∷ h) k p r is = patterns_refuted root h k p r.1 is

reverse-cons : {X : Type 0} (x : X) (xs : List X) → reverse (x ∷ xs) ≡ reverse xs ++ x ∷ []
reverse-cons x xs = reverse-append (x ∷ []) xs

-- the entry that settled a case stands at its place
pub fate_stands : (h : List RawEntry) (n : ℕ) (p : Placed) → fate h n ≡ Some p → (slice_get (reverse h) p.place ≡ Some p.entry) × (settles p.entry n ≡ true)
fate_stands [] n p is = absurd (none-some p is)
fate_stands (e ∷ h) n p is = go (fate_stands h n p) (settles e n) refl
  where
    go : (fate h n ≡ Some p → (slice_get (reverse h) p.place ≡ Some p.entry) × (settles p.entry n ≡ true)) → (b : Bool) → settles e n ≡ b → (slice_get (reverse (e ∷ h)) p.place ≡ Some p.entry) × (settles p.entry n ≡ true)
    go ih true t =
        let same : record { place = length h; entry = e } ≡ p = same_Some _ _ (sym (fate-same e h n t) ∙ is) in
        rw (sym same) (ap (λ l. slice_get l (length h)) (reverse-cons e h) ∙ subst (λ (i : ℕ). slice_get (reverse h ++ e ∷ []) i ≡ Some e) (length-reverse h) (get_last (reverse h) e), t)
    go ih false t =
        let old_one = ih (sym (fate-other e h n t) ∙ is) in
        (ap (λ l. slice_get l p.place) (reverse-cons e h) ∙ get_before (reverse h) e p.place p.entry old_one.0, old_one.1)

-- an entry that settles case n is its fate
pub stands_fate : (root : List (List Term)) (h : List RawEntry) (n place : ℕ) (e : RawEntry) → Replays root h → slice_get (reverse h) place ≡ Some e → settles e n ≡ true → fate h n ≡ Some (record { place = place; entry = e })
stands_fate root [] n place e r is s = absurd (none-some e is)
stands_fate root (d ∷ h) n place e r is s = elim (get_pushed (reverse h) d place e (sym (ap (λ l. slice_get l place) (reverse-cons d h)) ∙ is)) [
  | inl before ↦ older (stands_fate root h n place e r.1 before s)
  | inr new ↦ newest (new.0 ∙ length-reverse h) new.1
]
  where
    older : fate h n ≡ Some (record { place = place; entry = e }) → fate (d ∷ h) n ≡ Some (record { place = place; entry = e })
    older ih = go (settles d n) refl
      where
        go : (b : Bool) → settles d n ≡ b → fate (d ∷ h) n ≡ Some (record { place = place; entry = e })
        go true t = absurd (none-some _ (sym (settles_pending root d h n r.0 t).unsettled ∙ ih))
        go false t = fate-other d h n t ∙ ih

    newest : place ≡ length h → d ≡ e → fate (d ∷ h) n ≡ Some (record { place = place; entry = e })
    newest at same = fate-same d h n (ap (λ x. settles x n) same ∙ s) ∙ ap Some (rw (same, at) refl)

settled_fate : (root : List (List Term)) (h : List RawEntry) (n place : ℕ) → Replays root h → (s : SettlesAt h n place) → fate h n ≡ Some (record { place = place; entry = s.entry })
settled_fate root h n place r s = stands_fate root h n place s.entry r s.is s.settles_it

-- a case that was made is pending or settled
pub pending_or_settled : (h : List RawEntry) (n : ℕ) → n < cases_made h → IsPending h n ⊎ ((place : ℕ) × SettlesAt h n place)
pending_or_settled h n lt = go (fate h n) refl
  where
    go : (o : Option Placed) → fate h n ≡ o → IsPending h n ⊎ ((place : ℕ) × SettlesAt h n place)
    go None is = inl (record { made = lt; unsettled = is })
    go (Some p) is = let s = fate_stands h n p is in inr (p.place, record { entry = p.entry; is = s.0; settles_it = s.1 })

pub pending_unsettled : (root : List (List Term)) (h : List RawEntry) (n place : ℕ) → Replays root h → IsPending h n → SettlesAt h n place → ⊥
pending_unsettled root h n place r p s = none-some _ (sym p.unsettled ∙ settled_fate root h n place r s)

pub settled_once : (root : List (List Term)) (h : List RawEntry) (n place other : ℕ) → Replays root h → SettlesAt h n place → SettlesAt h n other → place ≡ other
settled_once root h n place other r s t = ap (λ (p : Placed). p.place) (same_Some _ _ (sym (settled_fate root h n place r s) ∙ settled_fate root h n other r t))

pub settled_was_made : (root : List (List Term)) (h : List RawEntry) (n place : ℕ) → Replays root h → SettlesAt h n place → n < cases_made h
settled_was_made root h n place r s = settled_made root h n _ r (settled_fate root h n place r s)
