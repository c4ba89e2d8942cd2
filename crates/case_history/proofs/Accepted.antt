-- At a complete history an assignment is at leaves alone.
use Rattle.std.specs.Prelude.{◌≡◌, ℕ, List, reverse}
use Rattle.std.specs.declared.option.Option.TheVariants.{Some}
use Rattle.std.proofs.Common.{refl, sym, ◌∙◌, ap, inl, inr}
use Rattle.std.proofs.lemmas.Option.{same_Some}
use Rattle.sparse_poly.specs.declared.Term.{Term}
use Rattle.derive_lines.specs.declared.parts.Decision.{Decision}
use Rattle.leaf_cert.specs.Parts.{LeafParts}
use Rattle.leaf_cert.specs.declared.certificate.RawEntry.{RawEntry}
use Rattle.case_history.specs.History.{Placed, publish, fate, IsComplete}
use Rattle.case_history.specs.Replay.{Replays}
use Rattle.case_history.specs.JustOne.{IsAtCase, IsAtJustOne, IsLeafAt, MeetsJustOneLeaf}
use Rattle.case_history.proofs.Numbers.{same_test}
use Rattle.case_history.proofs.Replays.{fate_stands, stands_fate}

module _ (root : List (List Term)) (solves : Type 0) (holds : List Decision → Type 0) (meets : LeafParts → Type 0) where
  pub just_one_leaf : (h : List RawEntry) → Replays root h → IsComplete h → IsAtJustOne solves holds meets h → MeetsJustOneLeaf solves meets (reverse h)
  just_one_leaf h r complete just = record {
    some = λ s. let at = just.some s in found at.0 at.1;
    only = λ place l. just.only l.n (at_leaf place l);
    one = λ place other a b.
        let same : a.n ≡ b.n = just.one a.n b.n (at_leaf place a) (at_leaf other b) in
        ap (λ (p : Placed). p.place) (same_Some _ _ (sym (stands place a) ∙ (ap (fate h) same ∙ stands other b)));
  }
    where
      stands : (place : ℕ) (l : IsLeafAt meets (reverse h) place) → fate h l.n ≡ Some (record { place = place; entry = publish l.n l.leaf })
      stands place l = stands_fate root h l.n place _ r l.is (same_test l.n l.n refl)

      at_leaf : (place : ℕ) (l : IsLeafAt meets (reverse h) place) → IsAtCase holds meets h l.n
      at_leaf place l = inr (record { leaf = l.leaf; place = place; published = stands place l; meets_it = l.meets_it })

      found : (n : ℕ) → IsAtCase holds meets h n → (place : ℕ) × IsLeafAt meets (reverse h) place
      found n (inl p) = absurd (complete n p.pending)
      found n (inr l) = (l.place, record { n = n; leaf = l.leaf; is = (fate_stands h n _ l.published).0; meets_it = l.meets_it })
