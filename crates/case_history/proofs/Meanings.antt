-- What one assignment tells of a root.
use Rattle.std.specs.Prelude.{◌≡◌, ◌≢◌, ◌⊎◌, ◌↔◌, Bool, true, false, List, [], ◌∷◌, All, Contains}
use Rattle.std.proofs.Common.{arith, refl, inl, inr}
use Rattle.std.proofs.lemmas.List.Elements.{All-nil, All-push, All-weaker, All-contains, All-contains_itself, Contains-append_left, Contains-append_right}
use Rattle.field_laws.specs.Field.{Field}
use Rattle.sparse_poly.specs.declared.Term.{Term}
use Rattle.sparse_poly.specs.Polynomials.{eval}
use Rattle.derive_lines.specs.declared.parts.Decision.{Decision}
use Rattle.derive_lines.specs.declared.parts.Line.{Line}
use Rattle.derive_lines.specs.declared.parts.Item.{Item}
use Rattle.derive_lines.specs.Refuting.{IsSo, Refutes, AllVanish, AllHold, HoldsAt, decided}
use Rattle.refute_store.specs.Live.{IsWithin}
use Rattle.leaf_cert.specs.Parts.{LeafParts}
use Rattle.leaf_cert.specs.Leaves.{GoodLeaf, Meets}

-- whether it solves the root, holds at decisions and meets a leaf
pub record IsMeaning (root : List (List Term)) (solves : Type 0) (holds : List Decision → Type 0) (meets : LeafParts → Type 0) : Type 0 where
  pub top : solves ↔ holds []
  pub branch : (ds : List Decision) (p : List Term) → holds ds → holds (decided ds p true) ⊎ holds (decided ds p false)
  pub apart : (ds : List Decision) (p : List Term) → holds (decided ds p true) → holds (decided ds p false) → ⊥
  pub above : (ds : List Decision) (p : List Term) (zero : Bool) → holds (decided ds p zero) → holds ds
  pub refuted : (pattern : List Decision) (ls : List Line) (end : Item) (ds : List Decision) → Refutes root pattern ls end → IsWithin pattern ds → holds ds → ⊥
  pub leaf : (l : LeafParts) → GoodLeaf root l → meets l ↔ holds l.decisions

all_within : {X : Type 0} (P : X → Type 0) (ps qs : List X) → IsWithin ps qs → All P qs → All P ps
all_within P ps qs within all = All-weaker (Contains ps) P (λ x is. All-contains P qs x all (within x is)) ps (All-contains_itself ps)

module _ {E : Type 0} (f : Field E) (root : List (List Term)) (s : List E) where
  last_so : (ds : List Decision) (p : List Term) (zero : Bool) → AllHold f s (decided ds p zero) → IsSo f s zero p
  last_so ds p zero all =
      let d : Decision = record { poly = p; zero = zero } in
      All-contains (λ (d : Decision). IsSo f s d.zero d.poly) (decided ds p zero) d all (Contains-append_right ds (d ∷ []) d (0, omega arith, refl))

  before_so : (ds : List Decision) (p : List Term) (zero : Bool) → AllHold f s (decided ds p zero) → AllHold f s ds
  before_so ds p zero all = all_within (λ (d : Decision). IsSo f s d.zero d.poly) ds (decided ds p zero) (λ x is. Contains-append_left ds (record { poly = p; zero = zero } ∷ []) x is) all

  with_so : (ds : List Decision) (p : List Term) (zero : Bool) → AllHold f s ds → IsSo f s zero p → AllHold f s (decided ds p zero)
  with_so ds p zero all so = All-push (λ (d : Decision). IsSo f s d.zero d.poly) ds (record { poly = p; zero = zero }) all so

  -- by the laws of fields, refutations and leaves
  pub meaning : ((a b : E) → (a ≡ b) ⊎ (a ≢ b)) →
      ((ds : List Decision) (ls : List Line) (end : Item) → Refutes root ds ls end → AllVanish f s root → AllHold f s ds → ⊥) →
      ((l : LeafParts) → GoodLeaf root l → Meets f s l ↔ HoldsAt f s root l.decisions) →
      IsMeaning root (AllVanish f s root) (HoldsAt f s root) (Meets f s)
  meaning decide refute meet = record {
    top = (λ v. (v, All-nil (λ (d : Decision). IsSo f s d.zero d.poly)), λ h. h.0);
    branch = λ ds p h. elim (decide (eval f s p) f.zero) [ inl is ↦ inl (h.0, with_so ds p true h.1 is) | inr not ↦ inr (h.0, with_so ds p false h.1 not) ];
    apart = λ ds p z n. last_so ds p false n.1 (last_so ds p true z.1);
    above = λ ds p zero h. (h.0, before_so ds p zero h.1);
    refuted = λ pattern ls end ds r within h. refute pattern ls end r h.0 (all_within (λ (d : Decision). IsSo f s d.zero d.poly) pattern ds within h.1);
    leaf = λ l good. meet l good;
  }
