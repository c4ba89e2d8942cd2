-- A good leaf is met exactly where the root vanishes and its decisions hold.
use Rattle.std.specs.Prelude.{◌≡◌, ◌≢◌, ℕ, zero, suc, Bool, true, false, if◌then◌else◌, List, [], ◌∷◌, slice_get, slice_index_or, refl}
use Rattle.std.proofs.Common.{◌∙◌, ap}
use Rattle.std.proofs.lemmas.Option.{none-some, same_Some, slice_get-get_or}
use Rattle.std.specs.declared.option.Option.TheVariants.{Some}
use Rattle.field_laws.specs.Field.{Field, IsField, AllElements}
use Rattle.sparse_poly.specs.declared.Term.{Term}
use Rattle.sparse_poly.specs.Polynomials.{eval}
use Rattle.sparse_poly.specs.Units.{AllNonzero}
use Rattle.derive_lines.specs.declared.parts.Decision.{Decision}
use Rattle.derive_lines.specs.Lines.{conditions}
use Rattle.derive_lines.specs.Refuting.{IsSo, AllVanish, AllHold}
use Rattle.derive_lines.proofs.Vanishing.{conditions_hold, item_vanishes, recovered_vanishes}
use Rattle.leaf_cert.specs.Parts.{LeafParts}
use Rattle.leaf_cert.specs.Leaves.{GoodLeaf, Meets}

module _ {E : Type 0} (f : Field E) (l : IsField f) (s : List E) (p : AllElements f s) where
  first_condition : (b : Bool) (q : List Term) (ns : List (List Term)) → AllNonzero f s (if b then ns else q ∷ ns) → b ≡ false → eval f s q ≢ f.zero
  first_condition true q ns h e = absurd (cc e)
  first_condition false q ns h e = h.0

  later_conditions : (b : Bool) (q : List Term) (ns : List (List Term)) → AllNonzero f s (if b then ns else q ∷ ns) → AllNonzero f s ns
  later_conditions true q ns h = h
  later_conditions false q ns h = h.1

  -- a nonzero decision holds where no condition vanishes
  nonzero_holds : (ds : List Decision) (k : ℕ) (d : Decision) → AllNonzero f s (conditions ds) → slice_get ds k ≡ Some d → d.zero ≡ false → eval f s d.poly ≢ f.zero
  nonzero_holds [] k d h e z = absurd (none-some d e)
  nonzero_holds (x ∷ ds) zero d h e z = λ y.
      let same : x ≡ d = same_Some x d e in
      first_condition x.zero x.poly (conditions ds) h (ap (λ (c : Decision). c.zero) same ∙ z) (ap (λ (c : Decision). eval f s c.poly) same ∙ y)
  nonzero_holds (x ∷ ds) (suc k) d h e z = nonzero_holds ds k d (later_conditions x.zero x.poly (conditions ds) h) e z

  is_so : (b : Bool) (q : List Term) → (b ≡ true → eval f s q ≡ f.zero) → (b ≡ false → eval f s q ≢ f.zero) → IsSo f s b q
  is_so true q h k = h refl
  is_so false q h k = k refl

  pub root_vanishes : (root : List (List Term)) (leaf : LeafParts) → GoodLeaf root leaf → Meets f s leaf → AllVanish f s root
  root_vanishes root leaf g m = λ k d lt.
      recovered_vanishes f l s p root leaf.decisions leaf.lines g.lines leaf.equations m.equations m.conditions (g.recovered.equations k (slice_index_or root k d) (slice_get-get_or root k d lt))

  pub decisions_hold : (root : List (List Term)) (leaf : LeafParts) → GoodLeaf root leaf → Meets f s leaf → AllHold f s leaf.decisions
  decisions_hold root leaf g m = λ k d lt.
      let x : Decision = slice_index_or leaf.decisions k d in
      let e : slice_get leaf.decisions k ≡ Some x = slice_get-get_or leaf.decisions k d lt in
      is_so x.zero x.poly
      (λ z. recovered_vanishes f l s p root leaf.decisions leaf.lines g.lines leaf.equations m.equations m.conditions (g.recovered.decisions k x e z))
      (λ z. nonzero_holds leaf.decisions k x m.conditions e z)

  pub leaf_is_met : (root : List (List Term)) (leaf : LeafParts) → GoodLeaf root leaf → AllVanish f s root → AllHold f s leaf.decisions → Meets f s leaf
  leaf_is_met root leaf g v h = record {
    equations = λ k d lt. let i = g.equations.items k d lt in item_vanishes f l s p root leaf.decisions leaf.lines g.lines v h i.item _ i.is;
    conditions = conditions_hold f l s p leaf.decisions h;
  }
