-- One turn, from the seat before to the seat after.
use Rattle.std.proofs.Common.{◌≡◌, ℕ, List, [], ◌∷◌, Option, Some, None, sym, ap, subst, ◌∙◌}
use mathlib.Core.List.{IsPrefix}
use Rattle.atomic_table.specs.Table.{Me, rest}
use Rattle.turn_lock.specs.declared.view.View.{View}
use Rattle.turn_lock.specs.Turn.{Takes, Releases, at_turn, after_turn}
use Rattle.turn_lock.specs.Lock.{HasTaken}

module _ {V E O : Type 0} (origin : V → O) (history : V → List E) where
  abbrev first_of : View E O → List (View E O) → View E O
  first_of d [] = d
  first_of d (v ∷ vs) = v

  abbrev slot_of : Option V → List (ℕ × Option V) → Option V
  slot_of d [] = d
  slot_of d (p ∷ ps) = p.1

  unsome : (a b : V) → ◌≡◌ {A = Option V} (Some a) (Some b) → a ≡ b
  unsome a b e = cc e

  -- the seat has the value's slot alone
  pub has_slot : (me me' : Me (Option V) (List (View E O))) → me.1 ≡ [] → (t : Takes origin history me me') → me' ≡ (at_turn t.mine (history t.value) ∷ [], (0, Some t.value) ∷ [])
  has_slot me me' none t = t.is ∙ (λ i. (at_turn t.mine (history t.value) ∷ [], (0, Some t.value) ∷ none i))

  pub has_taken : (me me1 me2 : Me (Option V) (List (View E O))) (found : Option V) (x : V) → me.1 ≡ [] → Takes origin history me me1 → me1.1 ≡ (0, found) ∷ rest me1.1 → me2 ≡ (me1.0, (0, None) ∷ rest me1.1) → found ≡ Some x → HasTaken origin history me x me2
  has_taken me me1 me2 found x none t there then is_x =
      let held = has_slot me me1 none t in
      let got = sym (ap (λ (m : Me (Option V) (List (View E O))). m.1) held) ∙ there in
      let same : t.value ≡ x = unsome t.value x (ap (λ (l : List (ℕ × Option V)). slot_of found l) got ∙ is_x) in
      record {
        mine = t.mine;
        was = λ i. (t.was i, none i);
        origin_is = ap origin (sym same) ∙ t.origin_is;
        begins = subst (λ (z : V). IsPrefix t.mine.seen (history z)) same t.begins;
        is = then ∙ ap (λ (m : Me (Option V) (List (View E O))). (m.0, (0, None) ∷ rest m.1)) held ∙ ap (λ (z : V). (at_turn t.mine (history z) ∷ [], (0, None) ∷ [])) same;
      }

  pub put_back : (me me2 me3 : Me (Option V) (List (View E O))) (x y : V) (t : HasTaken origin history me x me2) → me3 ≡ (me2.0, (0, Some y) ∷ rest me2.1) → me3 ≡ (at_turn t.mine (history x) ∷ [], (0, Some y) ∷ [])
  put_back me me2 me3 x y t last = last ∙ ap (λ (m : Me (Option V) (List (View E O))). (m.0, (0, Some y) ∷ rest m.1)) t.is

  pub released : (v : View E O) (y : V) (me3 me4 : Me (Option V) (List (View E O))) → me3 ≡ (v ∷ [], (0, Some y) ∷ []) → Releases history me3 me4 → me4 ≡ (after_turn v (history y) ∷ [], [])
  released v y me3 me4 is r =
      let both = sym r.was ∙ is in
      let same : r.mine ≡ v = ap (λ (m : Me (Option V) (List (View E O))). first_of r.mine m.0) both in
      let value : r.value ≡ y = unsome r.value y (ap (λ (m : Me (Option V) (List (View E O))). slot_of (Some r.value) m.1) both) in
      r.is ∙ (λ i. (after_turn (same i) (history (value i)) ∷ [], []))
