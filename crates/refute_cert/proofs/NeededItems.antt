-- Marking what is needed, from the last line to the first.
use Rattle.std.specs.Prelude.{◌≡◌, ◌<◌, ◌≤◌, ℕ, suc, ◌⊎◌, Bool, true, List, length, slice_get, refl}
use mathlib.Core.Logic.{inl, inr}
use Rattle.std.proofs.Common.{arith, sym, ◌∙◌, ap, subst}
use Rattle.std.proofs.lemmas.Option.{same_Some, slice_get_within}
use Rattle.std.specs.declared.option.Option.{Option}
use Rattle.std.specs.declared.option.Option.TheVariants.{Some}
use Rattle.derive_lines.specs.declared.parts.Line.{Line}
use Rattle.derive_lines.specs.declared.parts.Item.{Item}
use Rattle.derive_lines.specs.declared.parts.Item.TheVariants.{Root, Decision as of_decision, Line as of_line}
use Rattle.refute_cert.specs.Cone.{IsNeeded, is_end, is_from, is_by}
use Rattle.refute_cert.specs.Marks.{IsMarked, IsMarkedItem, IsPlaced, RefersTo, ReferEarlier, AreNeededFrom, AreNeeded}

-- what one mark more says
abbrev pub Marks : Option Item → ℕ → ℕ → List Bool → List Bool → List Bool → List Bool → Type 0
Marks item m n ol od nl nd = (x : Item) → (IsMarkedItem nl nd x → IsMarkedItem ol od x ⊎ ((item ≡ Some x) × IsPlaced m n x)) × (IsMarkedItem ol od x ⊎ ((item ≡ Some x) × IsPlaced m n x) → IsMarkedItem nl nd x)

module _ (ls : List Line) (count : ℕ) (end : Item) where
  unmarked_item : (ml md : List Bool) → ((k : ℕ) → IsMarked ml k → ⊥) → ((k : ℕ) → IsMarked md k → ⊥) → (x : Item) → IsMarkedItem ml md x → ⊥
  unmarked_item ml md h i (Root k) m = m
  unmarked_item ml md h i (of_decision k) m = i k m
  unmarked_item ml md h i (of_line k) m = h k m

  -- the end is marked
  pub needed_start : (ol od nl nd : List Bool) → length ol ≡ length ls → length od ≡ count → length nl ≡ length ol → length nd ≡ length od → ((k : ℕ) → IsMarked ol k → ⊥) → ((k : ℕ) → IsMarked od k → ⊥) → Marks (Some end) (length ol) (length od) ol od nl nd → AreNeededFrom ls count end (length ls) nl nd
  needed_start ol od nl nd a b c d h i m = record {
    lines_length = c ∙ a;
    decisions_length = d ∙ b;
    sound = λ x k. sound x ((m x).0 k);
    ended = λ p. (m end).1 (inr (refl, subst (λ n. IsPlaced n (length od) end) (sym a) (subst (λ n. IsPlaced (length ls) n end) (sym b) p)));
    closed = λ k line x le e f r p. let lt : k < length ls = slice_get_within ls k line f in absurd (omega arith);
  }
    where
      sound : (x : Item) → IsMarkedItem ol od x ⊎ ((Some end ≡ Some x) × IsPlaced (length ol) (length od) x) → IsNeeded ls end x × IsPlaced (length ls) count x
      sound x (inl k) = absurd (unmarked_item ol od h i x k)
      sound x (inr k) = (subst (IsNeeded ls end) (same_Some end x k.0) is_end, subst (λ n. IsPlaced n count x) a (subst (λ n. IsPlaced (length ol) n x) b k.1))

  -- the items of a marked line are marked
  pub needed_marked : (k : ℕ) (line : Line) (al ad bl bd cl cd : List Bool) → ReferEarlier ls → slice_get ls k ≡ Some line → slice_get al k ≡ Some true → AreNeededFrom ls count end (suc k) al ad → length bl ≡ length al → length bd ≡ length ad → length cl ≡ length bl → length cd ≡ length bd → Marks line.from (length al) (length ad) al ad bl bd → Marks line.by (length bl) (length bd) bl bd cl cd → AreNeededFrom ls count end k cl cd
  needed_marked k line al ad bl bd cl cd early is at h e1 e2 e3 e4 m1 m2 = record {
    lines_length = e3 ∙ e1 ∙ h.lines_length;
    decisions_length = e4 ∙ e2 ∙ h.decisions_length;
    sound = λ x m. sound x (old x m);
    ended = λ p. keep end (h.ended p);
    closed = λ i l x le m e r p. closed i l x e r p (old (of_line i) m) (cases i le);
  }
    where
      needed : IsNeeded ls end (of_line k)
      needed = (h.sound (of_line k) at).0

      keep : (x : Item) → IsMarkedItem al ad x → IsMarkedItem cl cd x
      keep x m = (m2 x).1 (inl ((m1 x).1 (inl m)))

      placed1 : (x : Item) → IsPlaced (length al) (length ad) x → IsPlaced (length ls) count x
      placed1 x p = subst (λ n. IsPlaced n count x) h.lines_length (subst (λ n. IsPlaced (length al) n x) h.decisions_length p)

      placed2 : (x : Item) → IsPlaced (length bl) (length bd) x → IsPlaced (length ls) count x
      placed2 x p = placed1 x (subst (λ n. IsPlaced n (length ad) x) e1 (subst (λ n. IsPlaced (length bl) n x) e2 p))

      back1 : (x : Item) → IsPlaced (length ls) count x → IsPlaced (length al) (length ad) x
      back1 x p = subst (λ n. IsPlaced n (length ad) x) (sym h.lines_length) (subst (λ n. IsPlaced (length ls) n x) (sym h.decisions_length) p)

      back2 : (x : Item) → IsPlaced (length ls) count x → IsPlaced (length bl) (length bd) x
      back2 x p = subst (λ n. IsPlaced n (length bd) x) (sym e1) (subst (λ n. IsPlaced (length al) n x) (sym e2) (back1 x p))

      -- a mark is old, or of an item of the line
      old1 : (x : Item) → IsMarkedItem al ad x ⊎ ((line.from ≡ Some x) × IsPlaced (length al) (length ad) x) → IsMarkedItem al ad x ⊎ (RefersTo line x × IsPlaced (length ls) count x)
      old1 x (inl m) = inl m
      old1 x (inr m) = inr (inl m.0, placed1 x m.1)

      old2 : (x : Item) → IsMarkedItem bl bd x ⊎ ((line.by ≡ Some x) × IsPlaced (length bl) (length bd) x) → IsMarkedItem al ad x ⊎ (RefersTo line x × IsPlaced (length ls) count x)
      old2 x (inl m) = old1 x ((m1 x).0 m)
      old2 x (inr m) = inr (inr m.0, placed2 x m.1)

      old : (x : Item) → IsMarkedItem cl cd x → IsMarkedItem al ad x ⊎ (RefersTo line x × IsPlaced (length ls) count x)
      old x m = old2 x ((m2 x).0 m)

      by_line : (x : Item) → RefersTo line x → IsNeeded ls end x
      by_line x (inl e) = is_from needed is e
      by_line x (inr e) = is_by needed is e

      sound : (x : Item) → IsMarkedItem al ad x ⊎ (RefersTo line x × IsPlaced (length ls) count x) → IsNeeded ls end x × IsPlaced (length ls) count x
      sound x (inl m) = h.sound x m
      sound x (inr m) = (by_line x m.0, m.1)

      cases : (i : ℕ) → k ≤ i → (suc k ≤ i) ⊎ (i ≡ k)
      cases i l = grind arith

      own : (x : Item) → RefersTo line x → IsPlaced (length ls) count x → IsMarkedItem cl cd x
      own x (inl e) p = (m2 x).1 (inl ((m1 x).1 (inr (e, back1 x p))))
      own x (inr e) p = (m2 x).1 (inr (e, back2 x p))

      closed : (i : ℕ) (l : Line) (x : Item) → slice_get ls i ≡ Some l → RefersTo l x → IsPlaced (length ls) count x → IsMarkedItem al ad (of_line i) ⊎ (RefersTo line (of_line i) × IsPlaced (length ls) count (of_line i)) → (suc k ≤ i) ⊎ (i ≡ k) → IsMarkedItem cl cd x
      closed i l x e r p (inl m) (inl le) = keep x (h.closed i l x le m e r p)
      closed i l x e r p (inr m) (inl le) = let lt : i < k = early k i line is m.0 in absurd (omega arith)
      closed i l x e r p m (inr s) = own x (subst (λ y. RefersTo y x) (same_Some l line (sym e ∙ ap (slice_get ls) s ∙ is)) r) p

  -- once all lines are passed, the marked items are those that are needed
  pub needed_all : (ml md : List Bool) → AreNeededFrom ls count end 0 ml md → AreNeeded ls count end ml md
  needed_all ml md h = record {
    lines_length = h.lines_length;
    decisions_length = h.decisions_length;
    marked = λ x. (λ m. h.sound x m, λ n. complete n.0 n.1);
  }
    where
      complete : {x : Item} → IsNeeded ls end x → IsPlaced (length ls) count x → IsMarkedItem ml md x
      complete is_end p = h.ended p
      complete {x} (is_from {k = k} {line = line} n e f) p = h.closed k line x (omega arith) (complete n (slice_get_within ls k line e)) e (inl f) p
      complete {x} (is_by {k = k} {line = line} n e f) p = h.closed k line x (omega arith) (complete n (slice_get_within ls k line e)) e (inr f) p
