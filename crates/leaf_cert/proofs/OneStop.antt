-- Parts have one stop.
use Rattle.std.specs.Prelude.{◌≡◌, ◌≢◌, ◌<◌, ℕ, suc, List, take, slice_get, refl}
use Rattle.std.proofs.Common.{arith, sym, ◌∙◌, ap, subst}
use Rattle.std.proofs.lemmas.Option.{same_Some}
use Rattle.std.specs.declared.option.Option.TheVariants.{Some}
use Rattle.sparse_poly.specs.declared.Term.{Term}
use Rattle.derive_lines.specs.declared.parts.Decision.{Decision}
use Rattle.derive_lines.specs.declared.parts.Line.{Line as DerivationLine}
use Rattle.derive_lines.specs.declared.parts.Item.{Item}
use Rattle.derive_lines.specs.declared.parts.LineCause.{LineCause}
use Rattle.derive_lines.specs.declared.parts.LineStop.{LineStop}
use Rattle.derive_lines.specs.declared.parts.LineStop.TheVariants.{BadLine, Lost as lost_item, OutOfMemory as no_memory}
use Rattle.derive_lines.specs.Lines.{conditions, AreGoodLines, IsFirstBad}
use Rattle.derive_lines.specs.Recovery.{AllRecovered, IsLost}
use Rattle.derive_lines.proofs.OneAnswer.{good_bad, one_stop}
use Rattle.leaf_cert.specs.declared.ends.LeafEnd.{LeafEnd}
use Rattle.leaf_cert.specs.declared.leaf.LeafStop.{LeafStop}
use Rattle.leaf_cert.specs.declared.leaf.LeafStop.TheVariants.{Line, Equation, Lost, End, OutOfMemory}
use Rattle.leaf_cert.specs.Leaves.{IsItem, IsGoodEquation, AreEquations, IsBadEquation, EndChecks, IsLeafStop}
use Rattle.std.specs.Prelude.{zero, [], ◌∷◌, length}
use Rattle.std.specs.List.Sorted.{IsStrictlySortedBy}
use Rattle.std.specs.declared.cmp.Ordering.TheVariants.{Less}
use Rattle.std.proofs.lemmas.Option.{none-some, slice_get_within, get_or_from_slice_get}
use Rattle.sparse_poly.specs.Order.{poly_cmp}

above_next : (ps : List (List Term)) → IsStrictlySortedBy poly_cmp ps → (j : ℕ) (p q : List Term) → slice_get ps j ≡ Some p → slice_get ps (suc j) ≡ Some q → poly_cmp p q ≡ Less
unfolding IsStrictlySortedBy
above_next [] h j p q e f = absurd (none-some p e)
above_next (x ∷ []) h j p q e f = absurd (none-some q f)
above_next (x ∷ y ∷ ys) h zero p q e f = ap (λ a. poly_cmp a q) (sym (same_Some x p e)) ∙ ap (poly_cmp x) (sym (same_Some y q f)) ∙ h.0.0
above_next (x ∷ y ∷ ys) h (suc j) p q e f = above_next (y ∷ ys) h.1 j p q e f

pub lost_is_apart : (item : Item) → ◌≡◌ {A = LineStop} (lost_item item) no_memory → ⊥
lost_is_apart item e = cc

same_line : (k j : ℕ) (c d : LineCause) → ◌≡◌ {A = LineStop} (BadLine k c) (BadLine j d) → ◌≡◌ {A = LeafStop} (Line k c) (Line j d)
same_line k j c d e = cc

module _ (root : List (List Term)) (ds : List Decision) (ls : List DerivationLine) (eqs : List (List Term)) (end : LeafEnd) (one_lost : (item other : Item) → IsLost root ds ls eqs item → IsLost root ds ls eqs other → item ≡ other) (found : (item : Item) → AllRecovered root ds ls eqs → IsLost root ds ls eqs item → ⊥) where
  no_line : (k : ℕ) (c : LineCause) → IsFirstBad root ds ls k c → AreGoodLines root ds ls → ⊥
  no_line k c h g = good_bad root ds (take k ls) h.line c (g k h.line h.is) h.bad

  good_equation : AreEquations root ds ls eqs → (i : ℕ) (p : List Term) → slice_get eqs i ≡ Some p → IsGoodEquation root ds ls eqs i p
  good_equation a i p e =
      let lt : i < length eqs = slice_get_within eqs i p e in
      record {
        item = subst (IsItem root ds ls) (get_or_from_slice_get eqs i p p e) (a.items i p lt);
        above = λ j q s f. above_next eqs a.ascending j q p f (ap (slice_get eqs) s ∙ e);
      }

  no_equation : (i : ℕ) → IsBadEquation root ds ls eqs i → AreEquations root ds ls eqs → ⊥
  no_equation i b a = b.bad (good_equation a i b.poly b.is)

  one_place : (i j : ℕ) → (i < j → ⊥) → (j < i → ⊥) → i ≡ j
  one_place i j a b = grind arith

  one_equation : (i j : ℕ) → IsBadEquation root ds ls eqs i → IsBadEquation root ds ls eqs j → i ≡ j
  one_equation i j h k = one_place i j (λ l. h.bad (k.first i h.poly l h.is)) (λ l. k.bad (h.first j k.poly l k.is))

  same_lines : (k j : ℕ) (c d : LineCause) → IsFirstBad root ds ls k c → IsFirstBad root ds ls j d → ◌≡◌ {A = LeafStop} (Line k c) (Line j d)
  same_lines k j c d h i = same_line k j c d (one_stop root ds ls (BadLine k c) (BadLine j d) h i (λ e. absurd (cc e)) (λ e. absurd (cc e)))

  pub no_leaf_stop : (stop : LeafStop) → AreGoodLines root ds ls → AreEquations root ds ls eqs → AllRecovered root ds ls eqs → EndChecks eqs (conditions ds) end → IsLeafStop root ds ls eqs end stop → stop ≡ OutOfMemory
  no_leaf_stop (Line k c) g a r e h = absurd (no_line k c h g)
  no_leaf_stop (Equation i) g a r e h = absurd (no_equation i h.1 a)
  no_leaf_stop (Lost item) g a r e h = absurd (found item r h.2)
  no_leaf_stop End g a r e h = absurd (h.3 e)
  no_leaf_stop OutOfMemory g a r e h = refl

  pub one_leaf_stop : (s t : LeafStop) → IsLeafStop root ds ls eqs end s → IsLeafStop root ds ls eqs end t → s ≢ OutOfMemory → t ≢ OutOfMemory → s ≡ t
  one_leaf_stop OutOfMemory t h k n m = absurd (n refl)
  one_leaf_stop (Line k c) OutOfMemory h i n m = absurd (m refl)
  one_leaf_stop (Line k c) (Line j d) h i n m = same_lines k j c d h i
  one_leaf_stop (Line k c) (Equation j) h i n m = absurd (no_line k c h i.0)
  one_leaf_stop (Line k c) (Lost item) h i n m = absurd (no_line k c h i.0)
  one_leaf_stop (Line k c) End h i n m = absurd (no_line k c h i.0)
  one_leaf_stop (Equation k) OutOfMemory h i n m = absurd (m refl)
  one_leaf_stop (Equation k) (Line j d) h i n m = absurd (no_line j d i h.0)
  one_leaf_stop (Equation k) (Equation j) h i n m = ap Equation (one_equation k j h.1 i.1)
  one_leaf_stop (Equation k) (Lost item) h i n m = absurd (no_equation k h.1 i.1)
  one_leaf_stop (Equation k) End h i n m = absurd (no_equation k h.1 i.1)
  one_leaf_stop (Lost item) OutOfMemory h i n m = absurd (m refl)
  one_leaf_stop (Lost item) (Line j d) h i n m = absurd (no_line j d i h.0)
  one_leaf_stop (Lost item) (Equation j) h i n m = absurd (no_equation j i.1 h.1)
  one_leaf_stop (Lost item) (Lost other) h i n m = ap Lost (one_lost item other h.2 i.2)
  one_leaf_stop (Lost item) End h i n m = absurd (found item i.2 h.2)
  one_leaf_stop End OutOfMemory h i n m = absurd (m refl)
  one_leaf_stop End (Line j d) h i n m = absurd (no_line j d i h.0)
  one_leaf_stop End (Equation j) h i n m = absurd (no_equation j i.1 h.1)
  one_leaf_stop End (Lost item) h i n m = absurd (found item h.2 i.2)
  one_leaf_stop End End h i n m = refl
