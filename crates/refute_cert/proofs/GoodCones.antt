-- The cone of a refutation is one, and its pattern is within the decisions.
use Rattle.std.specs.Prelude.{◌≡◌, ◌<◌, ℕ, zero, suc, ◌+◌, ◌-◌, ◌⊎◌, Bool, true, false, ℤ, pos, negsuc, List, [], ◌∷◌, length, take, slice_get, refl}
use mathlib.Core.Logic.{inl, inr}
use Rattle.std.proofs.Common.{arith, sym, ◌∙◌, ap, subst}
use Rattle.std.proofs.lemmas.Bool.{true≢false}
use Rattle.std.proofs.lemmas.Option.{none-some, same_Some, slice_get_within, slice_get-get_or, get_or_from_slice_get}
use Rattle.std.specs.Ordering.{is_eq}
use Rattle.std.specs.declared.option.Option.{Option}
use Rattle.std.specs.declared.option.Option.TheVariants.{None, Some}
use Rattle.sparse_poly.specs.declared.Term.{Term}
use Rattle.sparse_poly.specs.Polynomials.{constant, products}
use Rattle.sparse_poly.specs.Contributions.{contributions, IsPoly}
use Rattle.sparse_poly.specs.Order.{poly_cmp}
use Rattle.sparse_poly.specs.Clearing.{IsUnit}
use Rattle.derive_lines.specs.declared.parts.Decision.{Decision}
use Rattle.derive_lines.specs.declared.parts.Line.{Line}
use Rattle.derive_lines.specs.declared.parts.Item.{Item}
use Rattle.derive_lines.specs.declared.parts.Item.TheVariants.{Root, Decision as of_decision, Line as of_line}
use Rattle.derive_lines.specs.declared.parts.Way.{Way}
use Rattle.derive_lines.specs.declared.parts.Way.TheVariants.{Fwd, Back}
use Rattle.derive_lines.specs.Lines.{conditions, zero_poly, made_poly, item_poly, operand, IsThere, IsThereFor, StartsFromItem, reduced, rest, multiplier, multiplier_in, SidesAgree, IsGoodLine}
use Rattle.derive_lines.specs.Refuting.{IsNonzeroConstant, IsContradiction, Ends, Refutes}
use Rattle.derive_lines.proofs.KnownSets.{same_test, contains-holds, holds-contains}
use Rattle.refute_cert.specs.Parts.{RefutationParts}
use Rattle.refute_cert.specs.Cone.{IsKeptCondition, StandsAt, IsRenumbered, IsRenumberedOperand, IsRenumberedLine, HavePolyMultipliers, IsCone}
use Rattle.refute_store.specs.Live.{IsWithin}
use Rattle.refute_cert.specs.KeptPlaces.{ArePlaces}
use Rattle.refute_cert.proofs.Endings.{zero_no_constant}
use Rattle.refute_cert.proofs.FewerConditions.{IsThinned, kept_member, fewer_unit}
use Rattle.refute_cert.proofs.Places.{some_at, get_within_take, get_in_take, place_before, thinned}

abbrev first_coeff : List Term → ℤ
first_coeff [] = pos 0
first_coeff (t ∷ ts) = t.coeff

constant_by_coeff : (t : Term) (n : ℤ) → t ∷ [] ≡ constant n → constant t.coeff ≡ t ∷ []
constant_by_coeff t (pos zero) e = absurd (cc e)
constant_by_coeff t (pos (suc n)) e = ap constant (ap first_coeff e) ∙ sym e
constant_by_coeff t (negsuc n) e = ap constant (ap first_coeff e) ∙ sym e

long_no_constant : (t u : Term) (us : List Term) (n : ℤ) → t ∷ u ∷ us ≡ constant n → ⊥
long_no_constant t u us (pos zero) e = cc
long_no_constant t u us (pos (suc n)) e = cc
long_no_constant t u us (negsuc n) e = cc

constant_or_not : (p : List Term) → IsNonzeroConstant p ⊎ (IsNonzeroConstant p → ⊥)
constant_or_not [] = inr (zero_no_constant [] refl)
constant_or_not (t ∷ u ∷ us) = inr (λ c. long_no_constant t u us c.number c.is)
constant_or_not (t ∷ []) = each (is_eq (poly_cmp (constant t.coeff) (t ∷ []))) refl
  where
    empty : (z : ℤ) → z ≡ pos 0 → t ∷ [] ≡ constant z → ⊥
    empty z e f = absurd (cc (f ∙ ap constant e))

    each : (b : Bool) → is_eq (poly_cmp (constant t.coeff) (t ∷ [])) ≡ b → IsNonzeroConstant (t ∷ []) ⊎ (IsNonzeroConstant (t ∷ []) → ⊥)
    each true e = let s : t ∷ [] ≡ constant t.coeff = (same_test (constant t.coeff) (t ∷ [])).0 e in inl (record { number = t.coeff; nonzero = λ z. empty t.coeff z s; is = s })
    each false e = inr (λ c. true≢false (sym ((same_test (constant t.coeff) (t ∷ [])).1 (sym (constant_by_coeff t c.number c.is))) ∙ e))

same_sides : (w w' : Way) (l l' a a' m m' x x' from by : List Term) → w' ≡ w → l' ≡ l → a' ≡ a → m' ≡ m → x' ≡ x → SidesAgree (contributions l (reduced w from x) a by) (products m (rest w from x)) → SidesAgree (contributions l' (reduced w' from x') a' by) (products m' (rest w' from x'))
same_sides w w' l l' a a' m m' x x' from by ew el ea em ex h =
    subst (λ v. SidesAgree (contributions l' (reduced v from x') a' by) (products m' (rest v from x'))) (sym ew)
    (subst (λ v. SidesAgree (contributions v (reduced w from x') a' by) (products m' (rest w from x'))) (sym el)
    (subst (λ v. SidesAgree (contributions l (reduced w from x') v by) (products m' (rest w from x'))) (sym ea)
    (subst (λ v. SidesAgree (contributions l (reduced w from x') a by) (products v (rest w from x'))) (sym em)
    (subst (λ v. SidesAgree (contributions l (reduced w from v) a by) (products m (rest w from v))) (sym ex) h))))

-- a line by new places has its old multiplier
same_multiplier : (js ks : List ℕ) (line new : Line) → IsRenumberedLine js ks line new → multiplier new ≡ multiplier line
same_multiplier js ks line new n = ap (λ w. multiplier_in w new.l new.m) n.way ∙ ap (λ x. multiplier_in line.way x new.m) n.l ∙ ap (λ x. multiplier_in line.way line.l x) n.m

module _ (js ks : List ℕ) where
  fits : (a : List Term) (o new : Option Item) → IsRenumberedOperand js ks o new → IsThereFor a o → IsThereFor a new
  fits a None new e h = subst (IsThereFor a) (sym e) h
  fits a (Some item) new e h = subst (IsThereFor a) (sym e.1) h

  starts : (w : Way) (o new : Option Item) → IsRenumberedOperand js ks o new → StartsFromItem w o → StartsFromItem w new
  starts Back o new e h = tt
  starts Fwd None new e h = absurd h
  starts Fwd (Some item) new e h = subst IsThere (sym e.1) tt

module _ (root : List (List Term)) (ds : List Decision) (ls : List Line) (end : Item) (good : Refutes root ds ls end) (r : RefutationParts) (c : IsCone root ds ls end r) (polys : HavePolyMultipliers r.lines) where
  abbrev K : List Term → Type 0
  K n = IsKeptCondition root ds ls end n

  thin : IsThinned K (conditions ds) (conditions r.pattern)
  thin =
      thinned K 0 ds c.decisions_kept r.pattern c.decisions_ascend c.pattern_length
      (λ i d e. let s = c.pattern i d e in let o : s.place - 0 ≡ s.place = omega arith in (s.place, s.kept, ap (slice_get ds) o ∙ s.is ∙ ap Some s.so))
      (λ j d e z n k. let o : j ≡ 0 + j = omega arith in let w = (c.decisions_are j).1 (inr (record { decision = d; is = e; nonzero = z; kept = k })) in n (w.0, w.1 ∙ ap Some o))

  decision_at : (i j : ℕ) → slice_get c.decisions_kept i ≡ Some j → slice_get r.pattern i ≡ slice_get ds j
  decision_at i j e =
      let lt : i < length c.decisions_kept = slice_get_within c.decisions_kept i j e in
      let x = some_at r.pattern i (omega (arith, c.pattern_length)) in
      let s = c.pattern i x.0 x.1 in
      x.1 ∙ ap Some (sym s.so) ∙ sym s.is ∙ ap (slice_get ds) (same_Some s.place j (sym s.kept ∙ e))

  line_at : (i k : ℕ) (line : Line) → slice_get c.lines_kept i ≡ Some k → slice_get ls k ≡ Some line → (new : Line) × (slice_get r.lines i ≡ Some new) × (new.made ≡ line.made)
  line_at i k line e f =
      let lt : i < length c.lines_kept = slice_get_within c.lines_kept i k e in
      let x = some_at r.lines i (omega (arith, c.lines_length)) in
      let s = c.each_line i x.0 x.1 in
      let old : s.old ≡ line = same_Some s.old line (sym s.is ∙ ap (slice_get ls) (same_Some s.place k (sym s.kept ∙ e)) ∙ f) in
      (x.0, x.1, s.so.made ∙ ap (λ (y : Line). y.made) old)

  made_is : (k : ℕ) (lines : List Line) (p : List Term) → made_poly (slice_get lines k) ≡ Some p → (line : Line) × (slice_get lines k ≡ Some line) × (line.made ≡ p)
  made_is k [] p e = absurd (none-some p e)
  made_is zero (y ∷ ys) p e = (y, refl, same_Some y.made p e)
  made_is (suc k) (y ∷ ys) p e = made_is k ys p e

  moved_item : (item new : Item) (p : List Term) (i k : ℕ) → IsRenumbered c.decisions_kept c.lines_kept item new → slice_get c.lines_kept i ≡ Some k → item_poly root ds (take k ls) item ≡ Some p → item_poly root r.pattern (take i r.lines) new ≡ Some p
  moved_item (Root n) new p i k e f h = ap (item_poly root r.pattern (take i r.lines)) e ∙ h
  moved_item (of_decision j) new p i k e f h = ap (item_poly root r.pattern (take i r.lines)) e.1 ∙ ap zero_poly (decision_at e.0 j e.2) ∙ h
  moved_item (of_line j) new p i k e f h =
      let m = made_is j (take k ls) p h in
      let w = get_within_take k ls j m.0 m.1 in
      let x = line_at e.0 j m.0 e.2 w.1 in
      let lt : e.0 < i = place_before 0 c.lines_kept e.0 i j k c.lines_ascend e.2 f w.0 in
      ap (item_poly root r.pattern (take i r.lines)) e.1 ∙ ap made_poly (get_in_take i r.lines e.0 x.0 lt x.1) ∙ ap Some (x.2 ∙ m.2)

  moved_end : (item new : Item) (p : List Term) → IsRenumbered c.decisions_kept c.lines_kept item new → item_poly root ds ls item ≡ Some p → item_poly root r.pattern r.lines new ≡ Some p
  moved_end (Root n) new p e h = ap (item_poly root r.pattern r.lines) e ∙ h
  moved_end (of_decision j) new p e h = ap (item_poly root r.pattern r.lines) e.1 ∙ ap zero_poly (decision_at e.0 j e.2) ∙ h
  moved_end (of_line j) new p e h =
      let m = made_is j ls p h in
      let x = line_at e.0 j m.0 e.2 m.1 in
      ap (item_poly root r.pattern r.lines) e.1 ∙ ap made_poly x.1 ∙ ap Some (x.2 ∙ m.2)

  moved_operand : (o new : Option Item) (p : List Term) (i k : ℕ) → IsRenumberedOperand c.decisions_kept c.lines_kept o new → slice_get c.lines_kept i ≡ Some k → operand root ds (take k ls) o ≡ Some p → operand root r.pattern (take i r.lines) new ≡ Some p
  moved_operand None new p i k e f h = ap (operand root r.pattern (take i r.lines)) e ∙ h
  moved_operand (Some item) new p i k e f h = ap (operand root r.pattern (take i r.lines)) e.1 ∙ moved_item item e.0 p i k e.2 f h

  good_line : (i : ℕ) (new : Line) → slice_get r.lines i ≡ Some new → IsGoodLine root r.pattern (take i r.lines) new
  good_line i new e =
      let s = c.each_line i new e in
      let g = good.lines s.place s.old s.is in
      let n = s.so in
      let same : multiplier new ≡ multiplier s.old = same_multiplier c.decisions_kept c.lines_kept s.old new n in
      let unit : IsUnit (conditions r.pattern) (multiplier s.old) =
      fewer_unit K (conditions ds) (conditions r.pattern) thin (multiplier s.old) (subst IsPoly same (polys i new e))
      (λ q on. inl (s.place, record { line = s.old; is = s.is; needed = ((c.lines_are s.place).0 (i, s.kept)).1; rests = on })) g.unit in
      record {
        from = g.from;
        by = g.by;
        refers = record {
          from_is = moved_operand s.old.from new.from g.from i s.place n.from s.kept g.refers.from_is;
          by_is = moved_operand s.old.by new.by g.by i s.place n.by s.kept g.refers.by_is;
          by_fits = fits c.decisions_kept c.lines_kept new.a s.old.by new.by n.by (subst (λ x. IsThereFor x s.old.by) (sym n.a) g.refers.by_fits);
          from_fits = starts c.decisions_kept c.lines_kept new.way s.old.from new.from n.from (subst (λ x. StartsFromItem x s.old.from) (sym n.way) g.refers.from_fits);
        };
        unit = subst (IsUnit (conditions r.pattern)) (sym same) unit;
        sides = same_sides s.old.way new.way s.old.l new.l s.old.a new.a s.old.m new.m s.old.made new.made g.from g.by n.way n.l n.a n.m n.made g.sides;
      }

  good_end : Ends root r.pattern r.lines r.end
  good_end = record { poly = good.ends.poly; is = moved_end end r.end good.ends.poly c.end_is good.ends.is; contradiction = still good.ends.contradiction }
    where
      still : IsContradiction (conditions ds) good.ends.poly → IsContradiction (conditions r.pattern) good.ends.poly
      still (inl n) = inl n
      still (inr m) = either (constant_or_not good.ends.poly)
        where
          either : IsNonzeroConstant good.ends.poly ⊎ (IsNonzeroConstant good.ends.poly → ⊥) → IsContradiction (conditions r.pattern) good.ends.poly
          either (inl n) = inl n
          either (inr n) = inr (holds-contains (conditions r.pattern) good.ends.poly (kept_member thin good.ends.poly (inr (record { is = good.ends.is; varied = n })) (contains-holds (conditions ds) good.ends.poly m)))

  -- the cone of a refutation is a refutation
  pub cone_refutes : Refutes root r.pattern r.lines r.end
  cone_refutes = record { lines = good_line; ends = good_end }

-- the multipliers of a cone are those of lines
pub cone_polys : (root : List (List Term)) (ds : List Decision) (ls : List Line) (end : Item) (r : RefutationParts) → IsCone root ds ls end r → HavePolyMultipliers ls → HavePolyMultipliers r.lines
cone_polys root ds ls end r c h i new e =
    let s = c.each_line i new e in
    subst IsPoly (sym (same_multiplier c.decisions_kept c.lines_kept s.old new s.so)) (h s.place s.old s.is)

-- the pattern of a cone is within the decisions
pub cone_within : (root : List (List Term)) (ds : List Decision) (ls : List Line) (end : Item) (r : RefutationParts) → IsCone root ds ls end r → IsWithin r.pattern ds
cone_within root ds ls end r c d (k, lt, e) =
    let s = c.pattern k d (slice_get-get_or r.pattern k d lt ∙ ap Some e) in
    (s.place, slice_get_within ds s.place s.old s.is, get_or_from_slice_get ds s.place s.old d s.is ∙ s.so)

-- a cone by its parts
pub cone_made : (root : List (List Term)) (ds : List Decision) (ls : List Line) (end : Item) (js ks : List ℕ) → ArePlaces root ds ls end js ks → (pattern : List Decision) (lines : List Line) (new : Item) → length pattern ≡ length js → ((i : ℕ) (d : Decision) → slice_get pattern i ≡ Some d → StandsAt ds js i (λ (old : Decision). old ≡ d)) → length lines ≡ length ks → ((i : ℕ) (x : Line) → slice_get lines i ≡ Some x → StandsAt ls ks i (λ (old : Line). IsRenumberedLine js ks old x)) → IsRenumbered js ks end new → IsCone root ds ls end (record { pattern = pattern; lines = lines; end = new })
cone_made root ds ls end js ks p pattern lines new a b c d e = record {
  decisions_kept = js;
  lines_kept = ks;
  decisions_ascend = p.decisions_ascend;
  lines_ascend = p.lines_ascend;
  decisions_are = p.decisions_are;
  lines_are = p.lines_are;
  pattern_length = a;
  pattern = b;
  lines_length = c;
  each_line = d;
  end_is = e;
}
