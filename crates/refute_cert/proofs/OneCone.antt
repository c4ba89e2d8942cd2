-- There is one cone.
use Rattle.std.specs.Prelude.{◌≡◌, ◌≤◌, ℕ, zero, suc, List, [], ◌∷◌, length, slice_get, refl}
use Rattle.std.proofs.Common.{arith, sym, ◌∙◌, ap, subst}
use Rattle.std.proofs.lemmas.Option.{none-some, same_Some}
use Rattle.std.specs.declared.option.Option.{Option}
use Rattle.std.specs.declared.option.Option.TheVariants.{None, Some}
use Rattle.sparse_poly.specs.declared.Term.{Term}
use Rattle.derive_lines.specs.declared.parts.Decision.{Decision}
use Rattle.derive_lines.specs.declared.parts.Line.{Line}
use Rattle.derive_lines.specs.declared.parts.Item.{Item}
use Rattle.derive_lines.specs.declared.parts.Item.TheVariants.{Root, Decision as of_decision, Line as of_line}
use Rattle.refute_cert.specs.Parts.{RefutationParts}
use Rattle.refute_cert.specs.Cone.{AscendFrom, IsAmong, StandsAt, IsRenumbered, IsRenumberedOperand, IsRenumberedLine, IsCone}
use Rattle.refute_cert.proofs.Places.{place_from}

-- lists with the same element at each place
one_list : {X : Type 0} (xs ys : List X) → length xs ≡ length ys → ((i : ℕ) (x y : X) → slice_get xs i ≡ Some x → slice_get ys i ≡ Some y → x ≡ y) → xs ≡ ys
one_list [] [] l h = refl
one_list [] (y ∷ ys) l h = absurd (omega (arith, l))
one_list (x ∷ xs) [] l h = absurd (omega (arith, l))
one_list (x ∷ xs) (y ∷ ys) l h =
    let first : x ≡ y = h zero x y refl refl in
    let rest : xs ≡ ys = one_list xs ys (omega (arith, l)) (λ i a b e f. h (suc i) a b e f) in
    ap (λ a. a ∷ xs) first ∙ ap (λ zs. y ∷ zs) rest

-- ascending lists with the same members
first_least : (j k : ℕ) (ks : List ℕ) → AscendFrom (suc k) ks → IsAmong (k ∷ ks) j → k ≤ j
first_least j k ks h w = let own : k ≤ k = omega arith in place_from k (k ∷ ks) w.0 j (own, h) w.1

later_member : (j k x : ℕ) (js ks : List ℕ) → AscendFrom (suc j) js → j ≡ k → IsAmong js x → IsAmong (k ∷ ks) x → IsAmong ks x
later_member j k x js ks h s w v = by_place v.0 v.1
  where
    by_place : (i : ℕ) → slice_get (k ∷ ks) i ≡ Some x → IsAmong ks x
    by_place zero e = let f : k ≡ x = same_Some k x e in let l : suc j ≤ x = place_from (suc j) js w.0 x h w.1 in absurd (omega arith)
    by_place (suc i) e = (i, e)

one_ascent : (n m : ℕ) (js ks : List ℕ) → AscendFrom n js → AscendFrom m ks → ((x : ℕ) → IsAmong js x → IsAmong ks x) → ((x : ℕ) → IsAmong ks x → IsAmong js x) → js ≡ ks
one_ascent n m [] [] h i a b = refl
one_ascent n m [] (k ∷ ks) h i a b = let w = b k (zero, refl) in absurd (none-some k w.1)
one_ascent n m (j ∷ js) [] h i a b = let w = a j (zero, refl) in absurd (none-some j w.1)
one_ascent n m (j ∷ js) (k ∷ ks) h i a b =
    let low : k ≤ j = first_least j k ks i.1 (a j (zero, refl)) in
    let high : j ≤ k = first_least k j js h.1 (b k (zero, refl)) in
    let same : j ≡ k = omega arith in
    let rest : js ≡ ks = one_ascent (suc j) (suc k) js ks h.1 i.1 (λ x w. later_member j k x js ks h.1 same w (a x (suc w.0, w.1))) (λ x w. later_member k j x ks js i.1 (sym same) w (b x (suc w.0, w.1))) in
    ap (λ x. x ∷ js) same ∙ ap (λ xs. k ∷ xs) rest

one_place : (n : ℕ) (ks : List ℕ) (i j k : ℕ) → AscendFrom n ks → slice_get ks i ≡ Some k → slice_get ks j ≡ Some k → i ≡ j
one_place n [] i j k h e f = absurd (none-some k e)
one_place n (x ∷ xs) zero zero k h e f = refl
one_place n (x ∷ xs) zero (suc j) k h e f = let s : x ≡ k = same_Some x k e in let l : suc x ≤ k = place_from (suc x) xs j k h.1 f in absurd (omega arith)
one_place n (x ∷ xs) (suc i) zero k h e f = let s : x ≡ k = same_Some x k f in let l : suc x ≤ k = place_from (suc x) xs i k h.1 e in absurd (omega arith)
one_place n (x ∷ xs) (suc i) (suc j) k h e f = ap suc (one_place (suc x) xs i j k h.1 e f)

module _ (js ks : List ℕ) (h : AscendFrom 0 js) (i : AscendFrom 0 ks) where
  one_item : (item a b : Item) → IsRenumbered js ks item a → IsRenumbered js ks item b → a ≡ b
  one_item (Root n) a b e f = e ∙ sym f
  one_item (of_decision n) a b e f = e.1 ∙ ap of_decision (one_place 0 js e.0 f.0 n h e.2 f.2) ∙ sym f.1
  one_item (of_line n) a b e f = e.1 ∙ ap of_line (one_place 0 ks e.0 f.0 n i e.2 f.2) ∙ sym f.1

  one_operand : (o a b : Option Item) → IsRenumberedOperand js ks o a → IsRenumberedOperand js ks o b → a ≡ b
  one_operand None a b e f = e ∙ sym f
  one_operand (Some item) a b e f = e.1 ∙ ap Some (one_item item e.0 f.0 e.2 f.2) ∙ sym f.1

  one_line : (old a b : Line) → IsRenumberedLine js ks old a → IsRenumberedLine js ks old b → a ≡ b
  one_line old a b e f = by_parts a b (e.way ∙ sym f.way) (one_operand old.from a.from b.from e.from f.from) (one_operand old.by a.by b.by e.by f.by) (e.l ∙ sym f.l) (e.a ∙ sym f.a) (e.m ∙ sym f.m) (e.made ∙ sym f.made)
    where
      by_parts : (x y : Line) → x.way ≡ y.way → x.from ≡ y.from → x.by ≡ y.by → x.l ≡ y.l → x.a ≡ y.a → x.m ≡ y.m → x.made ≡ y.made → x ≡ y
      by_parts x y way from by l a m made =
          ap (λ v. let z : Line = record { way = v; from = x.from; by = x.by; l = x.l; a = x.a; m = x.m; made = x.made } in z) way
          ∙ ap (λ v. let z : Line = record { way = y.way; from = v; by = x.by; l = x.l; a = x.a; m = x.m; made = x.made } in z) from
          ∙ ap (λ v. let z : Line = record { way = y.way; from = y.from; by = v; l = x.l; a = x.a; m = x.m; made = x.made } in z) by
          ∙ ap (λ v. let z : Line = record { way = y.way; from = y.from; by = y.by; l = v; a = x.a; m = x.m; made = x.made } in z) l
          ∙ ap (λ v. let z : Line = record { way = y.way; from = y.from; by = y.by; l = y.l; a = v; m = x.m; made = x.made } in z) a
          ∙ ap (λ v. let z : Line = record { way = y.way; from = y.from; by = y.by; l = y.l; a = y.a; m = v; made = x.made } in z) m
          ∙ ap (λ v. let z : Line = record { way = y.way; from = y.from; by = y.by; l = y.l; a = y.a; m = y.m; made = v } in z) made

-- what stands at the i-th of the same places
same_old : {X : Type 0} (xs : List X) (js ks : List ℕ) (i : ℕ) (R S : X → Type 0) → js ≡ ks → (s : StandsAt xs js i R) (t : StandsAt xs ks i S) → s.old ≡ t.old
same_old xs js ks i R S e s t =
    let place : s.place ≡ t.place = same_Some s.place t.place (sym s.kept ∙ ap (λ v. slice_get v i) e ∙ t.kept) in
    same_Some s.old t.old (sym s.is ∙ ap (slice_get xs) place ∙ t.is)

pub one_cone : (root : List (List Term)) (ds : List Decision) (ls : List Line) (end : Item) (r q : RefutationParts) → IsCone root ds ls end r → IsCone root ds ls end q → r ≡ q
one_cone root ds ls end r q c d =
    let js : c.decisions_kept ≡ d.decisions_kept = one_ascent 0 0 c.decisions_kept d.decisions_kept c.decisions_ascend d.decisions_ascend (λ j w. (d.decisions_are j).1 ((c.decisions_are j).0 w)) (λ j w. (c.decisions_are j).1 ((d.decisions_are j).0 w)) in
    let ks : c.lines_kept ≡ d.lines_kept = one_ascent 0 0 c.lines_kept d.lines_kept c.lines_ascend d.lines_ascend (λ k w. (d.lines_are k).1 ((c.lines_are k).0 w)) (λ k w. (c.lines_are k).1 ((d.lines_are k).0 w)) in
    let pattern : r.pattern ≡ q.pattern = one_list r.pattern q.pattern (c.pattern_length ∙ ap length js ∙ sym d.pattern_length) (λ i x y e f. let s = c.pattern i x e in let t = d.pattern i y f in sym s.so ∙ same_old ds c.decisions_kept d.decisions_kept i _ _ js s t ∙ t.so) in
    let line : (i : ℕ) (x y : Line) → slice_get r.lines i ≡ Some x → slice_get q.lines i ≡ Some y → x ≡ y = λ i x y e f. each js ks i x y (c.each_line i x e) (d.each_line i y f) in
    let lines : r.lines ≡ q.lines = one_list r.lines q.lines (c.lines_length ∙ ap length ks ∙ sym d.lines_length) line in
    let last : r.end ≡ q.end = one_item c.decisions_kept c.lines_kept c.decisions_ascend c.lines_ascend end r.end q.end c.end_is (subst (λ v. IsRenumbered v c.lines_kept end q.end) (sym js) (subst (λ v. IsRenumbered d.decisions_kept v end q.end) (sym ks) d.end_is)) in
    ap (λ v. let z : RefutationParts = record { pattern = v; lines = r.lines; end = r.end } in z) pattern
    ∙ ap (λ v. let z : RefutationParts = record { pattern = q.pattern; lines = v; end = r.end } in z) lines
    ∙ ap (λ v. let z : RefutationParts = record { pattern = q.pattern; lines = q.lines; end = v } in z) last
  where
    each : c.decisions_kept ≡ d.decisions_kept → c.lines_kept ≡ d.lines_kept → (i : ℕ) (x y : Line) → StandsAt ls c.lines_kept i (λ (old : Line). IsRenumberedLine c.decisions_kept c.lines_kept old x) → StandsAt ls d.lines_kept i (λ (old : Line). IsRenumberedLine d.decisions_kept d.lines_kept old y) → x ≡ y
    each js ks i x y s t =
        let old : s.old ≡ t.old = same_old ls c.lines_kept d.lines_kept i _ _ ks s t in
        let back : IsRenumberedLine c.decisions_kept c.lines_kept s.old y = subst (λ v. IsRenumberedLine c.decisions_kept c.lines_kept v y) (sym old) (subst (λ v. IsRenumberedLine v c.lines_kept t.old y) (sym js) (subst (λ v. IsRenumberedLine d.decisions_kept v t.old y) (sym ks) t.so)) in
        one_line c.decisions_kept c.lines_kept c.decisions_ascend c.lines_ascend s.old x y s.so back
