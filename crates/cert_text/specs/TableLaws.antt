-- Lines that are the same are equal.
use Rattle.std.specs.Prelude.{◌≡◌, Bool, true, false, ◌&&◌, Option, None, Some, List, refl}
use Rattle.std.proofs.Common.{sym, ◌∙◌, ap, true≢false}
use Rattle.std.proofs.lemmas.Bool.{eqb-true, eq-eqb}
use Rattle.std.specs.Option.{option_eq}
use Rattle.std.specs.Ordering.{eq_by_cmp}
use Rattle.std.specs.Cmp.{IsEquivalence, Equal-is}
use Rattle.std.proofs.lemmas.Cmp.{eq_by_cmp_equiv}
use Rattle.sparse_poly.specs.declared.Term.{Term}
use Rattle.sparse_poly.specs.Order.{poly_cmp}
use Rattle.sparse_poly.specs.OrderLaws.{poly_cmp-IsAntisymmetric, poly_cmp-IsTotalOrder}
use Rattle.derive_lines.specs.declared.parts.Line.{Line}
use Rattle.derive_lines.specs.declared.parts.Item.{Item}
use Rattle.derive_lines.specs.declared.parts.Item.TheVariants.{Root, Decision as of_decision, Line as of_line}
use Rattle.derive_lines.specs.declared.parts.Way.{Way}
use Rattle.derive_lines.specs.declared.parts.Way.TheVariants.{Fwd, Back}
use Rattle.cert_text.specs.Tables.{is_same_way, is_same_item, is_same}

-- the test tells equal values from others
pub record TellsEqual {K : Type 0} (test : K → K → Bool) : Type 0 where
  pub equal : (x y : K) → test x y ≡ true → x ≡ y
  pub own : (x : K) → test x x ≡ true

both : (a b : Bool) → (a && b) ≡ true → (a ≡ true) × (b ≡ true)
both true b e = (refl, e)
both false b e = absurd (true≢false (sym e))

and_true : (a b : Bool) → a ≡ true → b ≡ true → (a && b) ≡ true
and_true a b e f = ap (λ x. x && b) e ∙ f

-- such a test is an equivalence
pub equivalence : {K : Type 0} {test : K → K → Bool} → TellsEqual test → IsEquivalence test
equivalence {K} {test} t = record { refl = t.own; symm = λ x y. by x y (test x y) (test y x) refl refl; congr = λ x y z e. ap (λ w. test w z) (t.equal x y e) }
  where
    by : (x y : K) (a b : Bool) → test x y ≡ a → test y x ≡ b → test x y ≡ test y x
    by x y true b p q = let e = t.equal x y p in ap (λ z. test z y) e ∙ sym (ap (λ z. test y z) e)
    by x y false true p q = let e = t.equal y x q in ap (λ z. test x z) e ∙ sym (ap (λ z. test z x) e)
    by x y false false p q = p ∙ sym q

ways : TellsEqual is_same_way
ways = record { equal = same; own = own }
  where
    same : (v w : Way) → is_same_way v w ≡ true → v ≡ w
    same Fwd Fwd e = refl
    same Back Back e = refl
    same Fwd Back e = absurd (true≢false (sym e))
    same Back Fwd e = absurd (true≢false (sym e))

    own : (v : Way) → is_same_way v v ≡ true
    own Fwd = refl
    own Back = refl

items : TellsEqual is_same_item
items = record { equal = same; own = own }
  where
    same : (a b : Item) → is_same_item a b ≡ true → a ≡ b
    same (Root i) (Root j) e = ap Root (eqb-true i j e)
    same (of_decision i) (of_decision j) e = ap of_decision (eqb-true i j e)
    same (of_line i) (of_line j) e = ap of_line (eqb-true i j e)
    same (Root i) (of_decision j) e = absurd (true≢false (sym e))
    same (Root i) (of_line j) e = absurd (true≢false (sym e))
    same (of_decision i) (Root j) e = absurd (true≢false (sym e))
    same (of_decision i) (of_line j) e = absurd (true≢false (sym e))
    same (of_line i) (Root j) e = absurd (true≢false (sym e))
    same (of_line i) (of_decision j) e = absurd (true≢false (sym e))

    own : (a : Item) → is_same_item a a ≡ true
    own (Root i) = eq-eqb i i refl
    own (of_decision i) = eq-eqb i i refl
    own (of_line i) = eq-eqb i i refl

references : TellsEqual (option_eq is_same_item)
references = record { equal = same; own = own }
  where
    same : (a b : Option Item) → option_eq is_same_item a b ≡ true → a ≡ b
    same None None e = refl
    same (Some a) (Some b) e = ap Some (items.equal a b e)
    same None (Some b) e = absurd (true≢false (sym e))
    same (Some a) None e = absurd (true≢false (sym e))

    own : (a : Option Item) → option_eq is_same_item a a ≡ true
    own None = refl
    own (Some a) = items.own a

polys : TellsEqual (eq_by_cmp poly_cmp)
polys = record {
  equal = λ p q e. poly_cmp-IsAntisymmetric p q ((Equal-is (poly_cmp p q)).0 e);
  own = (eq_by_cmp_equiv poly_cmp-IsTotalOrder).refl;
}

abbrev made_line : Way → Option Item → Option Item → List Term → List Term → List Term → List Term → Line
made_line w f b l a m p = record { way = w; from = f; by = b; l = l; a = a; m = m; made = p }

-- lines that are the same are equal, and no others
pub lines : TellsEqual is_same
lines = record { equal = same; own = own }
  where
    same : (l k : Line) → is_same l k ≡ true → l ≡ k
    same l k e =
        let made = both _ _ e in
        let m = both _ _ made.0 in
        let a = both _ _ m.0 in
        let first = both _ _ a.0 in
        let by = both _ _ first.0 in
        let from = both _ _ by.0 in
        ap (λ w. made_line w l.from l.by l.l l.a l.m l.made) (ways.equal l.way k.way from.0)
        ∙ ap (λ f. made_line k.way f l.by l.l l.a l.m l.made) (references.equal l.from k.from from.1)
        ∙ ap (λ b. made_line k.way k.from b l.l l.a l.m l.made) (references.equal l.by k.by by.1)
        ∙ ap (λ p. made_line k.way k.from k.by p l.a l.m l.made) (polys.equal l.l k.l first.1)
        ∙ ap (λ p. made_line k.way k.from k.by k.l p l.m l.made) (polys.equal l.a k.a a.1)
        ∙ ap (λ p. made_line k.way k.from k.by k.l k.a p l.made) (polys.equal l.m k.m m.1)
        ∙ ap (λ p. made_line k.way k.from k.by k.l k.a k.m p) (polys.equal l.made k.made made.1)

    own : (l : Line) → is_same l l ≡ true
    own l =
        and_true _ _ (and_true _ _ (and_true _ _ (and_true _ _ (and_true _ _ (and_true _ _ (ways.own l.way) (references.own l.from)) (references.own l.by)) (polys.own l.l)) (polys.own l.a)) (polys.own l.m)) (polys.own l.made)
