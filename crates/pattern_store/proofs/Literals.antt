-- A decision has one number, and a pattern is within decisions exactly where its numbers are within theirs.
use Rattle.std.specs.Prelude.{◌≡◌, ◌<◌, ◌+◌, ◌↔◌, ℕ, zero, suc, Bool, true, false, List, [], ◌∷◌, ◌++◌, Contains, length, take, slice_get, get_or}
use Rattle.std.specs.Prelude.{IfOk, IfErr}
use Rattle.std.specs.declared.option.Option.TheVariants.{Some}
use Rattle.std.specs.declared.result.Result.{Result}
use Rattle.std.specs.declared.result.Result.TheVariants.{Ok, Err}
use Rattle.std.proofs.Common.{arith, refl, sym, ◌∙◌, ap, inl, inr, subst}
use Rattle.std.proofs.lemmas.List.{take_more}
use Rattle.std.proofs.lemmas.List.Elements.{Contains-append_cases, Contains-append_left, Contains-append_right}
use Rattle.std.proofs.lemmas.Option.{same_Some}
use Rattle.sparse_poly.specs.declared.Term.{Term}
use Rattle.derive_lines.specs.declared.parts.Decision.{Decision}
use Rattle.refute_store.specs.Live.{IsWithin}
use Rattle.refute_cert.specs.Parts.{RefutationParts}
use Rattle.refute_cert.proofs.Pushes.{get_pushed}
use Rattle.pattern_store.specs.Numbers.{IsPlace, HasNoPlace, literal, IsLiteral, AllNamed, IsSetOf, GrowsTo, IsNumbered, AreNumbered}
use Rattle.pattern_store.proofs.Places.{one_place, place_stays}

contains_one : {X : Type 0} (y x : X) → Contains (y ∷ []) x → x ≡ y
contains_one y x is = elim is.0 as (λ k. k < 1 → get_or (y ∷ []) k x ≡ x → x ≡ y) [ zero ↦ λ lt e. sym e | suc k ↦ λ lt e. absurd (omega (arith, lt)) ] is.1 is.2

-- the members up to the one at place i
pub take_item : {X : Type 0} (xs : List X) (i : ℕ) (x : X) → i < length xs → x ≡ get_or xs i x → take (i + 1) xs ≡ take i xs ++ x ∷ []
take_item xs i x lt is = take_more xs i x lt ∙ ap (λ y. take i xs ++ y ∷ []) (sym is)

literal_parts : (i j : ℕ) (z w : Bool) → literal i z ≡ literal j w → (i ≡ j) × (z ≡ w)
literal_parts i j true true e = (omega (arith, e), refl)
literal_parts i j true false e = absurd (omega (arith, e))
literal_parts i j false true e = absurd (omega (arith, e))
literal_parts i j false false e = (omega (arith, e), refl)

-- two decisions with one number are the same
one_decision : (names : List (List Term)) (d e : Decision) (l : ℕ) → IsLiteral names d l → IsLiteral names e l → d ≡ e
one_decision names d e l a b =
    let parts = literal_parts a.place b.place d.zero e.zero (sym a.is ∙ b.is) in
    let poly : d.poly ≡ e.poly = same_Some d.poly e.poly (sym a.is_place.is ∙ (ap (slice_get names) parts.0 ∙ b.is_place.is)) in
    same d e poly parts.1
  where
    same : (d e : Decision) → d.poly ≡ e.poly → d.zero ≡ e.zero → d ≡ e
    same d e p z = ap (λ (q : List Term). let r : Decision = record { poly = q; zero = d.zero } in r) p ∙ ap (λ (w : Bool). let r : Decision = record { poly = e.poly; zero = w } in r) z

one_literal : (names : List (List Term)) (d : Decision) (l k : ℕ) → IsLiteral names d l → IsLiteral names d k → l ≡ k
one_literal names d l k a b = a.is ∙ (ap (λ (i : ℕ). literal i d.zero) (one_place names d.poly a.place b.place a.is_place b.is_place) ∙ sym b.is)

pub within_sets : (names : List (List Term)) (s q : List ℕ) (p ds : List Decision) → IsNumbered names s p → IsSetOf names q ds → IsWithin p ds ↔ IsWithin s q
within_sets names s q p ds n m = (
  λ w l is. (let d = n.set_of.each l is in m.all d.0 l (w d.0 d.1) d.2),
  λ w d is.
      let l = n.named d is in
      let e = m.each l.0 (w l.0 (n.set_of.all d l.0 is l.1)) in
      subst (Contains ds) (sym (one_decision names d e.0 l.0 l.1 e.2)) e.1,
)

literal_stays : (names more : List (List Term)) (d : Decision) (l : ℕ) → IsLiteral names d l → IsLiteral (names ++ more) d l
literal_stays names more d l a = record { place = a.place; is_place = place_stays names more d.poly a.place a.is_place; is = a.is }

numbered_stays : (names more : List (List Term)) (s : List ℕ) (ds : List Decision) → IsNumbered names s ds → IsNumbered (names ++ more) s ds
numbered_stays names more s ds n = record {
  set_of = record {
    each = λ l is. (let d = n.set_of.each l is in (d.0, d.1, literal_stays names more d.0 l d.2));
    all = λ d l is a. (let k = n.named d is in subst (Contains s) (one_literal (names ++ more) d k.0 l (literal_stays names more d k.0 k.1) a) (n.set_of.all d k.0 is k.1));
  };
  named = λ d is. (let k = n.named d is in (k.0, literal_stays names more d k.0 k.1));
}

-- where names go on, all that is numbered stays so
pub all_stay : (names new : List (List Term)) (store : List (List ℕ × RefutationParts)) → GrowsTo names new → AreNumbered names store → AreNumbered new store
all_stay names new store g n k p is = subst (λ (m : List (List Term)). IsNumbered m p.0 p.1.pattern) (sym g.1) (numbered_stays names g.0 p.0 p.1.pattern (n k p is))

pub named_more : (names new : List (List Term)) (ds : List Decision) (d : Decision) → GrowsTo names new → AllNamed names ds → (i : ℕ) × IsPlace new d.poly i → AllNamed new (ds ++ d ∷ [])
named_more names new ds d g named place e is = elim (Contains-append_cases ds (d ∷ []) e is) [
  | inl k ↦ (let l = named e k in (l.0, subst (λ (m : List (List Term)). IsLiteral m e l.0) (sym g.1) (literal_stays names g.0 e l.0 l.1)))
  | inr k ↦ (let same = contains_one d e k in (literal place.0 e.zero, record { place = place.0; is_place = subst (λ (x : Decision). IsPlace new x.poly place.0) (sym same) place.1; is = refl }))
]

pub set_skip : (names : List (List Term)) (set : List ℕ) (ds : List Decision) (d : Decision) → HasNoPlace names d.poly → IsSetOf names set ds → IsSetOf names set (ds ++ d ∷ [])
set_skip names set ds d none s = record {
  each = λ l is. (let k = s.each l is in (k.0, Contains-append_left ds (d ∷ []) k.0 k.1, k.2));
  all = λ e l is a. elim (Contains-append_cases ds (d ∷ []) e is) [
    | inl k ↦ s.all e l k a
    | inr k ↦ absurd (none a.place (subst (λ (x : Decision). slice_get names a.place ≡ Some x.poly) (contains_one d e k) a.is_place.is))
  ];
}

pub set_add : (names : List (List Term)) (set : List ℕ) (ds : List Decision) (d : Decision) (i l : ℕ) → IsPlace names d.poly i → l ≡ literal i d.zero → IsSetOf names set ds → IsSetOf names (set ++ l ∷ []) (ds ++ d ∷ [])
set_add names set ds d i l place l_is s = record {
  each = λ k is. elim (Contains-append_cases set (l ∷ []) k is) [
    | inl old ↦ (let x = s.each k old in (x.0, Contains-append_left ds (d ∷ []) x.0 x.1, x.2))
    | inr new ↦ (d, Contains-append_right ds (d ∷ []) d (0, omega arith, refl), record { place = i; is_place = place; is = contains_one l k new ∙ l_is })
  ];
  all = λ e k is a. elim (Contains-append_cases ds (d ∷ []) e is) [
    | inl old ↦ Contains-append_left set (l ∷ []) k (s.all e k old a)
    | inr new ↦ (let same = contains_one d e new in
        let b : IsLiteral names d k = subst (λ (x : Decision). IsLiteral names x k) same a in
        let mine : IsLiteral names d l = record { place = i; is_place = place; is = l_is } in
        subst (Contains (set ++ l ∷ [])) (one_literal names d l k mine b) (Contains-append_right set (l ∷ []) l (0, omega arith, refl)))
  ];
}

pub set_same : (names : List (List Term)) (set other : List ℕ) (ds : List Decision) → ((l : ℕ) → Contains other l ↔ Contains set l) → IsSetOf names set ds → IsSetOf names other ds
set_same names set other ds m s = record { each = λ l is. s.each l ((m l).0 is); all = λ d l is a. (m l).1 (s.all d l is a) }

-- one more pattern
pub one_more : (names : List (List Term)) (store : List (List ℕ × RefutationParts)) (s : List ℕ) (r : RefutationParts) → AreNumbered names store → IsNumbered names s r.pattern → AreNumbered names (store ++ (s, r) ∷ [])
one_more names store s r n m k p is = elim (get_pushed store (s, r) k p is) [ inl old ↦ n k p old | inr new ↦ subst (λ (q : List ℕ × RefutationParts). IsNumbered names q.0 q.1.pattern) new.1 m ]

-- a store after a post: one pattern more, or as it was
pub after_post : {A E : Type 0} (names : List (List Term)) (old new : List (List ℕ × RefutationParts)) (s : List ℕ) (p : RefutationParts) (r : Result A E) (P : A → Type 0) (Q : E → Type 0) → IfOk r (λ a. P a × (new ≡ old ++ (s, p) ∷ [])) → IfErr r (λ e. Q e × (new ≡ old)) → AreNumbered names old → IsNumbered names s p.pattern → AreNumbered names new
after_post names old new s p (Ok a) P Q ok err n m = subst (AreNumbered names) (sym ok.1) (one_more names old s p n m)
after_post names old new s p (Err e) P Q ok err n m = subst (AreNumbered names) (sym err.1) n
