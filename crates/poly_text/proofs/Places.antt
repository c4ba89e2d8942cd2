-- Where the order breaks first.
use Rattle.std.specs.Prelude.{◌≡◌, ℕ, zero, suc, ◌+◌, ◌-◌, ◌<◌, ◌≤◌, Bool, true, false, ◌==◌, nat_lt, if◌then◌else◌, unsigned_abs, codes, decimal, Option, None, Some, option_map, List, [], ◌∷◌, ◌++◌, map, length, take, drop, get_or, refl}
use Rattle.std.proofs.Common.{sym, ◌∙◌, ap, subst, arith, append_assoc}
use Rattle.std.proofs.lemmas.List.{length-append, take-append-le}
use Rattle.std.proofs.lemmas.Bool.Decides.{nat_tests}
use Rattle.std.proofs.Math.Seq.{take-append_seam, drop-append_seam}
use Rattle.sparse_poly.specs.declared.Term.{Term}
use Rattle.poly_text.specs.Raw.{raw}
use Rattle.poly_text.specs.declared.raw.RawTerm.{RawTerm}
use Rattle.poly_text.specs.Text.{factor_text, more_factors, body_text, sign_text, term_text}
use Rattle.poly_text.specs.Disorder.{Disorder, TermAt, FactorAt}
use Rattle.poly_text.specs.Order.{product, is_below, first_factor, disorder, or_next, first_disorder, front, plus, part_text, place}
use Rattle.poly_text.specs.Scan.{first_of}
use Rattle.poly_text.specs.Places.{is_falling, last_monomial, IsFactorAt, IsFactorPlace, IsDisorderPlace, next_place}
use Rattle.poly_text.proofs.Fronts.{more_more, plus_of}

-- ---- the last item

less_one : (n : ℕ) → suc (suc n) - 1 ≡ suc (suc n - 1)
less_one n = omega arith

pub last_read : (before : Option (List (ℕ × ℕ))) (ts : List RawTerm) (t : RawTerm) → 1 ≤ length ts → t ≡ get_or ts (length ts - 1) t → Some t.powers.items ≡ last_monomial before (map raw ts)
last_read before [] t h e = absurd (omega arith)
last_read before (s ∷ []) t h e = ap (λ (r : RawTerm). Some r.powers.items) e
last_read before (s ∷ r ∷ rs) t h e = last_read (Some s.powers.items) (r ∷ rs) t (omega arith) (e ∙ ap (λ n. get_or (s ∷ r ∷ rs) n t) (less_one (length rs)))

pub falling_read : (ps : List (ℕ × ℕ)) (v : ℕ) → 1 ≤ length ps → nat_lt v (get_or ps (length ps - 1) (0, 0)).0 ≡ is_falling ps v
falling_read [] v h = absurd (omega arith)
falling_read (p ∷ []) v h = refl
falling_read (p ∷ q ∷ ps) v h = ap (λ n. nat_lt v (get_or (p ∷ q ∷ ps) n (0, 0)).0) (less_one (length ps)) ∙ falling_read (q ∷ ps) v (omega arith)

-- ---- factors

-- one factor more
falling_more : (n : ℕ) (ps : List (ℕ × ℕ)) (p : ℕ × ℕ) → first_factor n ps ≡ None → first_factor n (ps ++ p ∷ []) ≡ (if is_falling ps p.0 then None else Some (n + length ps))
falling_more n [] p h = refl
falling_more n (q ∷ []) p h = refl
falling_more n (q ∷ r ∷ rs) p h = by (nat_lt r.0 q.0) refl (λ k. falling_more (n + 1) (r ∷ rs) p k)
  where
    Goal : Type 0
    Goal = first_factor n (q ∷ r ∷ (rs ++ p ∷ [])) ≡ (if is_falling (r ∷ rs) p.0 then None else Some (n + length (q ∷ r ∷ rs)))

    by : (b : Bool) → nat_lt r.0 q.0 ≡ b → (first_factor (n + 1) (r ∷ rs) ≡ None → first_factor (n + 1) ((r ∷ rs) ++ p ∷ []) ≡ (if is_falling (r ∷ rs) p.0 then None else Some (n + 1 + length (r ∷ rs)))) → Goal
    by true e further =
        let k : first_factor (n + 1) (r ∷ rs) ≡ None = sym (ap (λ b. if b then first_factor (n + 1) (r ∷ rs) else Some (n + 1)) e) ∙ h in
        let m : n + 1 + length (r ∷ rs) ≡ n + length (q ∷ r ∷ rs) = omega arith in
        ap (λ b. if b then first_factor (n + 1) (r ∷ (rs ++ p ∷ [])) else Some (n + 1)) e ∙ further k ∙ ap (λ j. if is_falling (r ∷ rs) p.0 then None else Some j) m
    by false e further =
        let k : Some (n + 1) ≡ None = sym (ap (λ b. if b then first_factor (n + 1) (r ∷ rs) else Some (n + 1)) e) ∙ h in absurd (cc)

-- further factors leave the first one out of order
first_kept : (n j : ℕ) (ps qs : List (ℕ × ℕ)) → first_factor n ps ≡ Some j → first_factor n (ps ++ qs) ≡ Some j
first_kept n j [] qs h = absurd (cc)
first_kept n j (p ∷ []) qs h = absurd (cc)
first_kept n j (p ∷ q ∷ ps) qs h = by (nat_lt q.0 p.0) refl (λ k. first_kept (n + 1) j (q ∷ ps) qs k)
  where
    by : (b : Bool) → nat_lt q.0 p.0 ≡ b → (first_factor (n + 1) (q ∷ ps) ≡ Some j → first_factor (n + 1) ((q ∷ ps) ++ qs) ≡ Some j) → first_factor n ((p ∷ q ∷ ps) ++ qs) ≡ Some j
    by true e further =
        let k : first_factor (n + 1) (q ∷ ps) ≡ Some j = sym (ap (λ b. if b then first_factor (n + 1) (q ∷ ps) else Some (n + 1)) e) ∙ h in
        ap (λ b. if b then first_factor (n + 1) (q ∷ (ps ++ qs)) else Some (n + 1)) e ∙ further k
    by false e further =
        let k : Some (n + 1) ≡ Some j = sym (ap (λ b. if b then first_factor (n + 1) (q ∷ ps) else Some (n + 1)) e) ∙ h in
        ap (λ b. if b then first_factor (n + 1) (q ∷ (ps ++ qs)) else Some (n + 1)) e ∙ k

-- it is not the first of all
first_some : (n j : ℕ) (ps : List (ℕ × ℕ)) → first_factor n ps ≡ Some j → n < j
first_some n j [] h = absurd (cc)
first_some n j (p ∷ []) h = absurd (cc)
first_some n j (p ∷ q ∷ ps) h = by (nat_lt q.0 p.0) refl (λ k. first_some (n + 1) j (q ∷ ps) k)
  where
    by : (b : Bool) → nat_lt q.0 p.0 ≡ b → (first_factor (n + 1) (q ∷ ps) ≡ Some j → n + 1 < j) → n < j
    by true e further = let l = further (sym (ap (λ b. if b then first_factor (n + 1) (q ∷ ps) else Some (n + 1)) e) ∙ h) in omega arith
    by false e further =
        let k : Some (n + 1) ≡ Some j = sym (ap (λ b. if b then first_factor (n + 1) (q ∷ ps) else Some (n + 1)) e) ∙ h in
        let m : n + 1 ≡ j = cc in omega arith

pub factor_place_more : (ps new : List (ℕ × ℕ)) (p : ℕ × ℕ) (rest further : List ℕ) (old o : Option ℕ) (left : ℕ) → IsFactorPlace ps rest old → rest ≡ 42 ∷ (factor_text p ++ further) → new ≡ ps ++ p ∷ [] → suc left ≡ length rest → o ≡ (if is_falling ps p.0 then old else first_of old left) → IsFactorPlace new further o
factor_place_more ps new p rest further None o left h e n l q = subst (λ ms. IsFactorPlace ms further o) (sym n) (by (is_falling ps p.0) refl)
  where
    first : (b : Bool) → is_falling ps p.0 ≡ b → first_factor 0 (ps ++ p ∷ []) ≡ (if b then None else Some (length ps))
    first b w = falling_more 0 ps p h ∙ ap (λ v. if v then None else Some (0 + length ps)) w ∙ ap (λ m. if b then None else Some m) (let z : 0 + length ps ≡ length ps = omega arith in z)

    by : (b : Bool) → is_falling ps p.0 ≡ b → IsFactorPlace (ps ++ p ∷ []) further o
    by true w = subst (IsFactorPlace (ps ++ p ∷ []) further) (sym (q ∙ ap (λ v. if v then None else Some left) w)) (first true w)
    by false w = subst (IsFactorPlace (ps ++ p ∷ []) further) (sym (q ∙ ap (λ v. if v then None else Some left) w)) (record {
      before = ps;
      after = p ∷ [];
      split = refl;
      first = first false w;
      at_place = l ∙ ap length (e ∙ sym (more_more [] p further));
    })
factor_place_more ps new p rest further (Some m) o left h e n l q = subst (λ ms. IsFactorPlace ms further o) (sym n) (subst (IsFactorPlace (ps ++ p ∷ []) further) (sym (q ∙ same (is_falling ps p.0))) (record {
  before = h.before;
  after = h.after ++ p ∷ [];
  split = ap (λ l. l ++ p ∷ []) h.split ∙ append_assoc h.before h.after (p ∷ []);
  first = first_kept 0 (length h.before) ps (p ∷ []) h.first;
  at_place = h.at_place ∙ ap length (ap (λ l. more_factors h.after ++ l) e ∙ sym (more_more h.after p further));
}))
  where
    same : (b : Bool) → (if b then Some m else first_of (Some m) left) ≡ Some m
    same true = refl
    same false = refl

-- ---- terms

next_none : (o : Option Disorder) → or_next o None ≡ o
next_none None = refl
next_none (Some d) = refl

both_none : (o p : Option Disorder) → or_next o p ≡ None → (o ≡ None) × (p ≡ None)
both_none None p h = (refl, h)
both_none (Some d) p h = absurd (cc)

-- one term more
disorder_next : (n : ℕ) (before : Option (List (ℕ × ℕ))) (ts : List Term) (t : Term) → first_disorder n before ts ≡ None → first_disorder n before (ts ++ t ∷ []) ≡ disorder (n + length ts) (last_monomial before ts) t
disorder_next n before [] t h = next_none (disorder n before t) ∙ ap (λ k. disorder k before t) (let e : n ≡ n + 0 = omega arith in e)
disorder_next n before (s ∷ ss) t h =
    let k = both_none (disorder n before s) (first_disorder (n + 1) (Some s.monomial) ss) h in
    ap (λ o. or_next o (first_disorder (n + 1) (Some s.monomial) (ss ++ t ∷ []))) k.0
    ∙ disorder_next (n + 1) (Some s.monomial) ss t k.1
    ∙ ap (λ j. disorder j (last_monomial (Some s.monomial) ss) t) (let e : n + 1 + length ss ≡ n + suc (length ss) = omega arith in e)

-- further terms leave what breaks the order first
disorder_kept : (n : ℕ) (before : Option (List (ℕ × ℕ))) (ts us : List Term) (d : Disorder) → first_disorder n before ts ≡ Some d → first_disorder n before (ts ++ us) ≡ Some d
disorder_kept n before [] us d h = absurd (cc)
disorder_kept n before (s ∷ ss) us d h = by (disorder n before s) h (λ k. disorder_kept (n + 1) (Some s.monomial) ss us d k)
  where
    by : (o : Option Disorder) → or_next o (first_disorder (n + 1) (Some s.monomial) ss) ≡ Some d → (first_disorder (n + 1) (Some s.monomial) ss ≡ Some d → first_disorder (n + 1) (Some s.monomial) (ss ++ us) ≡ Some d) → or_next o (first_disorder (n + 1) (Some s.monomial) (ss ++ us)) ≡ Some d
    by None k further = further k
    by (Some e) k further = k

-- the number of the term
abbrev term_of : Disorder → ℕ
term_of (TermAt i) = i
term_of (FactorAt i j) = i

disorder_term : (n : ℕ) (before : Option (List (ℕ × ℕ))) (t : Term) (d : Disorder) → disorder n before t ≡ Some d → term_of d ≡ n
disorder_term n before t d h = by (is_below before (product t.monomial)) (first_factor 0 t.monomial) h
  where
    same : (e d : Disorder) → Some e ≡ Some d → term_of e ≡ term_of d
    same e d h = let k : e ≡ d = cc in ap term_of k

    by : (b : Bool) (o : Option ℕ) → (if b then option_map (FactorAt n) o else Some (TermAt n)) ≡ Some d → term_of d ≡ n
    by true None k = absurd (cc)
    by true (Some j) k = sym (same (FactorAt n j) d k)
    by false o k = sym (same (TermAt n) d k)

disorder_within : (n : ℕ) (before : Option (List (ℕ × ℕ))) (ts : List Term) (d : Disorder) → first_disorder n before ts ≡ Some d → term_of d < n + length ts
disorder_within n before [] d h = absurd (cc)
disorder_within n before (s ∷ ss) d h = by (disorder n before s) refl h (λ k. disorder_within (n + 1) (Some s.monomial) ss d k)
  where
    by : (o : Option Disorder) → disorder n before s ≡ o → or_next o (first_disorder (n + 1) (Some s.monomial) ss) ≡ Some d → (first_disorder (n + 1) (Some s.monomial) ss ≡ Some d → term_of d < n + 1 + length ss) → term_of d < n + suc (length ss)
    by None e k further = let l = further k in omega arith
    by (Some f) e k further = let l = disorder_term n before s d (e ∙ k) in omega (arith, l)

part_kept : (i k j : ℕ) (ts us : List Term) → i < length ts → part_text k j (drop i (ts ++ us)) ≡ part_text k j (drop i ts)
part_kept i k j [] us h = absurd (omega arith)
part_kept zero k j (t ∷ ts) us h = refl
part_kept (suc i) k j (t ∷ ts) us h = part_kept i k j ts us (omega arith)

place_kept : (ts us : List Term) (d : Disorder) → term_of d < length ts → place (ts ++ us) d ≡ place ts d
place_kept ts us (TermAt i) h = ap (λ l. length (front l)) (take-append-le i ts us (omega arith))
place_kept ts us (FactorAt i j) h = ap (λ l. length (front l ++ part_text i j (drop i (ts ++ us))) + 1) (take-append-le i ts us (omega arith)) ∙ ap (λ l. length (front (take i ts) ++ l) + 1) (part_kept i i j ts us h)

-- ---- a term's text up to one of its factors

more_factors_append : (ps qs : List (ℕ × ℕ)) (xs : List ℕ) → more_factors (ps ++ qs) ++ xs ≡ more_factors ps ++ (more_factors qs ++ xs)
more_factors_append [] qs xs = refl
more_factors_append (p ∷ ps) qs xs =
    append_assoc (codes "*" ++ factor_text p) (more_factors (ps ++ qs)) xs
    ∙ ap (λ l. (codes "*" ++ factor_text p) ++ l) (more_factors_append ps qs xs)
    ∙ sym (append_assoc (codes "*" ++ factor_text p) (more_factors ps) (more_factors qs ++ xs))

body_split : (n : ℕ) (ps qs : List (ℕ × ℕ)) (xs : List ℕ) → 0 < length ps → body_text n (ps ++ qs) ++ xs ≡ body_text n ps ++ (more_factors qs ++ xs)
body_split n [] qs xs h = absurd (omega arith)
body_split n (p ∷ ps) qs xs h =
    let start = (if n == 1 then [] else decimal n ++ codes "*") ++ factor_text p in
    append_assoc start (more_factors (ps ++ qs)) xs
    ∙ ap (λ l. start ++ l) (more_factors_append ps qs xs)
    ∙ sym (append_assoc start (more_factors ps) (more_factors qs ++ xs))

pub not_empty : (n : ℕ) → 0 < n → (n == 0) ≡ false
not_empty n h = grind (arith, nat_tests)

plus_same : (ts : List Term) → plus (length ts) ≡ plus_of ts
plus_same [] = refl
plus_same (t ∷ ts) = ap (λ b. if b then [] else codes "+") (not_empty (length (t ∷ ts)) (omega arith))

term_split : (sign : List ℕ) (t : Term) (ps qs : List (ℕ × ℕ)) (xs : List ℕ) → t.monomial ≡ ps ++ qs → 0 < length ps → term_text sign t ++ xs ≡ term_text sign (record { monomial = ps; coeff = t.coeff }) ++ (more_factors qs ++ xs)
term_split sign t ps qs xs e h =
    let s = sign_text sign t.coeff in
    append_assoc s (body_text (unsigned_abs t.coeff) t.monomial) xs
    ∙ ap (λ m. s ++ (body_text (unsigned_abs t.coeff) m ++ xs)) e
    ∙ ap (λ l. s ++ l) (body_split (unsigned_abs t.coeff) ps qs xs h)
    ∙ sym (append_assoc s (body_text (unsigned_abs t.coeff) ps) (more_factors qs ++ xs))

-- the place of a factor of the last term
factor_at : (text rest further : List ℕ) (ts : List Term) (t : Term) (left : ℕ) → front ts ++ rest ≡ text → rest ≡ term_text (plus_of ts) t ++ further → (h : IsFactorAt t.monomial further left) → left + place (ts ++ t ∷ []) (FactorAt (length ts) (length h.before)) ≡ length text
factor_at text rest further ts t left e r h =
    let i = length ts in
    let j = length h.before in
    let some = first_some 0 j t.monomial h.first in
    let sub : Term = record { monomial = h.before; coeff = t.coeff } in
    let head : take j t.monomial ≡ h.before = ap (take j) h.split ∙ take-append_seam h.before h.after in
    let part : part_text i j (drop i (ts ++ t ∷ [])) ≡ term_text (plus_of ts) sub = ap (part_text i j) (drop-append_seam ts (t ∷ [])) ∙ ap (λ m. term_text (plus i) (record { monomial = m; coeff = t.coeff })) head ∙ ap (λ s. term_text s sub) (plus_same ts) in
    let at : place (ts ++ t ∷ []) (FactorAt i j) ≡ length (front ts ++ term_text (plus_of ts) sub) + 1 = ap (λ l. length (front l ++ part_text i j (drop i (ts ++ t ∷ []))) + 1) (take-append_seam ts (t ∷ [])) ∙ ap (λ l. length (front ts ++ l) + 1) part in
    let whole : (front ts ++ term_text (plus_of ts) sub) ++ (more_factors h.after ++ further) ≡ text = append_assoc (front ts) (term_text (plus_of ts) sub) (more_factors h.after ++ further) ∙ ap (λ l. front ts ++ l) (sym (r ∙ term_split (plus_of ts) t h.before h.after further h.split some)) ∙ e in
    let sum = sym (length-append (front ts ++ term_text (plus_of ts) sub) (more_factors h.after ++ further)) ∙ ap length whole in
    let l = h.at_place in
    omega (arith, at, sum, l)

-- the place of the last term
term_at : (text rest : List ℕ) (ts : List Term) (t : Term) (left : ℕ) → front ts ++ rest ≡ text → left ≡ length rest → left + place (ts ++ t ∷ []) (TermAt (length ts)) ≡ length text
term_at text rest ts t left e l =
    let at : place (ts ++ t ∷ []) (TermAt (length ts)) ≡ length (front ts) = ap (λ us. length (front us)) (take-append_seam ts (t ∷ [])) in
    let sum = sym (length-append (front ts) rest) ∙ ap length e in
    omega (arith, at, sum, l)

-- the place of what breaks the order first, with one term more
pub disorder_more : (text rest further : List ℕ) (ts : List Term) (t : Term) (old o factor : Option ℕ) (left : ℕ) → front ts ++ rest ≡ text → rest ≡ term_text (plus_of ts) t ++ further → left ≡ length rest → IsFactorPlace t.monomial further factor → IsDisorderPlace text ts old → o ≡ next_place old (last_monomial None ts) t.monomial left factor → IsDisorderPlace text (ts ++ t ∷ []) o
disorder_more text rest further ts t (Some m) o factor left e r l f h q = subst (IsDisorderPlace text (ts ++ t ∷ [])) (sym q) (record {
  first = h.first;
  is_first = disorder_kept 0 None ts (t ∷ []) h.first h.is_first;
  at_place = ap (λ n. m + n) (place_kept ts (t ∷ []) h.first (let w = disorder_within 0 None ts h.first h.is_first in omega arith)) ∙ h.at_place;
})
disorder_more text rest further ts t None o factor left e r l f h q = subst (IsDisorderPlace text (ts ++ t ∷ [])) (sym q) (by (is_below (last_monomial None ts) (product t.monomial)) refl factor f)
  where
    i : ℕ
    i = length ts

    next : first_disorder 0 None (ts ++ t ∷ []) ≡ disorder i (last_monomial None ts) t
    next = disorder_next 0 None ts t h ∙ ap (λ k. disorder k (last_monomial None ts) t) (let z : 0 + length ts ≡ length ts = omega arith in z)

    shown : (b : Bool) → is_below (last_monomial None ts) (product t.monomial) ≡ b → first_disorder 0 None (ts ++ t ∷ []) ≡ (if b then option_map (FactorAt i) (first_factor 0 t.monomial) else Some (TermAt i))
    shown b w = next ∙ ap (λ v. if v then option_map (FactorAt i) (first_factor 0 t.monomial) else Some (TermAt i)) w

    by : (b : Bool) → is_below (last_monomial None ts) (product t.monomial) ≡ b → (g : Option ℕ) → IsFactorPlace t.monomial further g → IsDisorderPlace text (ts ++ t ∷ []) (if b then g else Some left)
    by true w None k = shown true w ∙ ap (option_map (FactorAt i)) k
    by true w (Some n) k = record {
      first = FactorAt i (length k.before);
      is_first = shown true w ∙ ap (option_map (FactorAt i)) k.first;
      at_place = factor_at text rest further ts t n e r k;
    }
    by false w g k = record { first = TermAt i; is_first = shown false w; at_place = term_at text rest ts t left e l }
