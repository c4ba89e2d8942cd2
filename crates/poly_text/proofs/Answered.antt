-- A text has at most one answer.
use Rattle.std.specs.Prelude.{◌≡◌, ◌≢◌, ℕ, ◌+◌, ◌^◌, ◌<◌, ◌≤◌, Bool, true, false, ◌&&◌, nat_lt, Option, None, Some, pos, unsigned_abs, List, [], ◌∷◌, ◌++◌, take, drop, refl}
use Rattle.std.proofs.Common.{sym, ◌∙◌, ap, subst, arith, inl, inr, append_assoc}
use Rattle.std.proofs.lemmas.Bool.{cases_order}
use Rattle.std.proofs.lemmas.List.{take-append-drop, take-take}
use Rattle.std.specs.List.{AllByRecursion, list_all}
use Rattle.monomial.specs.Monomials.{IsMonomial, IsPowers}
use Rattle.sparse_poly.specs.declared.Term.{Term}
use Rattle.sparse_poly.specs.Contributions.{IsPoly, max_coeff}
use Rattle.poly_text.proofs.Digits.{below_of}
use Rattle.poly_text.specs.Text.{poly_text}
use Rattle.poly_text.specs.Form.{IsForm, IsSyntaxFault}
use Rattle.poly_text.specs.Numbers.{IsFactorInRange, AreInRange}
use Rattle.poly_text.specs.Order.{first_disorder, place, IsOrderFault}
use Rattle.poly_text.specs.Reading.{uses_below, IsSpelling, IsTextFault}
use Rattle.poly_text.specs.Fronts.{IsLive}
use Rattle.poly_text.specs.State.{Start}
use Rattle.poly_text.specs.Disorder.{Disorder}
use Rattle.poly_text.specs.declared.reader.PolyTextFault.{PolyTextFault}
use Rattle.poly_text.specs.declared.reader.PolyTextFault.TheVariants.{Syntax, Number, Order, OutOfMemory}
use Rattle.poly_text.proofs.Alone.{same_text, are_small}
use Rattle.poly_text.proofs.Written.{written}
use Rattle.poly_text.proofs.Ordered.{poly_ordered}

-- ---- a polynomial's numbers are in range

factors_in_range : (ps : List (ℕ × ℕ)) → IsPowers ps → AllByRecursion (λ (p : ℕ × ℕ). (p.0 < 2 ^ 32) × (p.1 ≤ 65535)) ps → AllByRecursion (IsFactorInRange (2 ^ 32)) ps
factors_in_range [] h k = tt
factors_in_range (p ∷ ps) h k = ((k.0.0, h.0, k.0.1), factors_in_range ps h.2 k.1)

terms_in_range : (ts : List Term) → AllByRecursion (λ (t : Term). IsMonomial t.monomial) ts → AllByRecursion (λ (t : Term). t.coeff ≢ pos 0) ts → AllByRecursion (λ (t : Term). unsigned_abs t.coeff ≤ max_coeff) ts → AreInRange (2 ^ 32) ts
terms_in_range [] m a r = tt
terms_in_range (t ∷ ts) m a r = (record { apart = a.0; in_range = r.0; factors = factors_in_range t.monomial m.0.powers m.0.in_range }, terms_in_range ts m.1 a.1 r.1)

pub poly_in_range : (p : List Term) → IsPoly p → AreInRange (2 ^ 32) p
poly_in_range p h = terms_in_range p h.monomials h.apart h.in_range

-- a text is that of one polynomial
pub one_poly : (p q : List Term) → IsPoly p → IsPoly q → poly_text p ≡ poly_text q → p ≡ q
one_poly p q h k e = same_text p q (are_small (2 ^ 32) p (omega arith) (poly_in_range p h)) (are_small (2 ^ 32) q (omega arith) (poly_in_range q k)) e

-- ---- a polynomial with variables below a bound

both : (a b : Bool) → (a && b) ≡ true → (a ≡ true) × (b ≡ true)
both true b h = (refl, h)
both false b h = absurd (cc)

factors_below : (u : ℕ) (ps : List (ℕ × ℕ)) → AllByRecursion (IsFactorInRange (2 ^ 32)) ps → list_all (λ (p : ℕ × ℕ). nat_lt p.0 u) ps ≡ true → AllByRecursion (IsFactorInRange u) ps
factors_below u [] h b = tt
factors_below u (p ∷ ps) h b =
    let k = both (nat_lt p.0 u) (list_all (λ (p : ℕ × ℕ). nat_lt p.0 u) ps) b in
    ((below_of p.0 u k.0, h.0.1, h.0.2), factors_below u ps h.1 k.1)

terms_below : (u : ℕ) (ts : List Term) → AreInRange (2 ^ 32) ts → uses_below u ts ≡ true → AreInRange u ts
terms_below u [] h b = tt
terms_below u (t ∷ ts) h b =
    let k = both (list_all (λ (p : ℕ × ℕ). nat_lt p.0 u) t.monomial) (uses_below u ts) b in
    (record { apart = h.0.apart; in_range = h.0.in_range; factors = factors_below u t.monomial h.0.factors k.0 }, terms_below u ts h.1 k.1)

pub spelling_in_range : (u : ℕ) (text : List ℕ) (p : List Term) → IsSpelling u text p → AreInRange u p
spelling_in_range u text p h = terms_below u p (poly_in_range p h.poly) h.below

-- ---- answers

pub one_spelling : (u : ℕ) (text : List ℕ) (p q : List Term) → IsSpelling u text p → IsSpelling u text q → p ≡ q
one_spelling u text p q h k = one_poly p q h.poly k.poly (sym h.spelled ∙ k.spelled)

module _ (u : ℕ) (text : List ℕ) (small : u ≤ 2 ^ 32) where
  pub spelling_live : (p : List Term) → IsSpelling u text p → IsLive u Start text
  spelling_live p h = subst (IsLive u Start) (sym h.spelled) (written u p small (spelling_in_range u text p h))

  -- the terms of an order fault are those of the text
  fault_terms : (p : List Term) (at : ℕ) → AreInRange u p → text ≡ poly_text p → (k : IsOrderFault u text at) → k.terms ≡ p
  fault_terms p at r e k = same_text k.terms p (are_small u k.terms small k.in_range) (are_small u p small r) (sym k.spelled ∙ e)

  pub no_fault : (p : List Term) (fault : PolyTextFault) → IsSpelling u text p → IsTextFault u text fault → fault ≡ OutOfMemory
  no_fault p (Syntax at) h k = absurd (k.not_form (spelling_live p h).form)
  no_fault p (Number at) h k =
      let e : ◌≡◌ {A = Option ℕ} None (Some at) = sym (spelling_live p h).numbers ∙ k.first in absurd (cc)
  no_fault p (Order at) h k =
      let q : k.order.terms ≡ p = fault_terms p at (spelling_in_range u text p h) h.spelled k.order in
      let e : ◌≡◌ {A = Option Disorder} None (Some k.order.first) = sym (ap (first_disorder 0 None) q ∙ poly_ordered p h.poly) ∙ k.order.is_first in absurd (cc)
  no_fault p OutOfMemory h k = refl

  -- no text of the form begins as far as a later place, where it may begin so
  not_later : (i j : ℕ) → i < j → IsSyntaxFault text i → IsSyntaxFault text j → ⊥
  not_later i j l h k = elim h.stops [
    | inl e ↦ let w = k.within in omega arith
    | inr never ↦
        let m = i + 1 in
        let less : m ≤ j = omega arith in
        let e : take j text ≡ take m text ++ drop m (take j text) = sym (take-append-drop m (take j text)) ∙ ap (λ t. t ++ drop m (take j text)) (take-take m j text less) in
        never (drop m (take j text) ++ k.begins.0) (subst IsForm (ap (λ t. t ++ k.begins.0) e ∙ append_assoc (take m text) (drop m (take j text)) k.begins.0) k.begins.1)
  ]

  one_place : (i j : ℕ) → IsSyntaxFault text i → IsSyntaxFault text j → i ≡ j
  one_place i j h k = elim (cases_order i j) [
    | inl e ↦ e
    | inr o ↦ elim o [ inl l ↦ absurd (not_later i j l h k) | inr l ↦ absurd (not_later j i l k h) ]
  ]

  one_order : (i j : ℕ) → IsOrderFault u text i → IsOrderFault u text j → i ≡ j
  one_order i j h k =
      let q : k.terms ≡ h.terms = fault_terms h.terms j h.in_range h.spelled k in
      let e : Some k.first ≡ Some h.first = sym k.is_first ∙ ap (first_disorder 0 None) q ∙ h.is_first in
      let d : k.first ≡ h.first = cc in
      h.at_place ∙ sym (k.at_place ∙ ap (λ ts. place ts k.first) q ∙ ap (place h.terms) d)

  pub one_fault : (first second : PolyTextFault) → IsTextFault u text first → IsTextFault u text second → first ≢ OutOfMemory → second ≢ OutOfMemory → first ≡ second
  one_fault OutOfMemory second h k y z = absurd (y refl)
  one_fault first OutOfMemory h k y z = absurd (z refl)
  one_fault (Syntax i) (Syntax j) h k y z = ap Syntax (one_place i j h k)
  one_fault (Syntax i) (Number j) h k y z = absurd (h.not_form k.form)
  one_fault (Syntax i) (Order j) h k y z = absurd (h.not_form k.form)
  one_fault (Number i) (Syntax j) h k y z = absurd (k.not_form h.form)
  one_fault (Number i) (Number j) h k y z = ap Number (let e : Some i ≡ Some j = sym h.first ∙ k.first in let q : i ≡ j = cc in q)
  one_fault (Number i) (Order j) h k y z = let e : ◌≡◌ {A = Option ℕ} None (Some i) = sym k.numbers ∙ h.first in absurd (cc)
  one_fault (Order i) (Syntax j) h k y z = absurd (k.not_form h.form)
  one_fault (Order i) (Number j) h k y z = let e : ◌≡◌ {A = Option ℕ} None (Some j) = sym h.numbers ∙ k.first in absurd (cc)
  one_fault (Order i) (Order j) h k y z = ap Order (one_order i j h.order k.order)
