-- Each text has an answer other than want of memory.
use Rattle.std.specs.Prelude.{◌≡◌, ◌≢◌, ℕ, zero, suc, ◌-◌, ◌^◌, ◌<◌, ◌≤◌, ◌⊎◌, Bool, true, false, ◌==◌, Option, None, Some, Result, Ok, Err, pos, negsuc, unsigned_abs, List, [], ◌∷◌, ◌++◌, length, drop, codes, refl}
use Rattle.std.proofs.Common.{sym, ◌∙◌, ap, arith, inl, inr, append_assoc}
use Rattle.std.specs.List.{AllByRecursion}
use Rattle.sparse_poly.specs.declared.Term.{Term}
use Rattle.poly_text.specs.Text.{more_factors, body_text, poly_text}
use Rattle.poly_text.specs.Form.{IsForm}
use Rattle.poly_text.specs.Numbers.{number_from, after_digits, first_out, IsFactorInRange, AreInRange}
use Rattle.poly_text.specs.Order.{front, first_disorder, place}
use Rattle.poly_text.specs.Reading.{IsSpelling, IsTextFault}
use Rattle.poly_text.specs.Scan.{scan}
use Rattle.poly_text.specs.Fronts.{IsLive, GoesOn, begins_with, after_sign, IsFactorFront, IsFactorsFront, IsBodyFront, IsTermFront}
use Rattle.poly_text.specs.State.{Start, Signed, Letter, FactorEnd}
use Rattle.poly_text.specs.Disorder.{Disorder}
use Rattle.poly_text.specs.declared.reader.PolyTextFault.{PolyTextFault}
use Rattle.poly_text.specs.declared.reader.PolyTextFault.TheVariants.{Syntax, Number, Order, OutOfMemory}
use Rattle.poly_text.proofs.Scanned.{syntax_answer, number_answer, live_answer}
use Rattle.poly_text.proofs.Fronts.{live_behind, coefficient_read, bare_factor, power_factor, star_read, factors_more, factor_shorter, factors_end, bare_body, written_body, zero_text, sign_read, sign_shorter, terms_more, terms_end}
use Rattle.poly_text.proofs.Ordered.{ordered_poly}
use Rattle.poly_text.proofs.Read.{terms_below}

-- ---- a term at the front

record AFactor (u : ℕ) (text : List ℕ) : Type 0 where
  factor : ℕ × ℕ
  rest : List ℕ
  front : IsFactorFront u text factor rest

a_factor : (u : ℕ) (text : List ℕ) → u < 2 ^ 32 → IsLive u Letter text → AFactor u text
a_factor u text s h = by (begins_with (after_digits text) 94) refl
  where
    by : (b : Bool) → begins_with (after_digits text) 94 ≡ b → AFactor u text
    by true e = record { factor = (number_from 0 text, number_from 0 (drop 1 (after_digits text))); rest = after_digits (drop 1 (after_digits text)); front = power_factor u text (number_from 0 text) (number_from 0 (drop 1 (after_digits text))) (after_digits text) (after_digits (drop 1 (after_digits text))) s h refl refl e refl refl }
    by false e = record { factor = (number_from 0 text, 1); rest = after_digits text; front = bare_factor u text (number_from 0 text) (after_digits text) s h refl refl e }

record SomeFactors (u : ℕ) (text : List ℕ) (old : List (ℕ × ℕ)) : Type 0 where
  new : List (ℕ × ℕ)
  rest : List ℕ
  front : IsFactorsFront u text old new rest

some_factors : (n u : ℕ) (text rest : List ℕ) (old powers : List (ℕ × ℕ)) → u < 2 ^ 32 → length rest ≤ n → more_factors old ++ text ≡ more_factors powers ++ rest → AllByRecursion (IsFactorInRange u) powers → IsLive u FactorEnd rest → length rest ≤ length text → SomeFactors u text old
some_factors zero u text rest old powers s l e r h k = by (begins_with rest 42) refl
  where
    by : (b : Bool) → begins_with rest 42 ≡ b → SomeFactors u text old
    by false b = record { new = powers; rest = rest; front = record { spelled = e; in_range = r; follows = factors_end u rest h b; shorter = k } }
    by true b = let w = (star_read u rest h b).long in absurd (omega arith)
some_factors (suc n) u text rest old powers s l e r h k = by (begins_with rest 42) refl (λ further new. some_factors n u text further old new s)
  where
    by : (b : Bool) → begins_with rest 42 ≡ b → ((further : List ℕ) (new : List (ℕ × ℕ)) → length further ≤ n → more_factors old ++ text ≡ more_factors new ++ further → AllByRecursion (IsFactorInRange u) new → IsLive u FactorEnd further → length further ≤ length text → SomeFactors u text old) → SomeFactors u text old
    by false b go = record { new = powers; rest = rest; front = record { spelled = e; in_range = r; follows = factors_end u rest h b; shorter = k } }
    by true b go =
        let f = a_factor u (drop 2 rest) s (star_read u rest h b).live in
        let m = factors_more u (more_factors old ++ text) text rest f.rest powers (powers ++ f.factor ∷ []) f.factor e r h k b f.front refl in
        let less = factor_shorter u rest f.rest f.factor h b f.front in
        go f.rest (powers ++ f.factor ∷ []) (omega arith) m.spelled m.in_range m.live m.shorter

record ABody (u : ℕ) (text : List ℕ) : Type 0 where
  size : ℕ
  powers : List (ℕ × ℕ)
  rest : List ℕ
  front : IsBodyFront u text size powers rest

a_body : (u : ℕ) (text : List ℕ) → u < 2 ^ 32 → IsLive u Signed text → ABody u text
a_body u text s h = by (begins_with text 120) refl
  where
    by : (b : Bool) → begins_with text 120 ≡ b → ABody u text
    by true b =
        let f = a_factor u (drop 1 text) s (live_behind u Signed 120 text b h) in
        let g = some_factors (length f.rest) u f.rest f.rest (f.factor ∷ []) (f.factor ∷ []) s (omega arith) refl (f.front.in_range, tt) f.front.live (omega arith) in
        record { size = 1; powers = g.new; rest = g.rest; front = bare_body u text f.rest g.rest f.factor g.new b f.front g.front }
    by false b =
        let r = coefficient_read u text h b in
        let behind = after_digits text in
        let g = some_factors (length behind) u behind behind [] [] s (omega arith) refl tt r.live (omega arith) in
        record { size = number_from 0 text; powers = g.new; rest = g.rest; front = written_body u (number_from 0 text) text behind g.rest g.new h b refl refl g.front }

record ATerm (u : ℕ) (negative : Bool) (text : List ℕ) : Type 0 where
  term : Term
  rest : List ℕ
  front : IsTermFront u negative text term rest

signed_term : (u n : ℕ) (negative : Bool) (text : List ℕ) (ps : List (ℕ × ℕ)) (rest : List ℕ) → IsBodyFront u text n ps rest → ATerm u negative text
signed_term u zero negative text ps rest f = let k = f.some in absurd (omega arith)
signed_term u (suc n) false text ps rest f =
    record {
      term = record { monomial = ps; coeff = pos (suc n) };
      rest = rest;
      front = record {
        spelled = λ plus. ap (λ l. plus ++ l) f.spelled ∙ sym (append_assoc plus (body_text (suc n) ps) rest);
        in_range = record { apart = λ e. some n e; in_range = f.small; factors = f.in_range };
        follows = f.follows;
        shorter = f.shorter;
      };
    }
  where
    some : (n : ℕ) → pos (suc n) ≡ pos 0 → ⊥
    some n e = let k : suc n ≡ 0 = ap unsigned_abs e in absurd (omega arith)
signed_term u (suc n) true text ps rest f =
    record {
      term = record { monomial = ps; coeff = negsuc n };
      rest = rest;
      front = record {
        spelled = λ plus. ap (λ l. codes "-" ++ l) f.spelled;
        in_range = record { apart = λ e. cc; in_range = f.small; factors = f.in_range };
        follows = f.follows;
        shorter = f.shorter;
      };
    }

a_term : (u : ℕ) (negative : Bool) (text : List ℕ) → u < 2 ^ 32 → IsLive u Signed text → ATerm u negative text
a_term u negative text s h = let b = a_body u text s h in signed_term u b.size negative text b.powers b.rest b.front

-- ---- terms

record SomeTerms (u : ℕ) (text : List ℕ) : Type 0 where
  terms : List Term
  spelled : text ≡ poly_text terms
  in_range : AreInRange u terms

no_length : (n : ℕ) → n ≤ 0 → (n == 0) ≡ false → ⊥
no_length zero l e = absurd (cc)
no_length (suc n) l e = absurd (omega arith)

some_terms : (n u : ℕ) (text rest : List ℕ) (old : List Term) → u < 2 ^ 32 → length rest ≤ n → front old ++ rest ≡ text → AreInRange u old → GoesOn u old rest → SomeTerms u text
some_terms zero u text rest old s l e r g = by (length rest == 0) refl
  where
    by : (b : Bool) → (length rest == 0) ≡ b → SomeTerms u text
    by true b = record { terms = old; spelled = terms_end u text rest old e g b; in_range = r }
    by false b = absurd (no_length (length rest) l b)
some_terms (suc n) u text rest old s l e r g = by (length rest == 0) refl (λ further new. some_terms n u text further new s)
  where
    by : (b : Bool) → (length rest == 0) ≡ b → ((further : List ℕ) (new : List Term) → length further ≤ n → front new ++ further ≡ text → AreInRange u new → GoesOn u new further → SomeTerms u text) → SomeTerms u text
    by true b go = record { terms = old; spelled = terms_end u text rest old e g b; in_range = r }
    by false b go =
        let t = a_term u (begins_with rest 45) (after_sign rest) s (sign_read u old rest g b).live in
        let m = terms_more u text rest t.rest (begins_with rest 45) old (old ++ t.term ∷ []) t.term e r g b refl t.front refl in
        let less = t.front.shorter in
        let most = sign_shorter rest in
        go t.rest (old ++ t.term ∷ []) (omega arith) m.spelled m.in_range m.goes_on

terms_of : (u : ℕ) (text : List ℕ) → u < 2 ^ 32 → IsLive u Start text → SomeTerms u text
terms_of u text s h = by (begins_with text 48) refl
  where
    by : (b : Bool) → begins_with text 48 ≡ b → SomeTerms u text
    by true b = record { terms = []; spelled = zero_text u text h b; in_range = tt }
    by false b = some_terms (length text) u text text [] s (omega arith) refl tt (h, b)

-- ---- an answer

ordered_or : (u : ℕ) (text : List ℕ) (terms : List Term) → u < 2 ^ 32 → IsForm text → first_out u Start text ≡ None → text ≡ poly_text terms → AreInRange u terms → ((p : List Term) × IsSpelling u text p) ⊎ ((fault : PolyTextFault) × IsTextFault u text fault × (fault ≢ OutOfMemory))
ordered_or u text terms s form numbers e r = by (first_disorder 0 None terms) refl
  where
    by : (o : Option Disorder) → first_disorder 0 None terms ≡ o → ((p : List Term) × IsSpelling u text p) ⊎ ((fault : PolyTextFault) × IsTextFault u text fault × (fault ≢ OutOfMemory))
    by None q = inl (terms, record { spelled = e; poly = ordered_poly u terms (omega arith) r q; below = terms_below u terms r })
    by (Some d) q = inr (Order (place terms d), record { form = form; numbers = numbers; order = record { terms = terms; spelled = e; in_range = r; first = d; is_first = q; at_place = refl } }, λ k. cc)

-- a text is that of a polynomial, or has a fault
pub some_answer : (u : ℕ) (text : List ℕ) → u < 2 ^ 32 → ((p : List Term) × IsSpelling u text p) ⊎ ((fault : PolyTextFault) × IsTextFault u text fault × (fault ≢ OutOfMemory))
some_answer u text s = by (scan u None Start text) refl
  where
    by : (r : Result (Option ℕ) ℕ) → scan u None Start text ≡ r → ((p : List Term) × IsSpelling u text p) ⊎ ((fault : PolyTextFault) × IsTextFault u text fault × (fault ≢ OutOfMemory))
    by (Err left) q = inr (Syntax (length text - left), (syntax_answer u left None text q).1, λ k. cc)
    by (Ok (Some left)) q = inr (Number (length text - left), (number_answer u left text q).1, λ k. cc)
    by (Ok None) q =
        let live = live_answer u text q in
        let t = terms_of u text s live in
        ordered_or u text t.terms s live.form live.numbers t.spelled t.in_range
