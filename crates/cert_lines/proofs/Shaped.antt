-- Texts of numbers, items and polynomials are right fields.
use Rattle.std.specs.Prelude.{◌≡◌, ℕ, ◌<◌, ◌≤◌, ◌^◌, true, false, ◌&&◌, ◌||◌, nat_lt, nat_le, is_some, Option, None, Some, List, [], ◌∷◌, ◌++◌, codes, decimal, refl}
use Rattle.std.specs.Str.{bytes_eq}
use Rattle.std.specs.List.{AllByRecursion, list_all}
use Rattle.std.proofs.Common.{◌∙◌, ap, arith}
use Rattle.std.proofs.Math.Bool.{or-true}
use Rattle.std.proofs.lemmas.Bool.{and_parts}
use Rattle.std.proofs.lemmas.Bool.Decides.{nat_tests}
use Rattle.std.proofs.lemmas.Slice.Eq.{bytes_eq-Decides}
use Rattle.sparse_poly.specs.declared.Term.{Term}
use Rattle.sparse_poly.specs.Contributions.{IsPoly}
use Rattle.decimal_text.specs.Numerals.{is_numeral, number, IsNumeralFault}
use Rattle.decimal_text.proofs.Written.{spelled}
use Rattle.poly_text.specs.Text.{poly_text}
use Rattle.poly_text.specs.Reading.{uses_below, IsSpelling}
use Rattle.poly_text.proofs.Digits.{below_test, below_of}
use Rattle.poly_text.proofs.Answered.{spelling_live}
use Rattle.derive_lines.specs.declared.parts.Item.{Item}
use Rattle.derive_lines.specs.declared.parts.Item.TheVariants.{Root, Decision as of_decision, Line as of_line}
use Rattle.cert_text.specs.Fields.{item_text, reference_text}
use Rattle.cert_text.specs.Numbers.{max_number, HasItemInRange, HasReferenceInRange}
use Rattle.sparse_poly.specs.Reads.{HasVariablesBelow}
use Rattle.cert_lines.specs.Forms.{Word, OneOf, UpTo, Item as item_shape, Reference, Variable, Polynomial}
use Rattle.cert_lines.specs.Fitting.{IsRight}
use Rattle.cert_lines.specs.LineReading.{IsShapeFault}
use Rattle.decimal_text.specs.declared.NumeralFault.{NumeralFault}
use Rattle.decimal_text.specs.declared.NumeralFault.TheVariants.{Form, Range}

not_above : (n most : ℕ) → n ≤ most → nat_lt most n ≡ false
not_above n most h = grind (arith, nat_tests)

not_under : (v u : ℕ) → v < u → nat_le u v ≡ false
not_under v u h = grind (arith, nat_tests)

numeral : (n : ℕ) → n ≤ max_number → is_numeral (decimal n) ≡ true
numeral n h = (spelled n (omega arith)).0

value : (n : ℕ) → n ≤ max_number → number (decimal n) ≡ n
value n h = (spelled n (omega arith)).1

within : (n most : ℕ) → n ≤ most → most ≤ max_number → nat_lt most (number (decimal n)) ≡ false
within n most h k = ap (nat_lt most) (value n (omega arith)) ∙ not_above n most h

pub number_right : (u n most : ℕ) → n ≤ most → most ≤ max_number → IsRight u (UpTo most) (decimal n)
number_right u n most h k = record { shaped = numeral n (omega arith); in_range = within n most h k; spelled = λ e. absurd (cc) }

pub item_right : (u : ℕ) (x : Item) → HasItemInRange x → IsRight u item_shape (item_text x)
item_right u (Root n) h = record { shaped = numeral n h; in_range = within n max_number h (omega arith); spelled = λ e. absurd (cc) }
item_right u (of_decision n) h = record { shaped = numeral n h; in_range = within n max_number h (omega arith); spelled = λ e. absurd (cc) }
item_right u (of_line n) h = record { shaped = numeral n h; in_range = within n max_number h (omega arith); spelled = λ e. absurd (cc) }

pub reference_right : (u : ℕ) (x : Option Item) → HasReferenceInRange x → IsRight u Reference (reference_text x)
reference_right u None h = record { shaped = refl; in_range = refl; spelled = λ e. absurd (cc) }
reference_right u (Some (Root n)) h = record { shaped = numeral n h; in_range = within n max_number h (omega arith); spelled = λ e. absurd (cc) }
reference_right u (Some (of_decision n)) h = record { shaped = numeral n h; in_range = within n max_number h (omega arith); spelled = λ e. absurd (cc) }
reference_right u (Some (of_line n)) h = record { shaped = numeral n h; in_range = within n max_number h (omega arith); spelled = λ e. absurd (cc) }

pub variable_right : (u v : ℕ) → v < u → u ≤ max_number → IsRight u Variable (codes "x" ++ decimal v)
variable_right u v h k = record {
  shaped = numeral v (omega arith);
  in_range = ap (nat_le u) (value v (omega arith)) ∙ not_under v u h;
  spelled = λ e. absurd (cc);
}

-- ---- variables below a bound, by a test

powers_below : (u : ℕ) (ps : List (ℕ × ℕ)) → AllByRecursion (λ (q : ℕ × ℕ). q.0 < u) ps → list_all (λ (q : ℕ × ℕ). nat_lt q.0 u) ps ≡ true
powers_below u [] h = refl
powers_below u (p ∷ ps) h = ap (λ b. b && list_all (λ (q : ℕ × ℕ). nat_lt q.0 u) ps) (below_test p.0 u h.0) ∙ powers_below u ps h.1

pub uses_only : (u : ℕ) (p : List Term) → HasVariablesBelow u p → uses_below u p ≡ true
uses_only u [] h = refl
uses_only u (t ∷ ts) h = ap (λ b. b && uses_below u ts) (powers_below u t.monomial h.0) ∙ uses_only u ts h.1

powers_are_below : (u : ℕ) (ps : List (ℕ × ℕ)) → list_all (λ (q : ℕ × ℕ). nat_lt q.0 u) ps ≡ true → AllByRecursion (λ (q : ℕ × ℕ). q.0 < u) ps
powers_are_below u [] h = tt
powers_are_below u (p ∷ ps) h = let k = and_parts (nat_lt p.0 u) (list_all (λ (q : ℕ × ℕ). nat_lt q.0 u) ps) h in (below_of p.0 u k.0, powers_are_below u ps k.1)

pub has_only : (u : ℕ) (p : List Term) → uses_below u p ≡ true → HasVariablesBelow u p
has_only u [] h = tt
has_only u (t ∷ ts) h = let k = and_parts (list_all (λ (q : ℕ × ℕ). nat_lt q.0 u) t.monomial) (uses_below u ts) h in (powers_are_below u t.monomial k.0, has_only u ts k.1)

pub spelling_right : (u : ℕ) (f : List ℕ) (p : List Term) → u ≤ 2 ^ 32 → IsSpelling u f p → IsRight u Polynomial f
spelling_right u f p k h = let live = spelling_live u f k p h in record { shaped = live.form; in_range = ap is_some live.numbers; spelled = λ _. (p, h) }

pub poly_right : (u : ℕ) (p : List Term) → u ≤ 2 ^ 32 → IsPoly p → HasVariablesBelow u p → IsRight u Polynomial (poly_text p)
poly_right u p k h b = spelling_right u (poly_text p) p k (record { spelled = refl; poly = h; below = uses_only u p b })

-- ---- words

pub same_bytes : (w : List ℕ) → bytes_eq w w ≡ true
same_bytes w = (bytes_eq-Decides w w).1 refl

pub word_right : (u : ℕ) (w : List ℕ) → IsRight u (Word w) w
word_right u w = record { shaped = same_bytes w; in_range = refl; spelled = λ e. absurd (cc) }

pub first_right : (u : ℕ) (v w : List ℕ) → IsRight u (OneOf v w) v
first_right u v w = record { shaped = ap (λ b. b || bytes_eq v w) (same_bytes v); in_range = refl; spelled = λ e. absurd (cc) }

pub second_right : (u : ℕ) (v w : List ℕ) → IsRight u (OneOf v w) w
second_right u v w = record { shaped = ap (λ b. bytes_eq w v || b) (same_bytes w) ∙ or-true (bytes_eq w v); in_range = refl; spelled = λ e. absurd (cc) }

at_most : (u n : ℕ) → u ≤ n → nat_le u n ≡ true
at_most u n h = grind (arith, nat_tests)

-- a number that is too great for a variable
pub variable_fault : (u n : ℕ) (digits : List ℕ) → digits ≡ decimal n → n ≤ max_number → u ≤ n → IsShapeFault u Variable (120 ∷ digits) Range
variable_fault u n digits e h k = (ap is_numeral e ∙ numeral n h, ap (λ d. nat_le u (number d)) e ∙ ap (nat_le u) (value n h) ∙ at_most u n k)

-- no number
pub no_variable : (u : ℕ) (digits : List ℕ) (fault : NumeralFault) → IsNumeralFault max_number digits fault → u ≤ max_number → IsShapeFault u Variable (120 ∷ digits) fault
no_variable u digits Form h k = h
no_variable u digits Range h k = let l = h.great in (h.numeral, at_most u (number digits) (omega (arith, l, k)))
