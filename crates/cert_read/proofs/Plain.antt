-- The fields of a line have no space and no LF.
use Rattle.std.specs.Prelude.{◌≡◌, ◌≢◌, ℕ, ◌<◌, Bool, true, false, ◌&&◌, ◌||◌, not, ◌==◌, nat_le, Some, List, [], ◌∷◌, ◌++◌, codes, if◌then◌else◌, refl}
use Rattle.std.specs.Str.{bytes_eq}
use Rattle.std.specs.List.{AllByRecursion}
use Rattle.std.proofs.Common.{sym, ◌∙◌, ap, subst, arith}
use Rattle.std.proofs.lemmas.Bool.Decides.{nat_tests}
use Rattle.std.proofs.lemmas.List.{append_cancel_right}
use Rattle.std.proofs.lemmas.Slice.Eq.{bytes_eq-Decides}
use Rattle.decimal_text.specs.Numerals.{is_digit, are_digits, is_numeral}
use Rattle.poly_text.specs.Form.{IsPlainByte}
use Rattle.poly_text.specs.State.{Start}
use Rattle.poly_text.proofs.Runs.{plain_bytes}
use Rattle.cert_lines.specs.declared.kind.Kind.{Kind}
use Rattle.cert_lines.specs.declared.kind.Kind.TheVariants as kind
use Rattle.cert_lines.specs.Bytes.{Lacks}
use Rattle.cert_text.specs.Fields.{ended}
use Rattle.cert_lines.specs.Words.{words, first}
use Rattle.cert_lines.specs.Forms.{Shape, Word, OneOf, UpTo, Item, Reference, Variable, Polynomial, Form, Ended, Field, ByWord, has_shape, has_form, form, is_lettered, is_item_letter, is_absent, kind_by_word}
use Rattle.cert_lines.proofs.Texts.{AreSpaceless, joined, ended_joined, words_of}

-- the field has no space and no LF
abbrev pub IsPlain : List ℕ → Type 0
IsPlain f = AllByRecursion IsPlainByte f

both : (a b : Bool) → a && b ≡ true → (a ≡ true) × (b ≡ true)
both true b h = (refl, h)
both false b h = absurd (cc)

-- ---- words

abbrev is_plain : List ℕ → Bool
is_plain [] = true
is_plain (c ∷ cs) = (not (c == 10) && not (c == 32)) && is_plain cs

plain_byte : (c : ℕ) → not (c == 10) && not (c == 32) ≡ true → IsPlainByte c
plain_byte c h = let k = both (not (c == 10)) (not (c == 32)) h in (not_ten c 10 k.0, not_ten c 32 k.1)
  where
    not_ten : (c b : ℕ) → not (c == b) ≡ true → c ≢ b
    not_ten c b h e = grind (arith, nat_tests)

plain_word : (w : List ℕ) → is_plain w ≡ true → IsPlain w
plain_word [] h = tt
plain_word (c ∷ cs) h = let k = both (not (c == 10) && not (c == 32)) (is_plain cs) h in (plain_byte c k.0, plain_word cs k.1)

pub equal_word : (f w : List ℕ) → bytes_eq f w ≡ true → f ≡ w
equal_word f w h = (bytes_eq-Decides f w).0 h

word_plain : (f w : List ℕ) → is_plain w ≡ true → bytes_eq f w ≡ true → IsPlain f
word_plain f w p h = subst IsPlain (sym (equal_word f w h)) (plain_word w p)

either : (a b : Bool) (P : Type 0) → (a ≡ true → P) → (b ≡ true → P) → a || b ≡ true → P
either true b P f g h = f refl
either false b P f g h = g h

-- ---- numbers and items

digit_plain : (c : ℕ) → is_digit c ≡ true → IsPlainByte c
digit_plain c h = let k = both (nat_le 48 c) (nat_le c 57) h in (λ e. high c 10 (omega arith) k.0 e, λ e. high c 32 (omega arith) k.0 e)
  where
    high : (c b : ℕ) → b < 48 → nat_le 48 c ≡ true → c ≡ b → ⊥
    high c b l h e = grind (arith, nat_tests)

digits_plain : (cs : List ℕ) → are_digits cs ≡ true → IsPlain cs
digits_plain [] h = tt
digits_plain (c ∷ cs) h = let k = both (is_digit c) (are_digits cs) h in (digit_plain c k.0, digits_plain cs k.1)

numeral_plain : (cs : List ℕ) → is_numeral cs ≡ true → IsPlain cs
numeral_plain [] h = tt
numeral_plain (c ∷ []) h = (digit_plain c h, tt)
numeral_plain (c ∷ d ∷ ds) h = let k = both (is_digit c) (are_digits (d ∷ ds)) (both (not (c == 48)) (is_digit c && are_digits (d ∷ ds)) h).1 in (digit_plain c k.0, digits_plain (d ∷ ds) k.1)

lettered_plain : (letter : ℕ → Bool) → letter 10 ≡ false → letter 32 ≡ false → (f : List ℕ) → is_lettered letter f ≡ true → IsPlain f
lettered_plain letter l s [] h = tt
lettered_plain letter l s (c ∷ digits) h =
    let k = both (letter c) (is_numeral digits) h in
    ((λ e. let w : true ≡ false = sym k.0 ∙ ap letter e ∙ l in cc, λ e. let w : true ≡ false = sym k.0 ∙ ap letter e ∙ s in cc), numeral_plain digits k.1)

-- ---- fields

-- the words of a form have no space and no LF
abbrev has_plain_word : Shape → Bool
has_plain_word (Word w) = is_plain w
has_plain_word (OneOf v w) = is_plain v && is_plain w
has_plain_word s = true

abbrev has_plain_words : Form → Bool
has_plain_words Ended = true
has_plain_words (Field s g) = has_plain_word s && has_plain_words g
has_plain_words (ByWord w a b) = is_plain w && (has_plain_words a && has_plain_words b)

shape_plain : (s : Shape) (f : List ℕ) → has_plain_word s ≡ true → has_shape s f ≡ true → IsPlain f
shape_plain (Word w) f p h = word_plain f w p h
shape_plain (OneOf v w) f p h = let k = both (is_plain v) (is_plain w) p in either (bytes_eq f v) (bytes_eq f w) (IsPlain f) (word_plain f v k.0) (word_plain f w k.1) h
shape_plain (UpTo most) f p h = numeral_plain f h
shape_plain Item f p h = lettered_plain is_item_letter refl refl f h
shape_plain Reference f p h = either (is_absent f) (is_lettered is_item_letter f) (IsPlain f) (word_plain f (codes "-") refl) (lettered_plain is_item_letter refl refl f) h
shape_plain Variable f p h = lettered_plain (λ c. c == 120) refl refl f h
shape_plain Polynomial f p h = plain_bytes Start f h

-- fields have no space and no LF
abbrev pub ArePlain : List (List ℕ) → Type 0
ArePlain fs = AllByRecursion IsPlain fs

form_plain : (g : Form) (fs : List (List ℕ)) → has_plain_words g ≡ true → has_form g fs ≡ true → ArePlain fs
form_plain Ended [] p h = tt
form_plain Ended (f ∷ fs) p h = absurd (cc)
form_plain (Field s g) [] p h = tt
form_plain (Field s g) (f ∷ fs) p h =
    let k = both (has_shape s f) (has_form g fs) h in
    let q = both (has_plain_word s) (has_plain_words g) p in
    (shape_plain s f q.0 k.0, form_plain g fs q.1 k.1)
form_plain (ByWord w a b) [] p h = tt
form_plain (ByWord w a b) (f ∷ fs) p h =
    let q = both (is_plain w) (has_plain_words a && has_plain_words b) p in
    let r = both (has_plain_words a) (has_plain_words b) q.1 in
    by (bytes_eq f w) refl h q.0 (form_plain a fs r.0) (form_plain b (f ∷ fs) r.1)
  where
    by : (t : Bool) → bytes_eq f w ≡ t → (if t then has_form a fs else has_form b (f ∷ fs)) ≡ true → is_plain w ≡ true → (has_form a fs ≡ true → ArePlain fs) → (has_form b (f ∷ fs) ≡ true → ArePlain (f ∷ fs)) → ArePlain (f ∷ fs)
    by true e x p g k = (word_plain f w p e, g x)
    by false e x p g k = k x

kind_plain : (k : Kind) → has_plain_words (form k) ≡ true
kind_plain kind.Title = refl
kind_plain kind.Unknowns = refl
kind_plain kind.Equations = refl
kind_plain kind.Budget = refl
kind_plain kind.Lines = refl
kind_plain kind.Split = refl
kind_plain kind.Post = refl
kind_plain kind.Close = refl
kind_plain kind.Leaf = refl
kind_plain kind.Decided = refl
kind_plain kind.Derived = refl
kind_plain kind.Use = refl
kind_plain kind.End = refl
kind_plain kind.Equation = refl
kind_plain kind.Done = refl

pub fields_plain : (k : Kind) (fs : List (List ℕ)) → has_form (form k) fs ≡ true → ArePlain fs
fields_plain k fs h = form_plain (form k) fs (kind_plain k) h

spaceless_field : (f : List ℕ) → IsPlain f → Lacks 32 f
spaceless_field [] h = tt
spaceless_field (c ∷ f) h = (h.0.1, spaceless_field f h.1)

spaceless : (fs : List (List ℕ)) → ArePlain fs → AreSpaceless fs
spaceless [] h = tt
spaceless (f ∷ fs) h = (spaceless_field f h.0, spaceless fs h.1)

endless_field : (f rest : List ℕ) → IsPlain f → Lacks 10 rest → Lacks 10 (f ++ rest)
endless_field [] rest h k = k
endless_field (c ∷ f) rest h k = (h.0.0, endless_field f rest h.1 k)

endless_one : (f : List ℕ) → IsPlain f → Lacks 10 f
endless_one [] h = tt
endless_one (c ∷ f) h = (h.0.0, endless_one f h.1)

-- and so a line of them has no LF
pub one_line : (fs : List (List ℕ)) → ArePlain fs → Lacks 10 (joined fs)
one_line [] h = tt
one_line (f ∷ []) h = endless_one f h.0
one_line (f ∷ g ∷ gs) h = endless_field f (32 ∷ joined (g ∷ gs)) h.0 (λ e. let w : 32 ≡ 10 = e in absurd (omega (arith, w)), one_line (g ∷ gs) h.1)

-- ---- the first word

no_fields : (k : Kind) → has_form (form k) [] ≡ true → ⊥
no_fields kind.Title h = cc
no_fields kind.Unknowns h = cc
no_fields kind.Equations h = cc
no_fields kind.Budget h = cc
no_fields kind.Lines h = cc
no_fields kind.Split h = cc
no_fields kind.Post h = cc
no_fields kind.Close h = cc
no_fields kind.Leaf h = cc
no_fields kind.Decided h = cc
no_fields kind.Derived h = cc
no_fields kind.Use h = cc
no_fields kind.End h = cc
no_fields kind.Equation h = cc
no_fields kind.Done h = cc

-- the fields of a line of some kind are those between its spaces
pub form_words : (k : Kind) (line : List ℕ) (fs : List (List ℕ)) → has_form (form k) fs ≡ true → line ++ codes "\n" ≡ ended fs → words line ≡ fs
form_words k line [] h e = absurd (no_fields k h)
form_words k line (f ∷ fs) h e = words_of line f fs (spaceless (f ∷ fs) (fields_plain k (f ∷ fs) h)) e

by_word : (k : Kind) (w f : List ℕ) (x : Bool) → kind_by_word w ≡ Some k → bytes_eq f w && x ≡ true → kind_by_word f ≡ Some k
by_word k w f x e h = ap kind_by_word (equal_word f w (both (bytes_eq f w) x h).0) ∙ e

by_words : (k : Kind) (v w f : List ℕ) (x : Bool) → kind_by_word v ≡ Some k → kind_by_word w ≡ Some k → (bytes_eq f v || bytes_eq f w) && x ≡ true → kind_by_word f ≡ Some k
by_words k v w f x d e h = either (bytes_eq f v) (bytes_eq f w) (kind_by_word f ≡ Some k) (λ y. ap kind_by_word (equal_word f v y) ∙ d) (λ y. ap kind_by_word (equal_word f w y) ∙ e) (both (bytes_eq f v || bytes_eq f w) x h).0

word_kind : (k : Kind) (f : List ℕ) (fs : List (List ℕ)) → has_form (form k) (f ∷ fs) ≡ true → kind_by_word f ≡ Some k
word_kind kind.Title f fs h = by_word kind.Title (codes "braidcert") f _ refl h
word_kind kind.Unknowns f fs h = by_word kind.Unknowns (codes "unknowns") f _ refl h
word_kind kind.Equations f fs h = by_word kind.Equations (codes "equations") f _ refl h
word_kind kind.Budget f fs h = by_word kind.Budget (codes "budget") f _ refl h
word_kind kind.Lines f fs h = by_word kind.Lines (codes "lines") f _ refl h
word_kind kind.Split f fs h = by_word kind.Split (codes "split") f _ refl h
word_kind kind.Post f fs h = by_word kind.Post (codes "post") f _ refl h
word_kind kind.Close f fs h = by_word kind.Close (codes "close") f _ refl h
word_kind kind.Leaf f fs h = by_word kind.Leaf (codes "leaf") f _ refl h
word_kind kind.Decided f fs h = by_words kind.Decided (codes "zero") (codes "nonzero") f _ refl refl h
word_kind kind.Derived f fs h = by_words kind.Derived (codes "fwd") (codes "back") f _ refl refl h
word_kind kind.Use f fs h = by_word kind.Use (codes "use") f _ refl h
word_kind kind.End f fs h = by_word kind.End (codes "end") f _ refl h
word_kind kind.Equation f fs h = by_word kind.Equation (codes "eq") f _ refl h
word_kind kind.Done f fs h = by_word kind.Done (codes "done") f _ refl h

-- the first word of a line of some kind tells the kind
pub form_kind : (k : Kind) (fs : List (List ℕ)) → has_form (form k) fs ≡ true → kind_by_word (first fs) ≡ Some k
form_kind k [] h = absurd (no_fields k h)
form_kind k (f ∷ fs) h = word_kind k f fs h

-- a line of some kind has no LF
pub kind_line : (k : Kind) (line : List ℕ) (fs : List (List ℕ)) → has_form (form k) fs ≡ true → line ++ codes "\n" ≡ ended fs → Lacks 10 line
kind_line k line fs h e = subst (Lacks 10) (sym (append_cancel_right line (joined fs) (codes "\n") (e ∙ ended_joined fs))) (one_line fs (fields_plain k fs h))
