-- Notes on fields, one after another.
use Rattle.std.specs.Prelude.{◌≡◌, ◌≢◌, ℕ, Bool, true, false, ◌||◌, ◌&&◌, not, List, [], ◌∷◌, Result, Ok, Err, drop, if◌then◌else◌, MatchResult, refl}
use Rattle.std.specs.Str.{bytes_eq}
use Rattle.std.proofs.Common.{sym, ◌∙◌, ap, subst, inl, inr}
use Rattle.std.proofs.Math.Bool.{or-true, or_assoc}
use Rattle.std.proofs.lemmas.Bool.{or_parts, and_parts, not-true, not-false, false_from_ne_true}
use Rattle.decimal_text.specs.declared.NumeralFault.TheVariants.{Form as form_fault}
use Rattle.cert_lines.specs.declared.kind.Kind.{Kind}
use Rattle.cert_lines.specs.declared.notes.Notes.{Notes}
use Rattle.cert_lines.specs.declared.notes.LineFault.{LineFault}
use Rattle.cert_lines.specs.declared.notes.LineFault.TheVariants.{Number, Syntax, OutOfMemory}
use Rattle.cert_text.specs.declared.sentence.Sentence.{Sentence}
use Rattle.cert_text.specs.Fields.{ended}
use Rattle.cert_text.specs.Sentences.{fields}
use Rattle.cert_lines.specs.Words.{words}
use Rattle.cert_lines.specs.Forms.{Shape, Word, Form, Ended, Field, ByWord, has_shape, is_out, has_form, any_out, form}
use Rattle.cert_lines.specs.Fitting.{AreRightFields, Where, FitsSentence}
use Rattle.cert_lines.specs.LineReading.{nothing, IsClear, first_has, first_is_out, IsFirstRight, IsFieldRead, AreFieldsRead, IsSaid, IsLineFault, IsJudged, noted}
use Rattle.cert_lines.proofs.Texts.{ended_words}

or_and : (a h k : Bool) → ((a || not h) || not k) ≡ (a || not (h && k))
or_and true h k = refl
or_and false true k = refl
or_and false false k = refl

-- ---- a first field and those behind it

whole_form : (s : Shape) (g : Form) (fs rest : List (List ℕ)) → rest ≡ drop 1 fs → has_form (Field s g) fs ≡ (first_has s fs && has_form g rest)
whole_form s g [] rest e = refl
whole_form s g (f ∷ fs) rest e = ap (λ r. has_shape s f && has_form g r) (sym e)

whole_out : (u : ℕ) (s : Shape) (g : Form) (fs rest : List (List ℕ)) → rest ≡ drop 1 fs → first_has s fs ≡ true → any_out u (Field s g) fs ≡ (first_is_out u s fs || any_out u g rest)
whole_out u s g [] rest e h = absurd (cc)
whole_out u s g (f ∷ fs) rest e h = ap (λ r. is_out u s f || any_out u g r) (sym e)

whole_right : (u : ℕ) (s : Shape) (g : Form) (fs rest : List (List ℕ)) → rest ≡ drop 1 fs → AreRightFields u (Field s g) fs → IsFirstRight u s fs × AreRightFields u g rest
whole_right u s g [] rest e h = absurd h
whole_right u s g (f ∷ fs) rest e h = (h.0, subst (AreRightFields u g) (sym e) h.1)

module _ {u : ℕ} {s : Shape} {g : Form} {fs rest texts : List (List ℕ)} {old mid new : Notes} {text : List ℕ} {fact facts : Type 0} where
  clear_before : IsFieldRead u s fs rest old mid text fact → AreFieldsRead u g rest mid new texts facts → IsClear new → IsClear mid
  clear_before a b c =
      let t = or_parts mid.form (not (has_form g rest)) (sym b.form ∙ c.form) in
      record {
        form = t.0;
        range = (or_parts mid.range (any_out u g rest) (sym (b.range (not-false (has_form g rest) t.1)) ∙ c.range)).0;
        order = false_from_ne_true mid.order (λ h. let w : true ≡ false = sym (b.kept h) ∙ c.order in cc);
      }

  -- a field, and then all others
  pub field_more : IsFieldRead u s fs rest old mid text fact → AreFieldsRead u g rest mid new texts facts → AreFieldsRead u (Field s g) fs old new (text ∷ texts) (fact × facts)
  field_more a b = record {
    form = b.form ∙ ap (λ x. x || not (has_form g rest)) a.form ∙ or_and old.form (first_has s fs) (has_form g rest) ∙ ap (λ x. old.form || not x) (sym (whole_form s g fs rest a.rest));
    range = λ h.
        let t = and_parts (first_has s fs) (has_form g rest) (sym (whole_form s g fs rest a.rest) ∙ h) in
        b.range t.1 ∙ ap (λ x. x || any_out u g rest) (a.range t.0) ∙ or_assoc old.range (first_is_out u s fs) (any_out u g rest) ∙ ap (λ x. old.range || x) (sym (whole_out u s g fs rest a.rest t.0));
    order = λ h. elim (b.order h) [
      | inl m ↦ elim (a.order m) [ inl o ↦ inl o | inr n ↦ inr (λ r. n (whole_right u s g fs rest a.rest r).0) ]
      | inr n ↦ inr (λ r. n (whole_right u s g fs rest a.rest r).1)
    ];
    kept = λ h. b.kept (a.kept h);
    value = λ c. let x = a.value (clear_before a b c) in let y = b.value c in (x.0 ∙ ap (λ r. text ∷ r) y.0, (x.1, y.1));
  }

-- ---- a first field that decides on the form

module _ {u : ℕ} {w : List ℕ} {a : Form} {old mid new : Notes} {texts : List (List ℕ)} {fact : Type 0} where
  -- the word is there
  pub by_word : {b : Form} {fs rest : List (List ℕ)} → bytes_eq w w ≡ true → fs ≡ w ∷ rest → mid ≡ old → AreFieldsRead u a rest mid new texts fact → AreFieldsRead u (ByWord w a b) fs old new (w ∷ texts) fact
  by_word {b} {fs} {rest} same e m x = subst (λ z. AreFieldsRead u (ByWord w a b) z old new (w ∷ texts) fact) (sym e) (made (subst (λ z. AreFieldsRead u a rest z new texts fact) m x))
    where
      made : AreFieldsRead u a rest old new texts fact → AreFieldsRead u (ByWord w a b) (w ∷ rest) old new (w ∷ texts) fact
      made r = record {
        form = r.form ∙ ap (λ x. old.form || not x) (sym (ap (λ x. if x then has_form a rest else has_form b (w ∷ rest)) same));
        range = λ h. r.range (sym (ap (λ x. if x then has_form a rest else has_form b (w ∷ rest)) same) ∙ h) ∙ ap (λ x. old.range || x) (sym (ap (λ x. if x then any_out u a rest else any_out u b (w ∷ rest)) same));
        order = λ h. elim (r.order h) [ inl o ↦ inl o | inr n ↦ inr (λ x. n (subst (λ t. Where t (AreRightFields u a rest) (AreRightFields u b (w ∷ rest))) same x)) ];
        kept = r.kept;
        value = λ c. let v = r.value c in (ap (λ x. w ∷ x) v.0, v.1);
      }

  -- another is
  pub by_other : {s : Shape} {g : Form} {fs rest : List (List ℕ)} → (first_has (Word w) fs ≡ false) × (rest ≡ fs) → mid ≡ old → AreFieldsRead u (Field s g) rest mid new texts fact → AreFieldsRead u (ByWord w a (Field s g)) fs old new texts fact
  by_other {s} {g} {fs} {rest} n m x = made fs n.0 (subst (λ z. AreFieldsRead u (Field s g) z old new texts fact) n.1 (subst (λ z. AreFieldsRead u (Field s g) rest z new texts fact) m x))
    where
      made : (fs : List (List ℕ)) → first_has (Word w) fs ≡ false → AreFieldsRead u (Field s g) fs old new texts fact → AreFieldsRead u (ByWord w a (Field s g)) fs old new texts fact
      made [] n r = record { form = r.form; range = λ h. absurd (cc); order = r.order; kept = r.kept; value = r.value }
      made (f ∷ fs) n r = record {
        form = r.form ∙ ap (λ x. old.form || not x) (sym (ap (λ x. if x then has_form a fs else has_form (Field s g) (f ∷ fs)) n));
        range = λ h. r.range (sym (ap (λ x. if x then has_form a fs else has_form (Field s g) (f ∷ fs)) n) ∙ h) ∙ ap (λ x. old.range || x) (sym (ap (λ x. if x then any_out u a fs else any_out u (Field s g) (f ∷ fs)) n));
        order = λ h. elim (r.order h) [ inl o ↦ inl o | inr m ↦ inr (λ x. m (subst (λ t. Where t (AreRightFields u a fs) (AreRightFields u (Field s g) (f ∷ fs))) n x)) ];
        kept = r.kept;
        value = r.value;
      }

-- the same of other words for the texts and the fact
pub retext : {u : ℕ} {g : Form} {fs texts others : List (List ℕ)} {old new : Notes} {fact other : Type 0} → texts ≡ others → (fact → other) → AreFieldsRead u g fs old new texts fact → AreFieldsRead u g fs old new others other
retext e f r = record { form = r.form; range = r.range; order = r.order; kept = r.kept; value = λ c. let v = r.value c in (v.0 ∙ e, f v.1) }

-- ---- fields that are right

pub right_formed : (u : ℕ) (g : Form) (fs : List (List ℕ)) → AreRightFields u g fs → has_form g fs ≡ true
right_formed u Ended fs h = ap (has_form Ended) h
right_formed u (Field s g) [] h = absurd h
right_formed u (Field s g) (f ∷ fs) h = ap (λ x. x && has_form g fs) h.0.shaped ∙ right_formed u g fs h.1
right_formed u (ByWord w a b) [] h = absurd h
right_formed u (ByWord w a b) (f ∷ fs) h = by (bytes_eq f w) (right_formed u a fs) (right_formed u b (f ∷ fs)) h
  where
    by : (t : Bool) → (AreRightFields u a fs → has_form a fs ≡ true) → (AreRightFields u b (f ∷ fs) → has_form b (f ∷ fs) ≡ true)
        → Where t (AreRightFields u a fs) (AreRightFields u b (f ∷ fs)) → (if t then has_form a fs else has_form b (f ∷ fs)) ≡ true
    by true g k h = g h
    by false g k h = k h

pub right_in_range : (u : ℕ) (g : Form) (fs : List (List ℕ)) → AreRightFields u g fs → any_out u g fs ≡ false
right_in_range u Ended fs h = refl
right_in_range u (Field s g) [] h = absurd h
right_in_range u (Field s g) (f ∷ fs) h = ap (λ x. x || any_out u g fs) h.0.in_range ∙ right_in_range u g fs h.1
right_in_range u (ByWord w a b) [] h = absurd h
right_in_range u (ByWord w a b) (f ∷ fs) h = by (bytes_eq f w) (right_in_range u a fs) (right_in_range u b (f ∷ fs)) h
  where
    by : (t : Bool) → (AreRightFields u a fs → any_out u a fs ≡ false) → (AreRightFields u b (f ∷ fs) → any_out u b (f ∷ fs) ≡ false)
        → Where t (AreRightFields u a fs) (AreRightFields u b (f ∷ fs)) → (if t then any_out u a fs else any_out u b (f ∷ fs)) ≡ false
    by true g k h = g h
    by false g k h = k h

-- ---- the answer for a line

-- what the fields of a line say, or why they say nothing
pub line_said : {u : ℕ} {fs : List (List ℕ)} {first notes : Notes} {texts : List (List ℕ)} {fact : Type 0} (k : Kind) (line : List ℕ) (said : Sentence) (r : Result Sentence LineFault)
    → fs ≡ words line → first ≡ nothing → AreFieldsRead u (form k) fs first notes texts fact → texts ≡ fields said → (fact → FitsSentence u said) → IsJudged notes said r → MatchResult r (IsSaid u line) (IsLineFault u k line)
line_said {u} {fs} {first} {notes} {texts} {fact} k line said r e m x t g j = by r read j
  where
    read : AreFieldsRead u (form k) (words line) nothing notes texts fact
    read = subst (λ z. AreFieldsRead u (form k) z nothing notes texts fact) e (subst (λ z. AreFieldsRead u (form k) fs z notes texts fact) m x)

    by : (r : Result Sentence LineFault) → AreFieldsRead u (form k) (words line) nothing notes texts fact → IsJudged notes said r → MatchResult r (IsSaid u line) (IsLineFault u k line)
    by (Ok s) a j =
        let v = a.value j.0 in
        subst (IsSaid u line) (sym j.1) (record { says = ap ended (sym t ∙ sym v.0) ∙ ended_words line; fits = g v.1 })
    by (Err Number) a j =
        let h = not-false (has_form (form k) (words line)) (sym a.form ∙ j.0) in
        (h, sym (a.range h) ∙ j.1)
    by (Err Syntax) a (inl j) =
        let n = not-true (has_form (form k) (words line)) (sym a.form ∙ j) in
        (λ h. absurd (let w : true ≡ false = sym h ∙ n in cc), λ r. let w : true ≡ false = sym (right_formed u (form k) (words line) r) ∙ n in cc)
    by (Err Syntax) a (inr j) = (λ h. sym (a.range h) ∙ j.1, elim (a.order j.2) [ inl o ↦ absurd (cc) | inr n ↦ n ])
    by (Err OutOfMemory) a j = absurd j

-- the end of a line, where a field is left
pub still_left : (u : ℕ) (fs : List (List ℕ)) (old : Notes) → fs ≢ [] → AreFieldsRead u Ended fs old (noted form_fault old) [] (Unit {0})
still_left u [] old n = absurd (n refl)
still_left u (f ∷ fs) old n = record {
  form = sym (or-true old.form);
  range = λ h. absurd (cc);
  order = λ h. inl h;
  kept = λ h. h;
  value = λ c. let w : true ≡ false = c.form in absurd (cc);
}
