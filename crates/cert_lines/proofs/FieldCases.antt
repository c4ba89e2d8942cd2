-- The outcomes of reading one field.
use Rattle.std.specs.Prelude.{◌≡◌, ℕ, true, false, ◌||◌, ◌&&◌, not, nat_lt, List, ◌∷◌, drop, codes, refl}
use Rattle.std.specs.Str.{bytes_eq}
use Rattle.std.proofs.Common.{sym, ◌∙◌, ap, subst, inl, inr}
use Rattle.std.proofs.Math.Bool.{or-true, or-false}
use Rattle.cert_lines.specs.declared.notes.Notes.{Notes}
use Rattle.decimal_text.specs.declared.NumeralFault.{NumeralFault}
use Rattle.decimal_text.specs.declared.NumeralFault.TheVariants.{Form, Range}
use Rattle.decimal_text.specs.Numerals.{number}
use Rattle.cert_text.specs.Numbers.{max_number}
use Rattle.cert_lines.specs.Forms.{Shape, Item, Reference, has_shape, is_out, is_lettered, is_item_letter}
use Rattle.cert_lines.specs.Fitting.{IsRight}
use Rattle.cert_lines.specs.LineReading.{first_has, IsFieldRead, IsShapeFault, noted, disordered}

module _ {u : ℕ} {s : Shape} {fs rest : List (List ℕ)} {old new : Notes} {text : List ℕ} {fact : Type 0} where
  -- there is no such field
  pub formless : first_has s fs ≡ false → rest ≡ drop 1 fs → new ≡ noted Form old → IsFieldRead u s fs rest old new text fact
  formless h r e = record {
    form = ap (λ (n : Notes). n.form) e ∙ sym (ap (λ b. old.form || not b) h ∙ or-true old.form);
    range = λ k. let w : true ≡ false = sym k ∙ h in absurd (cc);
    order = λ k. inl (sym (ap (λ (n : Notes). n.order) e) ∙ k);
    kept = λ k. ap (λ (n : Notes). n.order) e ∙ k;
    rest = r;
    value = λ c. let w : true ≡ false = sym (ap (λ (n : Notes). n.form) e) ∙ c.form in absurd (cc);
  }

module _ {u : ℕ} {s : Shape} {fs rest : List (List ℕ)} {old new : Notes} {f : List ℕ} where
  -- the field is right
  pub right : {fact : Type 0} → fs ≡ f ∷ rest → has_shape s f ≡ true → is_out u s f ≡ false → new ≡ old → fact → IsFieldRead u s fs rest old new f fact
  right e h o n x = rw (e, n) (record {
    form = sym (ap (λ b. old.form || not b) h ∙ or-false old.form);
    range = λ _. sym (ap (λ b. old.range || b) o ∙ or-false old.range);
    order = λ k. inl k;
    kept = λ k. k;
    rest = refl;
    value = λ _. (refl, x);
  })

  -- a number of the field is out of range
  pub outside : {text : List ℕ} {fact : Type 0} → fs ≡ f ∷ rest → has_shape s f ≡ true → is_out u s f ≡ true → new ≡ noted Range old → IsFieldRead u s fs rest old new text fact
  outside e h o n = rw (e, n) (record {
    form = sym (ap (λ b. old.form || not b) h ∙ or-false old.form);
    range = λ _. sym (ap (λ b. old.range || b) o ∙ or-true old.range);
    order = λ k. inl k;
    kept = λ k. k;
    rest = refl;
    value = λ c. let w : true ≡ false = c.range in absurd (cc);
  })

  -- the field is a polynomial, but not in its one spelling
  pub disorder : {text : List ℕ} {fact : Type 0} → fs ≡ f ∷ rest → has_shape s f ≡ true → is_out u s f ≡ false → (IsRight u s f → ⊥) → new ≡ disordered old → IsFieldRead u s fs rest old new text fact
  disorder e h o w n = rw (e, n) (record {
    form = sym (ap (λ b. old.form || not b) h ∙ or-false old.form);
    range = λ _. sym (ap (λ b. old.range || b) o ∙ or-false old.range);
    order = λ k. inr w;
    kept = λ k. refl;
    rest = refl;
    value = λ c. let w : true ≡ false = c.order in absurd (cc);
  })

  -- the field is this text, which is right
  pub good : {text : List ℕ} {fact : Type 0} → IsRight u s text → fs ≡ f ∷ rest → f ≡ text → new ≡ old → fact → IsFieldRead u s fs rest old new text fact
  good {text} {fact} r e q n x = subst (λ t. IsFieldRead u s fs rest old new t fact) q (right e (ap (has_shape s) q ∙ r.shaped) (ap (is_out u s) q ∙ r.in_range) n x)

  -- the field has the fault
  pub faulty : {text : List ℕ} {fact : Type 0} (fault : NumeralFault) → fs ≡ f ∷ rest → IsShapeFault u s f fault → new ≡ noted fault old → IsFieldRead u s fs rest old new text fact
  faulty Form e h n = formless (ap (first_has s) e ∙ h) (sym (ap (drop 1) e)) n
  faulty Range e h n = outside e h.0 h.1 n

-- the same where notes and rest are told in two steps
pub bad : {u : ℕ} {s : Shape} {fs mid rest : List (List ℕ)} {old before new : Notes} {f text : List ℕ} {fact : Type 0} (fault : NumeralFault) → fs ≡ f ∷ mid → rest ≡ mid → IsShapeFault u s f fault → new ≡ noted fault before → before ≡ old → IsFieldRead u s fs rest old new text fact
bad {u} {s} {fs} {mid} {rest} {old} {before} {new} {f} fault e r h n b = faulty fault (e ∙ ap (λ x. f ∷ x) (sym r)) h (n ∙ ap (noted fault) b)

-- a reference is faulty where it is not `-` and no item
pub reference_fault : (u : ℕ) (f : List ℕ) (fault : NumeralFault) → bytes_eq f (codes "-") ≡ false → IsShapeFault u Item f fault → IsShapeFault u Reference f fault
reference_fault u f Form n h = ap (λ b. b || is_lettered is_item_letter f) n ∙ h
reference_fault u f Range n h = (ap (λ b. b || is_lettered is_item_letter f) n ∙ h.0, ap (λ b. not b && nat_lt max_number (number (drop 1 f))) n ∙ h.1)
