-- The faults of a field that is to be a polynomial.
use Rattle.std.specs.Prelude.{◌≡◌, ℕ, ◌≤◌, ◌^◌, is_some, List, ◌∷◌, refl}
use Rattle.std.proofs.Common.{◌∙◌, ap}
use Rattle.std.proofs.lemmas.Bool.{false_from_ne_true}
use Rattle.poly_text.specs.Form.{run, ends, IsSyntaxFault}
use Rattle.poly_text.specs.State.{Start}
use Rattle.poly_text.specs.Reading.{IsNumberFault, IsPlaceFault}
use Rattle.poly_text.specs.declared.reader.PolyTextFault.TheVariants.{Order, OutOfMemory}
use Rattle.poly_text.proofs.Answered.{no_fault}
use Rattle.decimal_text.specs.declared.NumeralFault.TheVariants.{Form, Range}
use Rattle.cert_lines.specs.declared.notes.Notes.{Notes}
use Rattle.cert_lines.specs.Forms.{Polynomial}
use Rattle.cert_lines.specs.LineReading.{IsFieldRead, noted, disordered}
use Rattle.cert_lines.proofs.FieldCases.{bad, disorder}

module _ {u : ℕ} {fs rest : List (List ℕ)} {old before new : Notes} {f text : List ℕ} {fact : Type 0} where
  pub no_poly : (at : ℕ) → IsSyntaxFault f at → fs ≡ f ∷ rest → new ≡ noted Form before → before ≡ old → IsFieldRead u Polynomial fs rest old new text fact
  no_poly at h e n b = bad Form e refl (false_from_ne_true (ends (run Start f)) h.not_form) n b

  pub outside_poly : (at : ℕ) → IsNumberFault u f at → fs ≡ f ∷ rest → new ≡ noted Range before → before ≡ old → IsFieldRead u Polynomial fs rest old new text fact
  outside_poly at h e n b = bad Range e refl (h.form, ap is_some h.first) n b

  pub disordered_poly : (at : ℕ) → u ≤ 2 ^ 32 → IsPlaceFault u f at → fs ≡ f ∷ rest → new ≡ disordered before → before ≡ old → IsFieldRead u Polynomial fs rest old new text fact
  disordered_poly at low h e n b =
      disorder e h.form (ap is_some h.numbers) (λ r. let p = r.spelled refl in let w : Order at ≡ OutOfMemory = no_fault u f low p.0 (Order at) p.1 h in cc) (n ∙ ap disordered b)
