-- What reading the fields of a line notes.
use Rattle.std.specs.Prelude.{◌≡◌, ◌⊎◌, ℕ, Bool, true, false, ◌||◌, not, Result, Ok, Err, List, [], ◌∷◌, drop}
use Rattle.cert_lines.specs.declared.notes.Notes.{Notes}
use Rattle.decimal_text.specs.declared.NumeralFault.{NumeralFault}
use Rattle.decimal_text.specs.declared.NumeralFault.TheVariants as of_numeral
use Rattle.cert_lines.specs.declared.kind.Kind.{Kind}
use Rattle.cert_lines.specs.declared.notes.LineFault.{LineFault}
use Rattle.cert_lines.specs.declared.notes.LineFault.TheVariants.{Number, Syntax, OutOfMemory}
use Rattle.cert_text.specs.declared.sentence.Sentence.{Sentence}
use Rattle.cert_lines.specs.Forms.{Shape, Form, has_shape, is_out, has_form, any_out, form}
use Rattle.cert_lines.specs.Words.{words}
use Rattle.cert_lines.specs.Fitting.{FitsSentence, Says, IsRight, AreRightFields}

-- notes in which nothing is wrong
abbrev pub nothing : Notes
nothing = record { form = false; range = false; order = false }

-- nothing is wrong
pub record IsClear (notes : Notes) : Type 0 where
  pub form : notes.form ≡ false
  pub range : notes.range ≡ false
  pub order : notes.order ≡ false

-- the first field has this form
abbrev pub first_has : Shape → List (List ℕ) → Bool
first_has s [] = false
first_has s (f ∷ fs) = has_shape s f

-- a number of the first field is out of range
abbrev pub first_is_out : ℕ → Shape → List (List ℕ) → Bool
first_is_out u s [] = false
first_is_out u s (f ∷ fs) = is_out u s f

-- the first field is right
abbrev pub IsFirstRight : ℕ → Shape → List (List ℕ) → Type 0
IsFirstRight u s [] = ⊥
IsFirstRight u s (f ∷ fs) = IsRight u s f

-- a field that is to have this form is read: what is wrong with it is noted, and where nothing is, it is this text, of which the fact holds
pub record IsFieldRead (u : ℕ) (s : Shape) (fs others : List (List ℕ)) (old new : Notes) (text : List ℕ) (fact : Type 0) : Type 0 where
  pub form : new.form ≡ (old.form || not (first_has s fs))
  pub range : first_has s fs ≡ true → new.range ≡ (old.range || first_is_out u s fs)
  pub order : new.order ≡ true → (old.order ≡ true) ⊎ (IsFirstRight u s fs → ⊥)
  -- nothing that was noted is forgotten
  pub kept : old.order ≡ true → new.order ≡ true
  pub rest : others ≡ drop 1 fs
  pub value : IsClear new → (fs ≡ text ∷ others) × fact

-- all fields that are left are read, which are to have this form
pub record AreFieldsRead (u : ℕ) (shapes : Form) (fs : List (List ℕ)) (old new : Notes) (texts : List (List ℕ)) (fact : Type 0) : Type 0 where
  pub form : new.form ≡ (old.form || not (has_form shapes fs))
  pub range : has_form shapes fs ≡ true → new.range ≡ (old.range || any_out u shapes fs)
  pub order : new.order ≡ true → (old.order ≡ true) ⊎ (AreRightFields u shapes fs → ⊥)
  pub kept : old.order ≡ true → new.order ≡ true
  pub value : IsClear new → (fs ≡ texts) × fact

-- a number or an item has not its form, or is out of range
abbrev pub IsShapeFault : ℕ → Shape → List ℕ → NumeralFault → Type 0
IsShapeFault u s f of_numeral.Form = has_shape s f ≡ false
IsShapeFault u s f of_numeral.Range = (has_shape s f ≡ true) × (is_out u s f ≡ true)

-- the notes with such a fault
abbrev pub noted : NumeralFault → Notes → Notes
noted of_numeral.Form notes = record { form = true; range = notes.range; order = notes.order }
noted of_numeral.Range notes = record { form = notes.form; range = true; order = notes.order }

-- the notes with a polynomial that is not in its one spelling
abbrev pub disordered : Notes → Notes
disordered notes = record { form = notes.form; range = notes.range; order = true }

-- the line says this, and its numbers are in range
pub record IsSaid (u : ℕ) (line : List ℕ) (s : Sentence) : Type 0 where
  pub says : Says line s
  pub fits : FitsSentence u s

-- why a line of this kind says nothing: a number is out of range, or its fields are not right for another cause
abbrev pub IsLineFault : ℕ → Kind → List ℕ → LineFault → Type 0
IsLineFault u k line Number = (has_form (form k) (words line) ≡ true) × (any_out u (form k) (words line) ≡ true)
IsLineFault u k line Syntax = (has_form (form k) (words line) ≡ true → any_out u (form k) (words line) ≡ false) × (AreRightFields u (form k) (words line) → ⊥)
IsLineFault u k line OutOfMemory = Unit {0}

-- what is said by fields with these notes, or why nothing is
abbrev pub IsJudged : Notes → Sentence → Result Sentence LineFault → Type 0
IsJudged notes said (Ok s) = IsClear notes × (s ≡ said)
IsJudged notes said (Err Number) = (notes.form ≡ false) × (notes.range ≡ true)
IsJudged notes said (Err Syntax) = (notes.form ≡ true) ⊎ ((notes.form ≡ false) × (notes.range ≡ false) × (notes.order ≡ true))
IsJudged notes said (Err OutOfMemory) = ⊥
