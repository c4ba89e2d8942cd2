-- What a text says of its form and of its first number out of range, from a state on. Places are told by the number of bytes that are left there.
use Rattle.std.specs.Prelude.{◌≡◌, ℕ, suc, Bool, true, false, if◌then◌else◌, Option, None, Some, Result, Ok, Err, List, [], ◌∷◌, length}
use Rattle.sparse_poly.specs.declared.Term.{Term}
use Rattle.poly_text.specs.State.{State, Start, Signed, Wrong}
use Rattle.poly_text.specs.Form.{next, ends, after_term}
use Rattle.poly_text.specs.Numbers.{is_out}
use Rattle.poly_text.specs.declared.form.Stop.{Stop}
use Rattle.poly_text.specs.declared.form.Stop.TheVariants.{Syntax, OutOfMemory}

abbrev pub is_wrong : State → Bool
is_wrong Wrong = true
is_wrong s = false

-- the first place, of one that there may be and a further one
abbrev pub first_of : Option ℕ → ℕ → Option ℕ
first_of None n = Some n
first_of (Some m) n = Some m

-- with the number at the front, where that is out of range
abbrev pub noted : ℕ → State → List ℕ → Option ℕ → Option ℕ
noted u s text fault = if is_out u s text then first_of fault (length text) else fault

-- the place where the text leaves the form, or else the first number out of range, where `fault` is one before the text
abbrev pub scan : ℕ → Option ℕ → State → List ℕ → Result (Option ℕ) ℕ
scan u fault s [] = if ends s then Ok fault else Err 0
scan u fault s (c ∷ cs) = if is_wrong (next s c) then Err (suc (length cs)) else scan u (noted u s (c ∷ cs) fault) (next s c) cs

-- the same from the end of a term on
abbrev pub scan_end : ℕ → Option ℕ → List ℕ → Result (Option ℕ) ℕ
scan_end u fault [] = Ok fault
scan_end u fault (c ∷ cs) = if is_wrong (after_term c) then Err (suc (length cs)) else scan u fault Signed cs

-- the same behind some terms
abbrev pub scan_terms : ℕ → Option ℕ → List Term → List ℕ → Result (Option ℕ) ℕ
scan_terms u fault [] text = scan u fault Start text
scan_terms u fault (t ∷ ts) text = scan_end u fault text

-- reading ends where the text leaves the form, or for want of memory
abbrev pub IsStop : Result (Option ℕ) ℕ → Stop → Type 0
IsStop r (Syntax left) = r ≡ Err left
IsStop r OutOfMemory = Unit {0}
