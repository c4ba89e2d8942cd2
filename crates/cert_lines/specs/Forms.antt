-- The forms of a certificate's lines, in which numbers are of any size, and terms and factors of a polynomial in any order.
use Rattle.std.specs.Prelude.{ℕ, Bool, true, false, ◌&&◌, ◌||◌, not, ◌==◌, nat_lt, nat_le, is_some, if◌then◌else◌, Option, None, Some, List, [], ◌∷◌, codes, drop}
use Rattle.std.specs.Str.{bytes_eq}
use Rattle.decimal_text.specs.Numerals.{is_numeral, number}
use Rattle.poly_text.specs.Form.{run, ends}
use Rattle.poly_text.specs.Numbers.{first_out}
use Rattle.poly_text.specs.State.{Start}
use Rattle.cert_text.specs.Numbers.{max_number}
use Rattle.cert_lines.specs.declared.kind.Kind.{Kind}
use Rattle.cert_lines.specs.declared.kind.Kind.TheVariants as kind

-- the form of a field
pub data Shape : Type 0 where
  Word : List ℕ → Shape
  -- one of two words
  OneOf : List ℕ → List ℕ → Shape
  -- a number, which is to be at most this
  UpTo : ℕ → Shape
  -- an item
  Item : Shape
  -- an item, or `-`
  Reference : Shape
  -- the `x` of a variable and its number
  Variable : Shape
  Polynomial : Shape

-- the form of some fields
pub data Form : Type 0 where
  -- no field
  Ended : Form
  -- one field, and those behind it
  Field : Shape → Form → Form
  -- where the first field is this word, the first form is that of the fields behind it, and else the second is that of all
  ByWord : List ℕ → Form → Form → Form

-- one of these letters and a number
abbrev pub is_lettered : (ℕ → Bool) → List ℕ → Bool
is_lettered letter [] = false
is_lettered letter (c ∷ digits) = letter c && is_numeral digits

-- an `r`, `d` or `l`
abbrev pub is_item_letter : ℕ → Bool
is_item_letter c = (c == 114) || ((c == 100) || (c == 108))

-- the `-` for an absent item
abbrev pub is_absent : List ℕ → Bool
is_absent f = bytes_eq f (codes "-")

-- a field has this form
abbrev pub has_shape : Shape → List ℕ → Bool
has_shape (Word w) f = bytes_eq f w
has_shape (OneOf v w) f = bytes_eq f v || bytes_eq f w
has_shape (UpTo most) f = is_numeral f
has_shape Item f = is_lettered is_item_letter f
has_shape Reference f = is_absent f || is_lettered is_item_letter f
has_shape Variable f = is_lettered (λ c. c == 120) f
has_shape Polynomial f = ends (run Start f)

-- a number of a field of this form is out of range, where variables are to be below u
abbrev pub is_out : ℕ → Shape → List ℕ → Bool
is_out u (Word w) f = false
is_out u (OneOf v w) f = false
is_out u (UpTo most) f = nat_lt most (number f)
is_out u Item f = nat_lt max_number (number (drop 1 f))
is_out u Reference f = not (is_absent f) && nat_lt max_number (number (drop 1 f))
is_out u Variable f = nat_le u (number (drop 1 f))
is_out u Polynomial f = is_some (first_out u Start f)

-- fields have this form
abbrev pub has_form : Form → List (List ℕ) → Bool
has_form Ended [] = true
has_form Ended (f ∷ fs) = false
has_form (Field s form) [] = false
has_form (Field s form) (f ∷ fs) = has_shape s f && has_form form fs
has_form (ByWord w a b) [] = false
has_form (ByWord w a b) (f ∷ fs) = if bytes_eq f w then has_form a fs else has_form b (f ∷ fs)

-- a number of fields of this form is out of range
abbrev pub any_out : ℕ → Form → List (List ℕ) → Bool
any_out u Ended fs = false
any_out u (Field s form) [] = false
any_out u (Field s form) (f ∷ fs) = is_out u s f || any_out u form fs
any_out u (ByWord w a b) [] = false
any_out u (ByWord w a b) (f ∷ fs) = if bytes_eq f w then any_out u a fs else any_out u b (f ∷ fs)

-- a number that a type of 64 bits holds
abbrev pub any_number : Shape
any_number = UpTo max_number

-- a word and a number of at most this
abbrev pub count_form : List ℕ → ℕ → Form
count_form word most = Field (Word word) (Field (UpTo most) Ended)

-- a stopped step
abbrev pub stop_form : Form
stop_form = Field (OneOf (codes "reduce") (codes "tail")) (Field Variable (Field Polynomial (Field Polynomial Ended)))

-- why a leaf is open
abbrev pub cause_form : Form
cause_form = ByWord (codes "budget") Ended (Field (OneOf (codes "coefficient") (codes "degree")) stop_form)

-- how a leaf ends
abbrev pub end_form : Form
end_form = ByWord (codes "triangular") Ended (Field (Word (codes "open")) cause_form)

-- the polynomials of a line of a derivation
abbrev pub polys_form : Form
polys_form = Field Polynomial (Field Polynomial (Field Polynomial (Field Polynomial Ended)))

-- the greatest number of a place in a table
abbrev pub greatest_place : ℕ
greatest_place = 18_446_744_073_709_551_614

-- the form of a line of this kind. The version number is no number.
abbrev pub form : Kind → Form
form kind.Title = Field (Word (codes "braidcert")) (Field (OneOf (codes "1") (codes "2")) Ended)
form kind.Unknowns = count_form (codes "unknowns") 4096
form kind.Equations = count_form (codes "equations") 65536
form kind.Budget = count_form (codes "budget") 1000000
form kind.Lines = count_form (codes "lines") max_number
form kind.Split = Field (Word (codes "split")) (Field any_number (Field Polynomial Ended))
form kind.Post = Field (Word (codes "post")) Ended
form kind.Close = Field (Word (codes "close")) (Field any_number (Field any_number Ended))
form kind.Leaf = Field (Word (codes "leaf")) (Field any_number end_form)
form kind.Decided = Field (OneOf (codes "zero") (codes "nonzero")) (Field Polynomial Ended)
form kind.Derived = Field (OneOf (codes "fwd") (codes "back")) (Field Reference (Field Reference polys_form))
form kind.Use = count_form (codes "use") greatest_place
form kind.End = Field (Word (codes "end")) (Field Item Ended)
form kind.Equation = Field (Word (codes "eq")) (Field Polynomial Ended)
form kind.Done = count_form (codes "done") max_number

-- the kind of a line of the head, or of the last line
abbrev pub head_kind : List ℕ → Option Kind
head_kind w = if bytes_eq w (codes "braidcert") then Some kind.Title
    else (if bytes_eq w (codes "unknowns") then Some kind.Unknowns
    else (if bytes_eq w (codes "equations") then Some kind.Equations
    else (if bytes_eq w (codes "budget") then Some kind.Budget
    else (if bytes_eq w (codes "lines") then Some kind.Lines
    else (if bytes_eq w (codes "done") then Some kind.Done else None)))))

-- the kind of a line, by its first word
abbrev pub kind_by_word : List ℕ → Option Kind
kind_by_word w = if bytes_eq w (codes "fwd") || bytes_eq w (codes "back") then Some kind.Derived
    else (if bytes_eq w (codes "use") then Some kind.Use
    else (if bytes_eq w (codes "zero") || bytes_eq w (codes "nonzero") then Some kind.Decided
    else (if bytes_eq w (codes "eq") then Some kind.Equation
    else (if bytes_eq w (codes "split") then Some kind.Split
    else (if bytes_eq w (codes "post") then Some kind.Post
    else (if bytes_eq w (codes "end") then Some kind.End
    else (if bytes_eq w (codes "close") then Some kind.Close
    else (if bytes_eq w (codes "leaf") then Some kind.Leaf
    else head_kind w))))))))
