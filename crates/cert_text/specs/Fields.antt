-- The lines of a certificate's text, as fields.
use Rattle.std.specs.Prelude.{ℕ, Bool, if◌then◌else◌, Option, None, Some, List, [], ◌∷◌, ◌++◌, decimal, codes}
use Rattle.sparse_poly.specs.declared.Term.{Term}
use Rattle.poly_text.specs.Text.{poly_text}
use Rattle.derive_lines.specs.declared.parts.Decision.{Decision}
use Rattle.derive_lines.specs.declared.parts.Line.{Line}
use Rattle.derive_lines.specs.declared.parts.Item.{Item}
use Rattle.derive_lines.specs.declared.parts.Item.TheVariants.{Root, Decision as of_decision, Line as of_line}
use Rattle.derive_lines.specs.declared.parts.Way.{Way}
use Rattle.derive_lines.specs.declared.parts.Way.TheVariants.{Fwd, Back}
use Rattle.leaf_cert.specs.declared.ends.LeafEnd.{LeafEnd}
use Rattle.leaf_cert.specs.declared.ends.LeafEnd.TheVariants.{Triangular, Open}
use Rattle.leaf_cert.specs.declared.ends.OpenCause.{OpenCause}
use Rattle.leaf_cert.specs.declared.ends.OpenCause.TheVariants.{Budget, Coefficient, Degree}
use Rattle.leaf_cert.specs.declared.ends.StepKind.{StepKind}
use Rattle.leaf_cert.specs.declared.ends.StepKind.TheVariants.{Reduce, Tail}
use Rattle.leaf_cert.specs.declared.ends.Stop.{Stop}
use Rattle.cert_text.specs.declared.version.Version.{Version}
use Rattle.cert_text.specs.declared.version.Version.TheVariants.{One, Two}

-- the fields behind the first one, each behind a space, and LF
abbrev pub further : List (List ℕ) → List ℕ
further [] = codes "\n"
further (f ∷ fs) = codes " " ++ f ++ further fs

-- the text of a line of fields
abbrev pub ended : List (List ℕ) → List ℕ
ended [] = codes "\n"
ended (f ∷ fs) = f ++ further fs

-- the digit of a version
abbrev pub version_text : Version → List ℕ
version_text One = codes "1"
version_text Two = codes "2"

-- what an item is, and its place
abbrev pub item_text : Item → List ℕ
item_text (Root i) = codes "r" ++ decimal i
item_text (of_decision j) = codes "d" ++ decimal j
item_text (of_line k) = codes "l" ++ decimal k

-- an absent item is `-`
abbrev pub reference_text : Option Item → List ℕ
reference_text None = codes "-"
reference_text (Some item) = item_text item

-- the first word of a line of a derivation
abbrev pub way_text : Way → List ℕ
way_text Fwd = codes "fwd"
way_text Back = codes "back"

-- the first word of a decision
abbrev pub sign_word : Bool → List ℕ
sign_word zero = if zero then codes "zero" else codes "nonzero"

-- the word for a step
abbrev pub step_word : StepKind → List ℕ
step_word Reduce = codes "reduce"
step_word Tail = codes "tail"

-- a decision and its polynomial
abbrev pub decision_fields : Decision → List (List ℕ)
decision_fields d = sign_word d.zero ∷ poly_text d.poly ∷ []

-- a line of a derivation: its way, what it refers to, and its polynomials
abbrev pub line_fields : Line → List (List ℕ)
line_fields l = way_text l.way ∷ reference_text l.from ∷ reference_text l.by ∷ poly_text l.l ∷ poly_text l.a ∷ poly_text l.m ∷ poly_text l.made ∷ []

-- a stopped step: its kind, its variable, and its polynomials
abbrev pub stop_fields : Stop → List (List ℕ)
stop_fields s = step_word s.step ∷ (codes "x" ++ decimal s.v) ∷ poly_text s.q ∷ poly_text s.p ∷ []

-- why a leaf is open
abbrev pub cause_fields : OpenCause → List (List ℕ)
cause_fields Budget = codes "budget" ∷ []
cause_fields (Coefficient stop) = codes "coefficient" ∷ stop_fields stop
cause_fields (Degree stop) = codes "degree" ∷ stop_fields stop

-- how a leaf ends
abbrev pub leaf_end_fields : LeafEnd → List (List ℕ)
leaf_end_fields Triangular = codes "triangular" ∷ []
leaf_end_fields (Open cause) = codes "open" ∷ cause_fields cause

-- a word and a number
abbrev pub count_fields : List ℕ → ℕ → List (List ℕ)
count_fields word n = word ∷ decimal n ∷ []

-- a case and the polynomial that splits it
abbrev pub split_fields : ℕ → List Term → List (List ℕ)
split_fields n by = codes "split" ∷ decimal n ∷ poly_text by ∷ []

-- a case and the pattern that closes it
abbrev pub close_fields : ℕ → ℕ → List (List ℕ)
close_fields n k = codes "close" ∷ decimal n ∷ decimal k ∷ []

-- a case and how its leaf ends
abbrev pub leaf_fields : ℕ → LeafEnd → List (List ℕ)
leaf_fields n end = codes "leaf" ∷ decimal n ∷ leaf_end_fields end

-- the end of a refutation
abbrev pub end_fields : Item → List (List ℕ)
end_fields item = codes "end" ∷ item_text item ∷ []

-- an equation of a leaf
abbrev pub equation_fields : List Term → List (List ℕ)
equation_fields p = codes "eq" ∷ poly_text p ∷ []
