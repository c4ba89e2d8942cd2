-- Lines whose numbers are in range, and fields that are right.
use Rattle.std.specs.Prelude.{◌≡◌, ◌≤◌, ℕ, Bool, true, false, List, [], ◌∷◌, ◌++◌, codes}
use Rattle.std.specs.Str.{bytes_eq}
use Rattle.sparse_poly.specs.declared.Term.{Term}
use Rattle.sparse_poly.specs.Contributions.{IsPoly}
use Rattle.poly_text.specs.Reading.{IsSpelling}
use Rattle.cert_text.specs.declared.sentence.Sentence.{Sentence}
use Rattle.cert_text.specs.declared.sentence.Sentence.TheVariants as says
use Rattle.cert_text.specs.Fields.{ended}
use Rattle.cert_text.specs.Sentences.{fields}
use Rattle.cert_text.specs.Numbers.{max_number, HasItemInRange, HasDecisionInRange, HasLineInRange, HasEndInRange, HasSplitInRange, HasCloseInRange}
use Rattle.sparse_poly.specs.Reads.{HasVariablesBelow}
use Rattle.leaf_cert.specs.Variables.{HasDecisionVariablesBelow, HasLineVariablesBelow, HasEndVariablesBelow}
use Rattle.cert_lines.specs.Forms.{greatest_place, Shape, Polynomial, Form, Ended, Field, ByWord, has_shape, is_out}

-- all numbers of a line are in range, where there are u unknowns
abbrev pub FitsSentence : ℕ → Sentence → Type 0
FitsSentence u (says.Title version) = Unit {0}
FitsSentence u (says.Unknowns n) = n ≤ 4096
FitsSentence u (says.Equations n) = n ≤ 65536
FitsSentence u (says.Budget n) = n ≤ 1000000
FitsSentence u (says.Lines n) = n ≤ max_number
FitsSentence u (says.Split n by) = HasSplitInRange n by × HasVariablesBelow u by
FitsSentence u says.Post = Unit {0}
FitsSentence u (says.Close n k) = HasCloseInRange n k
FitsSentence u (says.Leaf n end) = (n ≤ max_number) × HasEndInRange end × HasEndVariablesBelow u end
FitsSentence u (says.Decided d) = HasDecisionInRange d × HasDecisionVariablesBelow u d
FitsSentence u (says.Derived l) = HasLineInRange l × HasLineVariablesBelow u l
FitsSentence u (says.Use i) = i ≤ greatest_place
FitsSentence u (says.End item) = HasItemInRange item
FitsSentence u (says.Equation p) = IsPoly p × HasVariablesBelow u p
FitsSentence u (says.Done n) = n ≤ max_number

-- the line says this
abbrev pub Says : List ℕ → Sentence → Type 0
Says line s = ended (fields s) ≡ line ++ codes "\n"

-- a field of this form whose numbers are in range, and which is the spelling of a polynomial where it is to be one
pub record IsRight (u : ℕ) (s : Shape) (f : List ℕ) : Type 0 where
  pub shaped : has_shape s f ≡ true
  pub in_range : is_out u s f ≡ false
  pub spelled : s ≡ Polynomial → (p : List Term) × IsSpelling u f p

-- the first where the test holds, and the second where it does not
abbrev pub Where : Bool → Type 0 → Type 0 → Type 0
Where true A B = A
Where false A B = B

-- fields of this form are right
abbrev pub AreRightFields : ℕ → Form → List (List ℕ) → Type 0
AreRightFields u Ended fs = fs ≡ []
AreRightFields u (Field s form) [] = ⊥
AreRightFields u (Field s form) (f ∷ fs) = IsRight u s f × AreRightFields u form fs
AreRightFields u (ByWord w a b) [] = ⊥
AreRightFields u (ByWord w a b) (f ∷ fs) = Where (bytes_eq f w) (AreRightFields u a fs) (AreRightFields u b (f ∷ fs))
