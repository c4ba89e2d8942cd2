-- A text read up to a line.
use Rattle.std.specs.Prelude.{◌≡◌, ◌≢◌, ℕ, true, false, List, [], ◌∷◌, ◌++◌, length}
use Rattle.std.specs.List.{AllByRecursion}
use Rattle.cert_lines.specs.declared.kind.Kind.{Kind}
use Rattle.cert_lines.specs.declared.notes.LineFault.{LineFault}
use Rattle.cert_lines.specs.declared.notes.LineFault.TheVariants.{Number, Syntax, OutOfMemory}
use Rattle.cert_read.specs.declared.reader.CertFault.{CertFault}
use Rattle.cert_read.specs.declared.reader.CertFault.TheVariants as fault
use Rattle.cert_text.specs.declared.sentence.Sentence.{Sentence}
use Rattle.cert_lines.specs.Bytes.{Lacks}
use Rattle.cert_lines.specs.Words.{words}
use Rattle.cert_lines.specs.Forms.{form, has_form, any_out}
use Rattle.cert_read.specs.Faults.{with_ends}
use Rattle.cert_lines.specs.Fitting.{FitsSentence, Says}
use Rattle.cert_read.specs.Machine.{State, AtStart, Wrong, next, run, may, unknowns}
use Rattle.cert_lines.specs.LineReading.{IsSaid}

-- each of the lines is one line and says what stands at its place
abbrev pub AreSaid : List (List ℕ) → List Sentence → Type 0
AreSaid [] [] = Unit {0}
AreSaid [] (s ∷ ss) = ⊥
AreSaid (l ∷ ls) [] = ⊥
AreSaid (l ∷ ls) (s ∷ ss) = (Says l s × Lacks 10 l) × AreSaid ls ss

-- the text begins with k right lines, which lead to the state, and this rest is behind them
pub record IsReadTo (text rest : List ℕ) (k : ℕ) (st : State) : Type 0 where
  pub lines : List (List ℕ)
  pub sentences : List Sentence
  pub said : AreSaid lines sentences
  pub fits : AllByRecursion (FitsSentence (unknowns st)) sentences
  pub leads : run AtStart sentences ≡ st
  pub live : st ≢ Wrong
  pub joined : text ≡ with_ends lines ++ rest
  pub counted : k ≡ length lines

-- one line more leads from a state to another
pub record IsNextLine (st : State) (line : List ℕ) (new : State) : Type 0 where
  pub sentence : Sentence
  pub said : IsSaid (unknowns st) line sentence
  pub leads : next st sentence ≡ new
  pub live : new ≢ Wrong

-- the line has the form of a line that may come next, and a number out of range
pub record IsOutside (st : State) (line : List ℕ) : Type 0 where
  pub kind : Kind
  pub formed : has_form (form kind) (words line) ≡ true
  pub may_come : may st kind ≡ true
  pub out : any_out (unknowns st) (form kind) (words line) ≡ true

-- the line is no such line, and says nothing that may come next
pub record IsNoLine (st : State) (line : List ℕ) : Type 0 where
  pub inside : (k : Kind) → has_form (form k) (words line) ≡ true → may st k ≡ true → any_out (unknowns st) (form k) (words line) ≡ false
  pub wrong : (s : Sentence) → IsSaid (unknowns st) line s → next st s ≢ Wrong → ⊥

-- why a line can't come next
abbrev pub IsWrongLine : State → List ℕ → LineFault → Type 0
IsWrongLine st line Number = IsOutside st line
IsWrongLine st line Syntax = IsNoLine st line
IsWrongLine st line OutOfMemory = Unit {0}

-- the fault of a text whose line of this number is wrong
abbrev pub fault_at : ℕ → LineFault → CertFault
fault_at k Number = fault.Number k
fault_at k Syntax = fault.Syntax k
fault_at k OutOfMemory = fault.OutOfMemory
