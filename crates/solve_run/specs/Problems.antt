-- The problem of a run and its root: that of the ring that the words make, or else that of the bytes of the source.
use Rattle.std.specs.Prelude.{◌≤◌, ℕ, Option, None, Some, List, length}
use Rattle.ring_file.specs.Problems.{Stated}
use Rattle.ring_file.specs.Reading.{IsProblemOf}
use Rattle.root_system.specs.Forms.{RootEquations, max_equations}
use Rattle.root_system.specs.Root.{IsRootOf, IsRootFault}
use Rattle.root_system.specs.declared.root.RootFault.{RootFault}
use Rattle.root_system.specs.declared.root.RootFault.TheVariants as too
use Rattle.root_input.specs.Streams.{Stream, IsUntouched, max_problem_bytes}
use Rattle.root_input.specs.Inputs.{StatesRoot, IsInputFault}
use Rattle.root_input.specs.declared.fault.InputFault.{InputFault}
use Rattle.root_input.specs.declared.fault.InputFault.TheVariants.{TooManyUnknowns, TooManyEquations, OutOfMemory}
use Rattle.ring_make.specs.Made.{IsCyclic, IsCube}
use Rattle.run_words.specs.declared.settings.Made.{Made}
use Rattle.run_words.specs.declared.settings.Made.TheVariants.{Cyclic, Cube}

-- the problem of the made ring, without gauge
abbrev pub IsMadeProblem : Made → Stated → Type 0
IsMadeProblem (Cyclic n) p = IsCyclic n p
IsMadeProblem (Cube k) p = IsCube k p

-- the ring makes the problem, and it has this root
pub record MakesRoot (made : Made) (problem : Stated) (root : RootEquations) : Type 0 where
  pub is_made : IsMadeProblem made problem
  pub is_root : IsRootOf problem max_equations root

-- the ring makes a problem that has no root, for this cause
pub record MakesNoRoot (made : Made) (fault : RootFault) : Type 0 where
  pub problem : Stated
  pub is_made : IsMadeProblem made problem
  pub is_fault : IsRootFault problem max_equations fault

-- why a made ring gives no root: it has too many unknowns or equations; or memory could not be had
abbrev pub IsMadeFault : Made → InputFault → Type 0
IsMadeFault made (TooManyUnknowns count) = MakesNoRoot made (too.TooManyUnknowns count)
IsMadeFault made (TooManyEquations count) = MakesNoRoot made (too.TooManyEquations count)
IsMadeFault made OutOfMemory = Unit {0}
IsMadeFault made fault = ⊥

-- the run has this problem and root: all bytes of the source were read and state it; or the words make it, and the source is untouched
abbrev pub GivesRoot : Stream → Option Made → Stated → RootEquations → Type 0
GivesRoot source None problem root = (bytes : List ℕ) × StatesRoot source bytes problem root
GivesRoot source (Some made) problem root = IsUntouched source × MakesRoot made problem root

-- why it has none
abbrev pub GivesNoRoot : Stream → Option Made → InputFault → Type 0
GivesNoRoot source None fault = IsInputFault source fault
GivesNoRoot source (Some made) fault = IsUntouched source × IsMadeFault made fault

-- the bytes, which are not too many, state the problem; a made ring needs none
abbrev pub IsProblemBy : Option Made → List ℕ → Stated → Type 0
IsProblemBy None bytes problem = (length bytes ≤ max_problem_bytes) × IsProblemOf bytes problem
IsProblemBy (Some made) bytes problem = IsMadeProblem made problem
