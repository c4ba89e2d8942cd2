-- The root of the problem that bytes or a source state, and why they give none.
use Rattle.std.specs.Prelude.{◌≢◌, ℕ, List}
use Rattle.braid_io.specs.declared.whole.ReadStop.TheVariants.{Fault, TooLong as long}
use Rattle.ring_file.specs.Problems.{Stated}
use Rattle.ring_file.specs.Reading.{IsProblemOf, IsProblemFault}
use Rattle.ring_file.specs.declared.problem.ProblemFault.TheVariants.{OutOfMemory as no_problem_memory}
use Rattle.root_system.specs.Forms.{RootEquations, max_equations}
use Rattle.root_system.specs.Root.{IsRootOf, IsRootFault}
use Rattle.root_system.specs.declared.root.RootFault.{RootFault}
use Rattle.root_system.specs.declared.root.RootFault.TheVariants as too
use Rattle.root_input.specs.Streams.{Stream, ReadsAll, IsReadStop, max_problem_bytes}
use Rattle.root_input.specs.declared.fault.RootStop.{RootStop}
use Rattle.root_input.specs.declared.fault.RootStop.TheVariants as stop
use Rattle.root_input.specs.declared.fault.InputFault.{InputFault}
use Rattle.root_input.specs.declared.fault.InputFault.TheVariants.{ReadFault, TooLong, Problem, TooManyUnknowns, TooManyEquations, OutOfMemory}

-- the bytes state the problem, and it has this root
pub record HasRoot (bytes : List ℕ) (problem : Stated) (root : RootEquations) : Type 0 where
  pub is_problem : IsProblemOf bytes problem
  pub is_root : IsRootOf problem max_equations root

-- the bytes state a problem that has no root, for this cause
pub record HasRootFault (bytes : List ℕ) (fault : RootFault) : Type 0 where
  pub problem : Stated
  pub is_problem : IsProblemOf bytes problem
  pub is_fault : IsRootFault problem max_equations fault

-- why bytes have no root: they state no problem, or one with too many unknowns or equations; or memory could not be had
abbrev pub IsRootStop : List ℕ → RootStop → Type 0
IsRootStop bytes (stop.Problem fault) = IsProblemFault bytes fault × (fault ≢ no_problem_memory)
IsRootStop bytes (stop.TooManyUnknowns count) = HasRootFault bytes (too.TooManyUnknowns count)
IsRootStop bytes (stop.TooManyEquations count) = HasRootFault bytes (too.TooManyEquations count)
IsRootStop bytes stop.OutOfMemory = Unit {0}

-- all bytes of the source were read, they state the problem, and it has this root
pub record StatesRoot (source : Stream) (bytes : List ℕ) (problem : Stated) (root : RootEquations) : Type 0 where
  pub reads : ReadsAll max_problem_bytes source bytes
  pub has_root : HasRoot bytes problem root

-- all bytes of the source were read, and they have no root, for this cause
pub record StatesNoRoot (source : Stream) (stop : RootStop) : Type 0 where
  pub bytes : List ℕ
  pub reads : ReadsAll max_problem_bytes source bytes
  pub is_stop : IsRootStop bytes stop

-- why a source gives no root: it was not read to its end, or its bytes have no root; or memory could not be had
abbrev pub IsInputFault : Stream → InputFault → Type 0
IsInputFault source ReadFault = IsReadStop max_problem_bytes source Fault
IsInputFault source TooLong = IsReadStop max_problem_bytes source long
IsInputFault source (Problem fault) = StatesNoRoot source (stop.Problem fault)
IsInputFault source (TooManyUnknowns count) = StatesNoRoot source (stop.TooManyUnknowns count)
IsInputFault source (TooManyEquations count) = StatesNoRoot source (stop.TooManyEquations count)
IsInputFault source OutOfMemory = Unit {0}
