-- What a run answers where nothing fails.
use Rattle.std.specs.Prelude.{◌≡◌, ◌⊎◌, ℕ, Option, None, Some, List}
use Rattle.braid_io.specs.Causes.{Rose}
use Rattle.ring_file.specs.Problems.{Stated}
use Rattle.root_system.specs.Forms.{RootEquations, max_equations}
use Rattle.root_system.specs.Root.{IsRootOf}
use Rattle.root_input.specs.Streams.{Stream, TellsAll}
use Rattle.run_words.specs.declared.settings.Made.{Made}
use Rattle.solve_run.specs.Problems.{IsProblemBy}
use Rattle.solve_run.specs.declared.status.Status.{Status}
use Rattle.solve_run.specs.declared.status.Status.TheVariants.{Done, Open, OutOfMemory}

-- where no ring is made, the source told these bytes and no read failed
abbrev pub TellsFor : Option Made → Stream → List ℕ → Type 0
TellsFor None source bytes = TellsAll source bytes
TellsFor (Some made) source bytes = Unit {0}

-- and no write failed
pub record GoesWell (made : Option Made) (source sink : Stream) (bytes : List ℕ) : Type 0 where
  pub tells : TellsFor made source bytes
  pub quiet : ¬ Rose sink.faults_before sink.faults_after

-- the problem that is made, or that the bytes state, has a root
pub record CanBeSearched (made : Option Made) (bytes : List ℕ) : Type 0 where
  pub problem : Stated
  pub root : RootEquations
  pub is_problem : IsProblemBy made bytes problem
  pub is_root : IsRootOf problem max_equations root

-- the status is that of a certificate, or memory could not be had
abbrev pub IsSearchedOr : Status → Type 0
IsSearchedOr status = ((leaves : ℕ) × (status ≡ Done leaves)) ⊎ ((leaves : ℕ) × (opens : ℕ) × (status ≡ Open leaves opens)) ⊎ (status ≡ OutOfMemory)
