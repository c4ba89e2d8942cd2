-- What happened to a source or a sink.
use Rattle.std.specs.Prelude.{◌≡◌, ℕ, ◌≤◌, List, Option, Some, length}
use Rattle.std.specs.Io.KnownBytes.{Consumes, IsAtEnd}
use Rattle.braid_io.specs.Causes.{Rose, TookMore, TookUpTo}
use Rattle.braid_io.specs.declared.whole.ReadStop.{ReadStop}
use Rattle.braid_io.specs.declared.whole.ReadStop.TheVariants.{Fault, TooLong, OutOfMemory}

-- how many bytes a problem may have
abbrev pub max_problem_bytes : ℕ
max_problem_bytes = 1048576

-- a source or a sink before and after: the bytes left or written, where they are told, and the count of faults
pub record Stream : Type 0 where
  pub before : Option (List ℕ)
  pub after : Option (List ℕ)
  pub faults_before : ℕ
  pub faults_after : ℕ

-- a stream with these two states
abbrev pub between : {T : Type 0} (bytes : T → Option (List ℕ)) (faults : T → ℕ) (old new : T) → Stream
between bytes faults old new = record { before = bytes old; after = bytes new; faults_before = faults old; faults_after = faults new }

-- these bytes, at most `limit`, were taken from the source, and they were all
pub record ReadsAll (limit : ℕ) (source : Stream) (bytes : List ℕ) : Type 0 where
  pub taken : Consumes source.before source.after bytes
  pub ended : IsAtEnd source.after
  pub short : length bytes ≤ limit

-- why a source was not read to its end: a read failed, before more than `limit` bytes came; or more came; or memory could not be had
abbrev pub IsReadStop : ℕ → Stream → ReadStop → Type 0
IsReadStop limit source Fault = Rose source.faults_before source.faults_after × TookUpTo source.before source.after limit
IsReadStop limit source TooLong = TookMore source.before source.after limit
IsReadStop limit source OutOfMemory = Unit {0}

-- some bytes were taken from the front of the source
abbrev pub TakesSome : Stream → Type 0
TakesSome source = (bytes : List ℕ) × Consumes source.before source.after bytes

-- nothing was taken from the source, and it had no fault
pub record IsUntouched (source : Stream) : Type 0 where
  pub same : source.after ≡ source.before
  pub quiet : source.faults_after ≡ source.faults_before

-- the source told these bytes
abbrev pub Tells : Stream → List ℕ → Type 0
Tells source bytes = source.before ≡ Some bytes

-- the source told these bytes, and no read failed
pub record TellsAll (source : Stream) (bytes : List ℕ) : Type 0 where
  pub told : Tells source bytes
  pub quiet : ¬ Rose source.faults_before source.faults_after
