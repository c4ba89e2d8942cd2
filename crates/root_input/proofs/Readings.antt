-- The refusals of the stages, as what they become.
use Rattle.std.specs.Prelude.{◌≡◌, ◌≤◌, ℕ, List, Option, length, IfOk, OnErr, MatchResult, Ok, Err, refl}
use Rattle.std.specs.Io.KnownBytes.{Consumes, IsAtEnd}
use Rattle.std.specs.declared.result.Result.{Result}
use Rattle.braid_io.specs.Causes.{Rose, TookMore, TookUpTo}
use Rattle.braid_io.specs.declared.whole.ReadStop.{ReadStop}
use Rattle.braid_io.specs.declared.whole.ReadStop.TheVariants.{Fault, TooLong, OutOfMemory as no_read_memory}
use Rattle.ring_file.specs.Problems.{Stated}
use Rattle.ring_file.specs.Reading.{IsProblemOf, IsProblemFault}
use Rattle.ring_file.specs.declared.problem.ProblemFault.{ProblemFault}
use Rattle.ring_file.specs.declared.problem.ProblemFault.TheVariants.{NotJson, Shape, Ring, GaugeNumber, GaugeSymbol, OutOfMemory as no_problem_memory}
use Rattle.root_system.specs.Forms.{max_equations}
use Rattle.root_system.specs.Root.{IsRootFault}
use Rattle.root_system.specs.declared.root.RootFault.{RootFault}
use Rattle.root_system.specs.declared.root.RootFault.TheVariants.{TooManyUnknowns as many_unknowns, TooManyEquations as many_equations, OutOfMemory as no_root_memory}
use Rattle.root_input.specs.Streams.{Stream, ReadsAll, IsReadStop, max_problem_bytes}
use Rattle.root_input.specs.Inputs.{IsRootStop, IsInputFault}
use Rattle.root_input.specs.Faults.{problem_stop, root_stop, read_fault, input_fault}
use Rattle.root_input.specs.declared.fault.RootStop.{RootStop}
use Rattle.root_input.specs.declared.fault.RootStop.TheVariants.{Problem, TooManyUnknowns, TooManyEquations, OutOfMemory}

-- a whole reading, by what is known of its result
pub read_or_stopped : {T : Type 0} (items : T → List ℕ) (limit : ℕ) (source : Stream) (result : Result T ReadStop)
    → IfOk result (λ v. ReadsAll limit source (items v))
    → (result ≡ Err Fault → Rose source.faults_before source.faults_after × TookUpTo source.before source.after limit)
    → (result ≡ Err TooLong → TookMore source.before source.after limit)
    → MatchResult result (λ v. ReadsAll limit source (items v)) (IsReadStop limit source)
read_or_stopped items limit source (Ok v) all fault long = all
read_or_stopped items limit source (Err Fault) all fault long = fault refl
read_or_stopped items limit source (Err TooLong) all fault long = long refl
read_or_stopped items limit source (Err no_read_memory) all fault long = tt

pub took_some : {T : Type 0} (items : T → List ℕ) (limit most : ℕ) (before after : Option (List ℕ)) (result : Result T ReadStop)
    → IfOk result (λ v. Consumes before after (items v) × IsAtEnd after × (length (items v) ≤ limit)) → OnErr result (TookUpTo before after most) → (bytes : List ℕ) × Consumes before after bytes
took_some items limit most before after (Ok v) all part = (items v, all.0)
took_some items limit most before after (Err stop) all part = (part.0, part.1)

pub problem_stopped : (bytes : List ℕ) (fault : ProblemFault) → IsProblemFault bytes fault → IsRootStop bytes (problem_stop fault)
problem_stopped bytes NotJson is = (is, λ e. cc)
problem_stopped bytes (Shape place) is = (is, λ e. cc)
problem_stopped bytes (Ring fault) is = (is, λ e. cc)
problem_stopped bytes (GaugeNumber entry) is = (is, λ e. cc)
problem_stopped bytes (GaugeSymbol entry) is = (is, λ e. cc)
problem_stopped bytes no_problem_memory is = tt

pub root_stopped : (bytes : List ℕ) (p : Stated) (fault : RootFault) → IsProblemOf bytes p → IsRootFault p max_equations fault → IsRootStop bytes (root_stop fault)
root_stopped bytes p (many_unknowns count) is fault = record { problem = p; is_problem = is; is_fault = fault }
root_stopped bytes p (many_equations count) is fault = record { problem = p; is_problem = is; is_fault = fault }
root_stopped bytes p no_root_memory is fault = tt

pub read_refused : (source : Stream) (stop : ReadStop) → IsReadStop max_problem_bytes source stop → IsInputFault source (read_fault stop)
read_refused source Fault is = is
read_refused source TooLong is = is
read_refused source no_read_memory is = tt

pub root_refused : (source : Stream) (bytes : List ℕ) (stop : RootStop) → ReadsAll max_problem_bytes source bytes → IsRootStop bytes stop → IsInputFault source (input_fault stop)
root_refused source bytes (Problem fault) reads is = record { bytes = bytes; reads = reads; is_stop = is }
root_refused source bytes (TooManyUnknowns count) reads is = record { bytes = bytes; reads = reads; is_stop = is }
root_refused source bytes (TooManyEquations count) reads is = record { bytes = bytes; reads = reads; is_stop = is }
root_refused source bytes OutOfMemory reads is = tt
