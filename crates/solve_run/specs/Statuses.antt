-- The statuses that the refusals of the words and of the source become.
use Rattle.std.specs.Prelude.{Bool, true, false}
use Rattle.root_input.specs.declared.fault.InputFault.{InputFault}
use Rattle.root_input.specs.declared.fault.InputFault.TheVariants as input
use Rattle.run_words.specs.declared.settings.WordsStop.{WordsStop}
use Rattle.run_words.specs.declared.settings.WordsStop.TheVariants as words
use Rattle.solve_run.specs.declared.status.Status.{Status}
use Rattle.solve_run.specs.declared.status.Status.TheVariants.{Done, Open, Usage, ReadFault, TooLong, Problem, TooManyUnknowns, TooManyEquations, WriteFault, OutOfMemory}

-- where the words give no settings
abbrev pub words_status : WordsStop → Status
words_status (words.Usage kind) = Usage kind
words_status words.OutOfMemory = OutOfMemory

-- where a source or a made ring gives no root
abbrev pub input_status : InputFault → Status
input_status input.ReadFault = ReadFault
input_status input.TooLong = TooLong
input_status (input.Problem fault) = Problem fault
input_status (input.TooManyUnknowns count) = TooManyUnknowns count
input_status (input.TooManyEquations count) = TooManyEquations count
input_status input.OutOfMemory = OutOfMemory

-- something may have been written
abbrev pub may_write : Status → Bool
may_write (Done leaves) = true
may_write (Open leaves opens) = true
may_write WriteFault = true
may_write status = false
