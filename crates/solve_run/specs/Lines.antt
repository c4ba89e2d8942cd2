-- The line and the exit status of each status.
use Rattle.std.specs.Prelude.{ℕ, List, ◌++◌, codes, decimal}
use Rattle.root_input.specs.Lines.{problem_text}
use Rattle.solve_run.specs.declared.status.Status.{Status}
use Rattle.solve_run.specs.declared.status.Status.TheVariants.{Done, Open, Usage, ReadFault, TooLong, Problem, TooManyUnknowns, TooManyEquations, WriteFault, OutOfMemory}
use Rattle.run_words.specs.declared.settings.UsageKind.{UsageKind}
use Rattle.run_words.specs.declared.settings.UsageKind.TheVariants.{Words, Workers, Budget, Make, Summary}

-- what is wrong with the words
abbrev pub usage_text : UsageKind → List ℕ
usage_text Words = codes "usage words"
usage_text Workers = codes "usage workers"
usage_text Budget = codes "usage budget"
usage_text Make = codes "usage make"
usage_text Summary = codes "usage summary"

-- the line
abbrev pub status_text : Status → List ℕ
status_text (Done leaves) = codes "done leaves " ++ decimal leaves
status_text (Open leaves opens) = codes "open leaves " ++ (decimal leaves ++ (codes " open " ++ decimal opens))
status_text (Usage kind) = usage_text kind
status_text ReadFault = codes "read fault"
status_text TooLong = codes "too long"
status_text (Problem fault) = problem_text fault
status_text (TooManyUnknowns count) = codes "too many unknowns " ++ decimal count
status_text (TooManyEquations count) = codes "too many equations " ++ decimal count
status_text WriteFault = codes "write fault"
status_text OutOfMemory = codes "out of memory"

-- the exit status
abbrev pub exit_of : Status → ℕ
exit_of (Done leaves) = 0
exit_of (Open leaves opens) = 1
exit_of (Usage kind) = 2
exit_of ReadFault = 3
exit_of TooLong = 4
exit_of (Problem fault) = 5
exit_of (TooManyUnknowns count) = 6
exit_of (TooManyEquations count) = 7
exit_of WriteFault = 8
exit_of OutOfMemory = 9
