-- The line and the exit status of each status.
use Rattle.std.specs.Prelude.{ℕ, List, ◌++◌, codes, decimal}
use Rattle.derive_lines.specs.declared.parts.Item.{Item}
use Rattle.derive_lines.specs.declared.parts.LineCause.{LineCause}
use Rattle.derive_lines.specs.declared.parts.LineCause.TheVariants.{Reference, Multiplier, Degree, Heavy, Identity}
use Rattle.cert_check.specs.declared.answers.Part.{Part}
use Rattle.cert_check.specs.declared.answers.Part.TheVariants as part
use Rattle.cert_check.specs.declared.answers.RefuseCause.{RefuseCause}
use Rattle.cert_check.specs.declared.answers.RefuseCause.TheVariants as cause
use Rattle.cert_text.specs.Fields.{item_text}
use Rattle.cert_read.specs.declared.reader.CertFault.{CertFault}
use Rattle.cert_read.specs.declared.reader.CertFault.TheVariants.{Truncated, Number, Syntax}
use Rattle.root_input.specs.Lines.{problem_text}
use Rattle.check_run.specs.Statuses.{verdict_status}
use Rattle.check_run.specs.declared.status.Which.{Which}
use Rattle.check_run.specs.declared.status.Which.TheVariants as which
use Rattle.check_run.specs.declared.status.Verdict.{Verdict}
use Rattle.check_run.specs.declared.status.CheckStatus.{CheckStatus}
use Rattle.check_run.specs.declared.status.CheckStatus.TheVariants.{Accepted, Migrated, Usage, ReadFault, TooLong, Problem, TooManyUnknowns, TooManyEquations, Certificate, Refused, WriteFault, OutOfMemory}

-- the word for an input
abbrev pub which_word : Which → List ℕ
which_word which.Problem = codes "problem"
which_word which.Certificate = codes "certificate"

-- what is wrong with the text of a certificate
abbrev pub fault_text : CertFault → List ℕ
fault_text Truncated = codes "certificate truncated"
fault_text (Number line) = codes "certificate number " ++ decimal line
fault_text (Syntax line) = codes "certificate syntax " ++ decimal line
fault_text _ = codes "out of memory"

-- the word for a part of a certificate
abbrev pub part_word : Part → List ℕ
part_word part.Header = codes "header"
part_word part.Split = codes "split"
part_word part.Pattern = codes "pattern"
part_word part.Close = codes "close"
part_word part.Leaf = codes "leaf"
part_word part.Whole = codes "whole"

-- the word for what is wrong with a line
abbrev pub line_cause_word : LineCause → List ℕ
line_cause_word Reference = codes "reference"
line_cause_word Multiplier = codes "multiplier"
line_cause_word Degree = codes "degree"
line_cause_word Heavy = codes "heavy"
line_cause_word Identity = codes "identity"

-- an item that is lost
abbrev pub lost_text : Item → List ℕ
lost_text item = codes "lost " ++ item_text item

-- why a part is refused
abbrev pub cause_text : RefuseCause → List ℕ
cause_text cause.Unknowns = codes "unknowns"
cause_text cause.Equations = codes "equations"
cause_text cause.NotPending = codes "not pending"
cause_text cause.NotStored = codes "not stored"
cause_text cause.NotWithin = codes "not within"
cause_text cause.Decisions = codes "decisions"
cause_text (cause.Line k is) = codes "line " ++ (decimal k ++ (codes " " ++ line_cause_word is))
cause_text (cause.Equation i) = codes "equation " ++ decimal i
cause_text (cause.Lost item) = lost_text item
cause_text cause.End = codes "end"
cause_text cause.Pending = codes "pending"

-- how many leaves an accepted certificate has, and how many of them are open
abbrev pub accepted_text : ℕ → ℕ → List ℕ
accepted_text leaves opens = codes "accepted leaves " ++ (decimal leaves ++ (codes " open " ++ decimal opens))

-- the part that is refused, its number and the cause
abbrev pub refused_text : Part → ℕ → RefuseCause → List ℕ
refused_text part number cause = codes "refused " ++ (part_word part ++ (codes " " ++ (decimal number ++ (codes " " ++ cause_text cause))))

-- the line of a status, without an end of line
abbrev pub check_text : CheckStatus → List ℕ
check_text (Accepted leaves opens) = accepted_text leaves opens
check_text (Migrated entries) = codes "migrated entries " ++ decimal entries
check_text Usage = codes "usage"
check_text (ReadFault which) = codes "read fault " ++ which_word which
check_text (TooLong which) = codes "too long " ++ which_word which
check_text (Problem fault) = problem_text fault
check_text (TooManyUnknowns count) = codes "too many unknowns " ++ decimal count
check_text (TooManyEquations count) = codes "too many equations " ++ decimal count
check_text (Certificate fault) = fault_text fault
check_text (Refused part number cause) = refused_text part number cause
check_text WriteFault = codes "write fault"
check_text OutOfMemory = codes "out of memory"

-- the line of a verdict, with its end
abbrev pub verdict_line : Verdict → List ℕ
verdict_line verdict = check_text (verdict_status verdict) ++ codes "\n"

-- the exit status of a status
abbrev pub exit_of : CheckStatus → ℕ
exit_of (Accepted leaves opens) = 0
exit_of (Migrated entries) = 0
exit_of (Refused part number cause) = 1
exit_of Usage = 2
exit_of (ReadFault which) = 3
exit_of (TooLong which) = 4
exit_of (Problem fault) = 5
exit_of (TooManyUnknowns count) = 6
exit_of (TooManyEquations count) = 7
exit_of WriteFault = 8
exit_of OutOfMemory = 9
exit_of (Certificate fault) = 10
