-- Which statuses no refusal and no certificate becomes.
use Rattle.std.specs.Prelude.{◌≡◌, true, List, refl}
use Rattle.leaf_cert.specs.declared.certificate.RawEntry.{RawEntry}
use Rattle.root_input.specs.declared.fault.InputFault.{InputFault}
use Rattle.root_input.specs.declared.fault.InputFault.TheVariants as input
use Rattle.run_words.specs.declared.settings.UsageKind.{UsageKind}
use Rattle.solve_run.specs.Statuses.{input_status, may_write}
use Rattle.solve_run.specs.Outcomes.{Counts, none_open, some_open}
use Rattle.solve_run.specs.declared.status.Status.{Status}
use Rattle.solve_run.specs.declared.status.Status.TheVariants.{Usage}

pub input_is_no_usage : (fault : InputFault) (kind : UsageKind) → input_status fault ≡ Usage kind → ⊥
input_is_no_usage input.ReadFault kind e = cc
input_is_no_usage input.TooLong kind e = cc
input_is_no_usage (input.Problem fault) kind e = cc
input_is_no_usage (input.TooManyUnknowns count) kind e = cc
input_is_no_usage (input.TooManyEquations count) kind e = cc
input_is_no_usage input.OutOfMemory kind e = cc

pub written_is_no_usage : (entries : List RawEntry) (kind : UsageKind) (status : Status) → Counts entries status → status ≡ Usage kind → ⊥
written_is_no_usage entries kind status (none_open none) e = cc
written_is_no_usage entries kind status (some_open some) e = cc

pub written_may : (entries : List RawEntry) (status : Status) → Counts entries status → may_write status ≡ true
written_may entries status (none_open none) = refl
written_may entries status (some_open some) = refl
