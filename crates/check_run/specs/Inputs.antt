-- The reading of both inputs.
use Rattle.std.specs.Prelude.{◌≡◌, ℕ}
use Rattle.braid_io.specs.declared.whole.ReadStop.{ReadStop}
use Rattle.root_input.specs.Streams.{Stream, IsReadStop, max_problem_bytes}
use Rattle.check_run.specs.Statuses.{read_status}
use Rattle.check_run.specs.declared.status.Which.{Which}
use Rattle.check_run.specs.declared.status.Which.TheVariants as which
use Rattle.check_run.specs.declared.status.CheckStatus.{CheckStatus}

-- how many bytes a certificate may have
abbrev pub max_certificate_bytes : ℕ
max_certificate_bytes = 268435456

-- how many bytes an input may have
abbrev pub max_bytes : Which → ℕ
max_bytes which.Problem = max_problem_bytes
max_bytes which.Certificate = max_certificate_bytes

-- why an input was not read to its end, as a status
pub record IsNotRead (which : Which) (source : Stream) (status : CheckStatus) : Type 0 where
  pub stop : ReadStop
  pub is : IsReadStop (max_bytes which) source stop
  pub status_is : status ≡ read_status which stop
