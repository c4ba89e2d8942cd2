use Rattle.std.proofs.Common.{◌+◌, ◌<◌, length}
use Rattle.cert_text.specs.Numbers.{max_number}
use Rattle.cert_read.specs.Seen.{seen}
use Rattle.cert_read.specs.Progress.{IsReadTo}
use Rattle.cert_read.proofs.reader.read_certificate.Given as goal

abbrev pub invariant-lines : goal.invariant-lines
invariant-lines l = record {
  read : IsReadTo l.text l.rest l.count (seen l.kept);
  few : length l.text + 8 < max_number;
}

abbrev pub decreases-lines : goal.decreases-lines
decreases-lines l = length l.rest
