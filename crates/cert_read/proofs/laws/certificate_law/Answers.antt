use Rattle.cert_read.proofs.OneAnswer.{one_certificate, no_fault, one_fault}
use Rattle.cert_read.proofs.laws.certificate_law.Goals as goal

pub returns : goal.returns
returns c = record {
  one = λ text a b. one_certificate text a b;
  ok = λ text a fault. no_fault text a fault;
  one_fault = λ text first second. one_fault text first second;
}
