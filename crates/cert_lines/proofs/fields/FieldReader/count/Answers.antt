use Rattle.std.proofs.Common.{refl}
use Rattle.cert_lines.proofs.Noted.{field_more, retext}
use Rattle.cert_lines.proofs.fields.FieldReader.count.Goals as goal

pub returns-clause-read : goal.returns-clause-read
returns-clause-read c u = retext refl (λ x. x.1.0) (field_more (c.word.ensures u) (field_more (c.number-number.ensures.read u) (c.end.ensures u)))
