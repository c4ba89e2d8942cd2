use Rattle.cert_migrate.proofs.Lines.{same_text}
use Rattle.cert_migrate.proofs.laws.line_text_law.Goals as goal

pub returns : goal.returns
returns c u first second small f g v w = same_text u small first second f g v w
