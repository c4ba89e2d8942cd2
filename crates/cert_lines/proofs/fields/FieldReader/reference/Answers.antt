use Rattle.cert_lines.proofs.Shaped.{reference_right}
use Rattle.cert_lines.proofs.FieldCases.{good, bad}
use Rattle.cert_lines.proofs.fields.FieldReader.reference.Goals as goal

pub returns-in-Ok : goal.returns-in-Ok
returns-in-Ok c u = let q = c.in-Ok.ensures u in good (reference_right u c.in-Ok.item q.1) c.in-Some.ensures.field q.0 c.in-Some.ensures.notes q.1

pub returns-in-Err : goal.returns-in-Err
returns-in-Err c u = bad c.in-Err.fault c.in-Some.ensures.field c.note.ensures.part (c.in-Err.ensures u) c.note.ensures.notes c.in-Some.ensures.notes
