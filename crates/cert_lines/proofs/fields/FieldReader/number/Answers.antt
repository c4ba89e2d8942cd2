use Rattle.std.proofs.Common.{◌≤◌, arith}
use Rattle.cert_text.specs.Numbers.{max_number}
use Rattle.cert_lines.proofs.Shaped.{number_right}
use Rattle.cert_lines.proofs.FieldCases.{good, bad}
use Rattle.cert_lines.proofs.fields.FieldReader.number.Goals as goal

pub returns-in-Ok-clause-read : goal.returns-in-Ok-clause-read
returns-in-Ok-clause-read c u =
    let q = c.in-Ok.ensures u in
    let low : c.args.most ≤ max_number = omega arith in
    good (number_right u c.in-Ok.number c.args.most q.1 low) c.in-Some.ensures.field q.0 c.in-Some.ensures.notes q.1

pub returns-in-Err-clause-read : goal.returns-in-Err-clause-read
returns-in-Err-clause-read c u = bad c.in-Err.fault c.in-Some.ensures.field c.note.ensures.part (c.in-Err.ensures u) c.note.ensures.notes c.in-Some.ensures.notes

pub returns-in-Ok-clause-within : goal.returns-in-Ok-clause-within
returns-in-Ok-clause-within c = (c.in-Ok.ensures 0).1
