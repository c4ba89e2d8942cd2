use Rattle.std.proofs.Common.{sym}
use Rattle.cert_lines.proofs.FieldCases.{reference_fault}
use Rattle.cert_lines.proofs.fields.reference_in.Goals as goal

pub returns-in-Err : goal.returns-in-Err
returns-in-Err c u = reference_fault u c.args.field.now c.in-Err.fault (sym c.if-is_word.ensures) (c.in-Err.ensures u)
