use Rattle.std.proofs.Common.{◌≤◌, arith}
use Rattle.cert_text.specs.Numbers.{max_number}
use Rattle.cert_lines.proofs.Shaped.{variable_right}
use Rattle.cert_lines.proofs.FieldCases.{good}
use Rattle.cert_lines.proofs.fields.FieldReader.variable.Goals as goal

pub returns-in-Ok : goal.returns-in-Ok
returns-in-Ok c =
    let q = c.in-Ok.ensures in
    let low : c.args.unknowns ≤ max_number = omega arith in
    good (variable_right c.args.unknowns c.in-Ok.variable q.1 low) c.in-Some.ensures.field q.0 c.in-Some.ensures.notes q.1
