use Rattle.std.proofs.Common.{◌≤◌, arith}
use Rattle.cert_text.specs.Numbers.{max_number}
use Rattle.cert_lines.proofs.Shaped.{no_variable, variable_fault}
use Rattle.cert_lines.proofs.fields.variable_below.Goals as goal

pub returns-in-Err : goal.returns-in-Err
returns-in-Err c = let low : c.args.unknowns ≤ max_number = omega arith in no_variable c.args.unknowns c.args.digits.now c.in-Err.fault c.in-Err.ensures low

pub returns-then-number-unknowns : goal.returns-then-number-unknowns
returns-then-number-unknowns c =
    let q = c.in-Ok.ensures in
    variable_fault c.args.unknowns c.in-Ok.number c.args.digits.now q.0 q.1 c.if-number-unknowns.true
