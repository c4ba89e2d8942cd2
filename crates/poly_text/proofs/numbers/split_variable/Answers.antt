use Rattle.std.proofs.Common.{rules, ◌<◌, ◌^◌}
use Rattle.poly_text.proofs.Scans.{variable_in, variable_out}
use Rattle.poly_text.proofs.numbers.split_variable.Goals as goal

pub returns-then-number-unknowns : goal.returns-then-number-unknowns
returns-then-number-unknowns c =
    let fits : c.args.unknowns < 2 ^ 32 = search rules in
    variable_in c.args.unknowns c.in_ok-number.number c.args.fault.now c.args.text.now c.in_ok-number.rest.now fits c.in_ok-number.ensures c.if-number-unknowns.true

pub returns-else-number-unknowns : goal.returns-else-number-unknowns
returns-else-number-unknowns c =
    let fits : c.args.unknowns < 2 ^ 32 = search rules in
    rw c.note.ensures (variable_out c.args.unknowns c.in_ok-number.number 0 c.args.fault.now c.args.text.now c.in_ok-number.rest.now fits c.in_ok-number.ensures c.if-number-unknowns.false)
