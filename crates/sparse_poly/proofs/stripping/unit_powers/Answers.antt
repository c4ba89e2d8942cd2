use Rattle.std.proofs.Common.{rules, ◌≤◌}
use Rattle.sparse_poly.proofs.UnitMonomials.{unit_exponent_small}
use Rattle.sparse_poly.proofs.stripping.unit_powers.Goals as goal

pub overflow_cast-times : goal.overflow_cast-times
overflow_cast-times c =
    let bound : c.power_at-power.result.1 ≤ 65535 = search rules in
    let small : c.unit_exponent-times.result ≤ 65535 = rw c.unit_exponent-times.ensures (unit_exponent_small c.args.units.now c.args.terms.now c.power_at-power.result bound) in
    search rules
