use Rattle.std.proofs.Common.{arith, subst}
use Rattle.monomial.specs.Monomials.{IsFaultOf}
use Rattle.symbol_equations.proofs.Low.{no_degree}
use Rattle.symbol_equations.proofs.times_unknown.Goals as goal

pub unreachable-requires : goal.unreachable-requires
unreachable-requires c =
    no_degree c.args.number _ 4 c.in_ok-power.field-0 c.args.monomial.now c.in_ok-power.ensures (omega arith) c.requires
    (subst (λ e. IsFaultOf c.in_ok-power.field-0 c.args.monomial.now e) c.in-Err-Degree.field-0-is c.in-Err-Degree.ensures)
