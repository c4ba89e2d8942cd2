use Rattle.std.proofs.Common.{subst}
use Rattle.sparse_poly.specs.Contributions.{IsFault, IsNoDegree}
use Rattle.symbol_equations.proofs.Low.{collected_from, not_heavy, difference_from}
use Rattle.symbol_equations.proofs.difference.Goals as goal

pub returns-in-Ok : goal.returns-in-Ok
returns-in-Ok c =
    difference_from c.args.symbols.now c.args.left.now c.args.right.now c.add_side-2.new.terms.items c.in-Ok.poly
    (collected_from c.args.symbols.now c.args.left.now c.args.right.now c.in_ok-terms.terms.items c.add_side.new.terms.items c.add_side-2.new.terms.items c.in_ok-terms.ensures.items c.in_ok-add_side.ensures c.in_ok-add_side-2.ensures)
    c.in-Ok.ensures.answer

pub unreachable-requires : goal.unreachable-requires
unreachable-requires c = subst IsNoDegree c.in-Err-Degree.field-0-is c.in-Err-Degree.ensures.degree

pub unreachable-requires-in-Err-Heavy : goal.unreachable-requires-in-Err-Heavy
unreachable-requires-in-Err-Heavy c =
    not_heavy c.args.symbols.now c.args.left.now c.args.right.now c.add_side-2.new.terms.items c.in-Err-Heavy.field-0-0 c.requires.few_left c.requires.few_right
    (collected_from c.args.symbols.now c.args.left.now c.args.right.now c.in_ok-terms.terms.items c.add_side.new.terms.items c.add_side-2.new.terms.items c.in_ok-terms.ensures.items c.in_ok-add_side.ensures c.in_ok-add_side-2.ensures)
    (subst (λ e. IsFault c.add_side-2.new.terms.items e) c.in-Err-Heavy.field-0-is c.in-Err-Heavy.ensures.answer)
