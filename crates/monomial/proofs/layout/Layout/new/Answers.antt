use Rattle.std.proofs.Common.{arith, rules, sym, ◌≡◌, slice_index_or}
use Rattle.monomial.proofs.Lanes.{Packing-start, Packing-more}
use Rattle.monomial.proofs.layout.Layout.new.Goals as goal

pub loop-variable-init : goal.loop-variable-init
loop-variable-init c = Packing-start c.args.variables.now (omega (arith, c.if-variables-ne8.false))

pub loop-variable-preserved : goal.loop-variable-preserved
loop-variable-preserved c =
    let same : slice_index_or c.args.variables.now c.loop-variable.variable-index c.from.result ≡ c.from.result = search rules in
    Packing-more c.args.variables.now c.loop-variable.variable-index c.loop-variable.word c.from.result c.loop-variable-test.true (sym same) (omega (arith, c.from.ensures, c.if-variable-gt65535.false)) c.loop-variable.invariant
