use Rattle.std.proofs.Common.{arith, take_all}
use Rattle.std.specs.Int.{w128}
use Rattle.std.proofs.lemmas.Int.{to_z-of_z}
use Rattle.symbol_equations.proofs.Low.{side_more, side_all}
use Rattle.symbol_equations.proofs.add_side.Goals as goal

pub loop-product-preserved : goal.loop-product-preserved
loop-product-preserved c =
    side_more c.args.symbols.now _ c.args.side.now c.loop-product.product-index c.product-item.result c.args.terms.now.items c.loop-product.terms.items c.add_product.new.terms.items
    (omega arith) c.product-item.is c.loop-product.invariant c.in_ok-add_product.ensures

pub returns : goal.returns
returns c =
    side_all c.args.symbols.now _ c.args.coeff _ c.args.side.now c.args.terms.now.items c.loop-product.terms.items c.loop-product.invariant
    (take_all c.loop-product.product-index c.args.side.now (omega arith)) (to_z-of_z w128 c.args.coeff c.ranges.coeff)
