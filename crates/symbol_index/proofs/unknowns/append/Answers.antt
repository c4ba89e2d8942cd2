use Rattle.std.proofs.Common.{arith, ◌∙◌, ap, ◌++◌, take_all}
use Rattle.std.specs.Prelude.{map}
use Rattle.symbol_index.proofs.Appended.{mapped_more}
use Rattle.symbol_index.proofs.unknowns.append.Goals as goal

pub loop-t-preserved : goal.loop-t-preserved
loop-t-preserved g c make k =
    mapped_more make c.args.tuples.now c.loop-t.t-index c.t-item.result c.symbol.result c.args.list.now.items c.loop-t.list.items c.push.new.self.items
    (omega arith) c.t-item.is (k c.t-item.result c.symbol.result c.symbol.ensures) (c.loop-t.invariant make k) c.in_ok-push.ensures.items

pub returns : goal.returns
returns g c make k = c.loop-t.invariant make k ∙ ap (λ ts. c.args.list.now.items ++ map make ts) (take_all c.loop-t.t-index c.args.tuples.now (omega arith))
