use Rattle.std.proofs.Common.{◌/◌, length}
use Rattle.sparse_poly.proofs.Standings.{halves, halves_high, halves_sums}
use Rattle.sparse_poly.proofs.Rows.{halves_order}
use Rattle.sparse_poly.proofs.multiplying.+part.Goals as goal

pub returns-in-Ok-clause-high : goal.returns-in-Ok-clause-high
returns-in-Ok-clause-high t c =
    halves_high c.args.minus c.args.ts.now c.args.us.now _ _ c.args.high.now c.part.new.high c.part-2.new.high (halves c.args.ts.now (length c.args.ts.now / 2)) c.in_ok-first.ensures.high c.in_ok-second.ensures.high

pub returns-in-Ok-clause-sums : goal.returns-in-Ok-clause-sums
returns-in-Ok-clause-sums t c =
    halves_sums c.args.minus c.args.ts.now c.args.us.now _ _ c.part.new.high c.part-2.new.high _ _ _ (halves c.args.ts.now (length c.args.ts.now / 2)) c.in_ok-second.ensures.high c.in_ok-first.ensures.sums c.in_ok-second.ensures.sums c.in-Ok.ensures.both

pub returns-in-Ok-clause-order : goal.returns-in-Ok-clause-order
returns-in-Ok-clause-order t c =
    halves_order c.args.ts.now c.args.us.now _ _ _ _ _ (halves c.args.ts.now (length c.args.ts.now / 2)) c.in_ok-first.ensures.order c.in_ok-second.ensures.order c.in-Ok.ensures
