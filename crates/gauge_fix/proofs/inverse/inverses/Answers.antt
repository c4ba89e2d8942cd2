use Rattle.symbol_equations.proofs.Listed.{both_kinds}
use Rattle.std.proofs.Common.{◌⊎◌}
use Rattle.gauge_fix.specs.Inverses.{IsEntryEquation, IsBraidingEquation}
use Rattle.symbol_index.specs.declared.sides.Side.TheVariants.{Rows, Columns}
use Rattle.gauge_fix.proofs.inverse.inverses.Goals as goal

pub returns : goal.returns
returns c =
    let r = c.args.ring.now in
    let others = both_kinds r (IsEntryEquation Columns r) (IsBraidingEquation r) c.in_ok-others.others.items _ c.append.new.self.items c.in_ok-append.ensures.items c.in_ok-others.ensures c.in_ok-braiding_inverses.ensures in
    both_kinds r (IsEntryEquation Rows r) (λ left right. IsEntryEquation Columns r left right ⊎ IsBraidingEquation r left right) c.in_ok-all.all.items _ c.append-2.new.self.items c.in_ok-append-2.ensures.items c.in_ok-all.ensures others
