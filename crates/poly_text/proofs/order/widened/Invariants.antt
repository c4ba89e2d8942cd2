use Rattle.std.proofs.Common.{◌≡◌, ◌++◌, drop}
use Rattle.poly_text.proofs.order.widened.Given as goal

abbrev pub invariant-powers : goal.invariant-powers
invariant-powers l = l.wide.items ++ drop l.power-index l.powers ≡ l.powers
