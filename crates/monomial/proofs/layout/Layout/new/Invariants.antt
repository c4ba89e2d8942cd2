use Rattle.monomial.proofs.Lanes.{Packing}
use Rattle.monomial.proofs.layout.Layout.new.Given as goal

abbrev pub invariant-loop-variable : goal.invariant-loop-variable
invariant-loop-variable l = Packing l.variables l.variable-index l.word
