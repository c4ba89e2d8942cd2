use Rattle.monomial.specs.Layouts.{lanes, AreFalling}
use Rattle.monomial.proofs.layout.are_falling.Given as goal

abbrev pub invariant-loop-place : goal.invariant-loop-place
invariant-loop-place l = AreFalling (lanes l.place l.variables)
