use Rattle.std.proofs.Common.{arith}
use Rattle.sparse_poly.proofs.PackedTerms.{AllFit-more, AllFit-end}
use Rattle.sparse_poly.proofs.layout.all_fit.Goals as goal

pub loop-term-preserved : goal.loop-term-preserved
loop-term-preserved c = AllFit-more _ _ c.loop-term.term-index c.term-item.result c.loop-term-test.true c.term-item.is c.in-Some.ensures.fits c.loop-term.invariant

pub returns-clause-fit : goal.returns-clause-fit
returns-clause-fit c = λ _. AllFit-end _ _ c.loop-term.term-index (omega (arith, c.loop-term-test.false)) c.loop-term.invariant
