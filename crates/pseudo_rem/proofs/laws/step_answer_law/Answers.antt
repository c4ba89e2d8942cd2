use Rattle.std.proofs.Common.{sym, ◌∙◌}
use Rattle.pseudo_rem.specs.Steps.{step_contributions, tail_contributions}
use Rattle.pseudo_rem.proofs.OneStep.{one_step, one_fault}
use Rattle.pseudo_rem.proofs.OneRemainder.{one_reduction, no_reduction_fault, no_tail_fault}
use Rattle.pseudo_rem.proofs.laws.step_answer_law.Goals as goal

pub returns-clause-one_reduction : goal.returns-clause-one_reduction
returns-clause-one_reduction c units q p v step other h k = one_reduction c.one_clearing_law.ensures.strip units q p v step other h k

pub returns-clause-reduction : goal.returns-clause-reduction
returns-clause-reduction c units q p v step fault h k = no_reduction_fault units q p v step fault h k

pub returns-clause-reduction_fault : goal.returns-clause-reduction_fault
returns-clause-reduction_fault c q p v fault other h k n m = one_fault (step_contributions v q p) fault other h k n m

pub returns-clause-one_tail : goal.returns-clause-one_tail
returns-clause-one_tail c units v q factor rest step other h k = one_step c.one_clearing_law.ensures.strip units q rest step other (h.l_is ∙ sym k.l_is) (h.a_is ∙ sym k.a_is) h.is_step k.is_step

pub returns-clause-tail : goal.returns-clause-tail
returns-clause-tail c units v q factor rest step fault h k = no_tail_fault units v q factor rest step fault h k

pub returns-clause-tail_fault : goal.returns-clause-tail_fault
returns-clause-tail_fault c v q factor rest fault other h k n m = one_fault (tail_contributions v q factor rest) fault other h k n m
