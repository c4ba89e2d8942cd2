use Rattle.pseudo_rem.proofs.OneRemainder.{one_run, no_remainder_fault, one_remainder_fault}
use Rattle.pseudo_rem.proofs.laws.remainder_answer_law.Goals as goal

pub returns-clause-one_remainder : goal.returns-clause-one_remainder
returns-clause-one_remainder c units list n steps others main a b = one_run list main units c.one_clearing_law.ensures.strip n steps others a.each a.finished b.each b.finished

pub returns-clause-remainder : goal.returns-clause-remainder
returns-clause-remainder c units list n steps fault main a h = no_remainder_fault list main units c.one_clearing_law.ensures.strip n steps fault a h

pub returns-clause-one_fault : goal.returns-clause-one_fault
returns-clause-one_fault c units list n fault other main h k nf ng = one_remainder_fault list main units c.one_clearing_law.ensures.strip n fault other h k nf ng
