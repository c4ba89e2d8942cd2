use Rattle.root_system.proofs.OneRoot.{one_answer, no_fault, one_fault}
use Rattle.root_system.proofs.laws.root_answer_law.Goals as goal

pub returns-clause-one_root : goal.returns-clause-one_root
returns-clause-one_root c p limit root other a b = one_answer p limit root other a b

pub returns-clause-no_fault : goal.returns-clause-no_fault
returns-clause-no_fault c p limit root fault a h = no_fault p limit root fault a h

pub returns-clause-one_fault : goal.returns-clause-one_fault
returns-clause-one_fault c p limit fault other h k n m = one_fault p limit fault other h k n m
