use Rattle.legal_history.proofs.Cases.{cases_fit}
use Rattle.legal_history.proofs.Grown.{legal_cases}
use Rattle.legal_history.proofs.PlainTree.{one_case, case_stays, end_stays}
use Rattle.std.specs.Prelude.{◌++◌}
use Rattle.legal_history.proofs.laws.case_law.Goals as goal

pub returns-clause-belongs : goal.returns-clause-belongs
returns-clause-belongs c root budget h n k listed is = (cases_fit root budget (c.end_law.ensures root budget listed) h is.cases n k is.are is.is).belongs

pub returns-clause-few : goal.returns-clause-few
returns-clause-few c root budget h n k listed is = (cases_fit root budget (c.end_law.ensures root budget listed) h is.cases n k is.are is.is).few

pub returns-clause-one : goal.returns-clause-one
returns-clause-one c root budget h n k other listed a b = one_case root budget (c.end_law.ensures root budget listed) h n k other a b

pub returns-clause-stays : goal.returns-clause-stays
returns-clause-stays c root budget more base n k listed is legal = case_stays root budget (c.end_law.ensures root budget listed) more base n k _ is (legal_cases root budget (c.end_law.ensures root budget listed) (more ++ base) legal).1

pub returns-clause-ends : goal.returns-clause-ends
returns-clause-ends c root budget more base n o listed e legal = end_stays root budget (c.end_law.ensures root budget listed) more base n o _ e (legal_cases root budget (c.end_law.ensures root budget listed) (more ++ base) legal).1
