use Rattle.case_history.specs.History.{IsPending}
use Rattle.legal_history.proofs.Serial.{grows_more, grows_on}
use Rattle.legal_history.proofs.laws.growth_law.Goals as goal

pub returns-clause-begins : goal.returns-clause-begins
returns-clause-begins c root budget base h grows = grows_more root budget IsPending base h grows

pub returns-clause-on : goal.returns-clause-on
returns-clause-on c root budget base middle h first second = grows_on root budget IsPending base middle h first second
