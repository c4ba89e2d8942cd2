use Rattle.field_laws.proofs.StoredValues.{same_value}
use Rattle.field_laws.proofs.decide_law.Goals as goal

pub returns : goal.returns
returns g c = same_value g.row.F-El.coded
