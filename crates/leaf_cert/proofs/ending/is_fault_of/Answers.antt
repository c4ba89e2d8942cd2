use Rattle.std.proofs.Common.{sym, subst}
use Rattle.std.specs.Prelude.{◌↔◌, IfOk, IsTrue}
use Rattle.leaf_cert.specs.declared.ending.Limit.{Limit}
use Rattle.leaf_cert.specs.Limits.{IsOver}
use Rattle.leaf_cert.proofs.ending.is_fault_of.Goals as goal

pub returns-in-Degree : goal.returns-in-Degree
returns-in-Degree c = λ cs f. subst (λ (l : Limit). IfOk c.is_degree.result (λ b. IsTrue b ↔ IsOver l cs)) (sym c.in-Degree.is) (c.is_degree.ensures cs f)

pub returns-in-Coefficient : goal.returns-in-Coefficient
returns-in-Coefficient c = λ cs f. subst (λ (l : Limit). IfOk c.is_heavy.result (λ b. IsTrue b ↔ IsOver l cs)) (sym c.in-Coefficient.is) (c.is_heavy.ensures cs f)
