use Rattle.case_rules.proofs.Belonging.{root_belongs, reduced_belongs}
use Rattle.case_rules.proofs.EndsBelong.{branch_belongs, split_whole}
use Rattle.case_rules.proofs.laws.belongs_law.Goals as goal

pub returns : goal.returns
returns c = record {
  root = λ root h. root_belongs root h;
  reduction = λ root d q p v e can r b. reduced_belongs root d q p v e can r b;
  branch = λ root d by way tail e h can r b. branch_belongs root d by way tail e can (split_whole d by tail h can) r b;
}
