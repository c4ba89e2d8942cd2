use Rattle.std.proofs.lemmas.List.Elements.{All-from_recursion}
use Rattle.leaf_cert.specs.Variables.{HasEntryVariablesBelow}
use Rattle.legal_ranges.proofs.Histories.{entries_below}
use Rattle.legal_ranges.proofs.laws.variables_law.Goals as goal

pub returns : goal.returns
returns c n root budget h listed below legal =
    All-from_recursion (HasEntryVariablesBelow n) h
    (entries_below n root budget listed below (λ h k d is. c.case_law.ensures.belongs root budget h k d listed is) h legal)
