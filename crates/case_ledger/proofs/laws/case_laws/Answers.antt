use Rattle.case_ledger.proofs.laws.case_laws.Goals as goal

pub returns : goal.returns
returns c root budget listed = record {
  ends = c.end_law.ensures root budget listed;
  replays = λ h legal. c.legal_law.ensures root budget h listed legal;
  belongs = λ h n d is. c.case_law.ensures.belongs root budget h n d listed is;
  few = λ h n d is. c.case_law.ensures.few root budget h n d listed is;
  one = λ h n d other is is_other. c.case_law.ensures.one root budget h n d other listed is is_other;
}
