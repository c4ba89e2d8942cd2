use Rattle.case_rules.proofs.EndsBelong.{end_laws}
use Rattle.case_rules.proofs.laws.end_law.Goals as goal

pub returns : goal.returns
returns c = λ root budget h. end_laws
    (λ root. record { good = λ ds ls end r m x k. c.good_cone_law.ensures.good root ds ls end r m x k; within = λ ds ls end r k. c.good_cone_law.ensures.within root ds ls end r k })
    (λ units list n steps others m x y. c.remainder_answer_law.ensures.one_remainder units list n steps others m x y)
    (λ root ds ls end r s x y. c.cone_law.ensures root ds ls end r s x y) root budget h
