use Rattle.std.proofs.Common.{subst, ◌++◌}
use Rattle.sparse_poly.specs.Contributions.{IsResult, IsFault}
use Rattle.sparse_poly.proofs.Rows.{degree_of-sum, sum_contributions, no_high}
use Rattle.sparse_poly.proofs.multiplying.added.Goals as goal

pub returns-in-Ok-clause-answer : goal.returns-in-Ok-clause-answer
returns-in-Ok-clause-answer c =
    subst (λ cs. IsResult cs c.in-Ok.terms.items) (sum_contributions _ _ _ _ c.constant_term.ensures c.constant_term-2.ensures) c.in-Ok.ensures

pub returns-clause-answer : goal.returns-clause-answer
returns-clause-answer c =
    subst (λ cs. IsFault cs c.in-Err.fault) (sum_contributions _ _ _ _ c.constant_term.ensures c.constant_term-2.ensures) c.in-Err.ensures

pub returns-clause-degree : goal.returns-clause-degree
returns-clause-degree c =
    no_high (c.args.first.now ++ c.args.second.now) c.in-Err.fault (degree_of-sum _ _ c.requires.first_poly.monomials c.requires.second_poly.monomials)
    (subst (λ cs. IsFault cs c.in-Err.fault) (sum_contributions _ _ _ _ c.constant_term.ensures c.constant_term-2.ensures) c.in-Err.ensures)
