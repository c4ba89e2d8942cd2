use Rattle.root_input.proofs.Stops.{AreOneAnswer, same_root, no_stop, one_stop}
use Rattle.root_input.proofs.laws.root_stop_law.Goals as goal

pub returns-clause-one_problem : goal.returns-clause-one_problem
returns-clause-one_problem c bytes problem other root twin h i = c.problem_answer_law.ensures.problem bytes problem other h.is_problem i.is_problem

pub returns-clause-one_root : goal.returns-clause-one_root
returns-clause-one_root c bytes problem other root twin h i =
    let problems = c.problem_answer_law.ensures in
    let roots = c.root_answer_law.ensures in
    let laws : AreOneAnswer = record { no_fault = problems.ok; one_fault = problems.one; one_problem = problems.problem; one_root = roots.one_root; no_root_fault = roots.no_fault; one_root_fault = roots.one_fault } in
    same_root laws bytes problem other root twin h i

pub returns-clause-no_stop : goal.returns-clause-no_stop
returns-clause-no_stop c bytes problem root stop h i =
    let problems = c.problem_answer_law.ensures in
    let roots = c.root_answer_law.ensures in
    let laws : AreOneAnswer = record { no_fault = problems.ok; one_fault = problems.one; one_problem = problems.problem; one_root = roots.one_root; no_root_fault = roots.no_fault; one_root_fault = roots.one_fault } in
    no_stop laws bytes problem root stop h i

pub returns-clause-one_stop : goal.returns-clause-one_stop
returns-clause-one_stop c bytes stop other h i apart away =
    let problems = c.problem_answer_law.ensures in
    let roots = c.root_answer_law.ensures in
    let laws : AreOneAnswer = record { no_fault = problems.ok; one_fault = problems.one; one_problem = problems.problem; one_root = roots.one_root; no_root_fault = roots.no_fault; one_root_fault = roots.one_fault } in
    one_stop laws bytes stop other h i apart away
