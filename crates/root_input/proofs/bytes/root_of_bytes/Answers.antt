use Rattle.std.proofs.lemmas.Result.{err_from_is_err_and}
use Rattle.root_input.proofs.Readings.{problem_stopped, root_stopped}
use Rattle.root_input.proofs.bytes.root_of_bytes.Goals as goal

pub returns-in_err-problem : goal.returns-in_err-problem
returns-in_err-problem c =
    let p = err_from_is_err_and c.from_residual.result c.from_residual.ensures.1 in
    rw (p.1, p.2) (problem_stopped c.args.bytes.now c.in_err-problem.field-0.0 c.in_err-problem.ensures)

pub returns-in_err-new : goal.returns-in_err-new
returns-in_err-new c =
    let p = err_from_is_err_and c.from_residual-in_err-new.result c.from_residual-in_err-new.ensures.1 in
    rw (p.1, p.2) (root_stopped c.args.bytes.now c.in_ok-problem.problem c.in_err-new.field-0.0 c.in_ok-problem.ensures c.in_err-new.ensures)
