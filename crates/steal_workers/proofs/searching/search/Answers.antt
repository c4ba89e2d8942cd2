use Rattle.steal_workers.proofs.Continuing.{continues_on}
use Rattle.steal_workers.proofs.searching.search.Goals as goal

pub returns-clause-goes_on : goal.returns-clause-goes_on
returns-clause-goes_on g c = continues_on c.args.board c.in_ok-board.board c.finish.new.board c.in_ok-board.ensures.goes_on c.in_ok-finish.ensures.goes_on
