use Rattle.std.proofs.Common.{rules, sym, ◌∙◌}
use Rattle.board_turns.proofs.Boards.{end_later}
use Rattle.board_turns.proofs.Settled.{goes_on, settled_once}
use Rattle.board_turns.proofs.settling.SettleJobJobBoard.act.Goals as goal

pub settle-requires : goal.settle-requires
settle-requires c =
    let root = c.root-root.ensures in
    let o = c.in_ok-outcome.outcome in
    let left = sym c.take.ensures.value ∙ c.in_ok-outcome.was in
    λ pending. end_later c.self.inside.seen c.args.board.now c.self.inside.n o (search rules) (search rules) root.list root.legal c.case_law.ensures.ends (c.self.invariant o left)

pub returns-clause-history : goal.returns-clause-history
returns-clause-history c = goes_on c.args.board.now c.settle.new.self c.self.inside.n c.in_ok-outcome.outcome c.settle.result c.settle.ensures.ok c.settle.ensures.err

pub returns-clause-test : goal.returns-clause-test
returns-clause-test c =
    let left = sym c.take.ensures.value ∙ c.in_ok-outcome.was in
    rw (← c.self.view_is, left) (settled_once c.self.inside.seen c.args.board.now c.settle.new.self c.self.inside.n c.in_ok-outcome.outcome c.settle.result (search rules) (search rules) c.settle.ensures.ok c.settle.ensures.err)
