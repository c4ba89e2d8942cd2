use Rattle.std.specs.Prelude.{List}
use Rattle.std.proofs.Common.{subst, ◌∙◌}
use mathlib.Core.List.{IsPrefix}
use Rattle.leaf_cert.specs.declared.certificate.RawEntry.{RawEntry}
use Rattle.turn_lock.specs.Lock.{seat_seen}
use Rattle.turn_lock.proofs.Prefixes.{prefix_trans}
use Rattle.steal_workers.proofs.Continuing.{continues_by}
use Rattle.steal_workers.proofs.pool.run_workers.Goals as goal

pub returns-clause-board : goal.returns-clause-board
returns-clause-board g c =
    let made = c.in_ok-turns.ensures in
    let last = seat_seen c.run_all.new.seat in
    let worked = subst (λ (h : List RawEntry). IsPrefix h last) (c.seat_all-seated.ensures.seen ∙ made.seat.0) c.run_all.ensures.seen in
    continues_by c.args.board c.close-board.result (c.close-board.ensures.origin ∙ made.lock.0) (prefix_trans _ _ _ worked c.close-board.ensures.history)
