use Rattle.std.proofs.Common.{List, ◌∙◌, subst}
use mathlib.Core.List.{IsPrefix}
use Rattle.turn_lock.proofs.Idle.{one_of, origin_one, seen_one}
use Rattle.turn_lock.proofs.Standing.{acted_origin, acted_stands}
use Rattle.turn_lock.proofs.turns.Turns.with_turn.Goals as goal

pub act_at_turn-requires-clause-seat : goal.act_at_turn-requires-clause-seat
act_at_turn-requires-clause-seat g c =
    let s = c.args.seat.now in let one = one_of s.seat.me.0 s.idle.0 in
    (c.requires.seat.0, (one.view, (λ i. (one.is i, s.idle.1 i)), origin_one one.view s.seat.me.0 _ one.is c.requires.seat.1, one.idle))

pub act_at_turn-requires-clause-base : goal.act_at_turn-requires-clause-base
act_at_turn-requires-clause-base g c =
    let s = c.args.seat.now in let one = one_of s.seat.me.0 s.idle.0 in
    (one.view, (λ i. (one.is i, s.idle.1 i)), subst (λ (l : List g.row.V-Entry.Denot). IsPrefix (g.J.Job.base c.args.job.now) l) (seen_one one.view s.seat.me.0 one.is) c.requires.base)

pub returns-clause-seat : goal.returns-clause-seat
returns-clause-seat g c =
    let a = c.act_at_turn.ensures in let r = c.requires.seat in
    (a.table ∙ r.0, acted_origin _ _ _ _ a.turn ∙ r.1, acted_stands _ _ _ _ a.turn r.2)
