use Rattle.std.proofs.Common.{◌∙◌}
use Rattle.turn_lock.proofs.Idle.{one_of, origin_one}
use Rattle.turn_lock.proofs.Standing.{merged_origin, merged_stands}
use Rattle.turn_lock.proofs.turns.Turns.join_seat.Goals as goal

pub merge-requires-clause-seat : goal.merge-requires-clause-seat
merge-requires-clause-seat g c =
    let s = c.args.seat.now in let one = one_of s.seat.me.0 s.idle.0 in
    (c.requires.seat.0, (one.view, (λ i. (one.is i, s.idle.1 i)), origin_one one.view s.seat.me.0 _ one.is c.requires.seat.1, one.idle))

pub merge-requires-clause-other : goal.merge-requires-clause-other
merge-requires-clause-other g c =
    let s = c.args.other in let one = one_of s.seat.me.0 s.idle.0 in
    (c.requires.other.0, (one.view, (λ i. (one.is i, s.idle.1 i)), origin_one one.view s.seat.me.0 _ one.is c.requires.other.1, one.idle))

pub returns-clause-seat : goal.returns-clause-seat
returns-clause-seat g c =
    let m = c.merge.ensures in let r = c.requires.seat in
    (m.table ∙ r.0, merged_origin _ _ _ m.merged ∙ r.1, merged_stands _ _ _ m.merged r.2 c.requires.other.2)
