use Rattle.turn_lock.proofs.Idle.{one_of, origin_one}
use Rattle.turn_lock.proofs.turns.Turns.close.Goals as goal

pub take_value-requires : goal.take_value-requires
take_value-requires g c =
    let s = c.args.seat in let one = one_of s.seat.me.0 s.idle.0 in
    (c.requires.seat.0, (one.view, (λ i. (one.is i, s.idle.1 i)), origin_one one.view s.seat.me.0 _ one.is c.requires.seat.1, one.idle))
