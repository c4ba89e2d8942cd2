use Rattle.std.proofs.Common.{◌<◌, ℕ, List, sym, ap, ◌∙◌, subst, arith}
use Rattle.atomic_table.specs.Table.{Splits}
use Rattle.turn_lock.specs.declared.view.View.{View}
use Rattle.turn_lock.specs.Turn.{newcomers}
use Rattle.turn_lock.proofs.Moves.{Rule, splits}
use Rattle.turn_lock.proofs.Idle.{one_of}
use Rattle.turn_lock.proofs.Standing.{SeatStands, seat_origin, newcomers_origin, newcomers_stand}
use Rattle.turn_lock.proofs.turns.Turns.split_seat.Goals as goal

pub split_seat-requires : goal.split_seat-requires
split_seat-requires g c =
    let E = g.row.V-Entry.Denot in let O = g.row.V-Origin.Denot in
    let s = c.args.seat.now in let one = one_of s.seat.me.0 s.idle.0 in
    let o = g.V.Kept.origin c.args.self.now.table.shared.key.value in (
      c.requires.seat.0,
      subst (λ (n : ℕ). 0 < n) (sym c.args.self.now.one.0) (omega arith),
      subst (λ (l : List (View E O)). Splits (Rule g.V.Kept.origin g.V.Kept.history o) s.seat.id l l (newcomers l)) (sym one.is) (splits g.V.Kept.origin g.V.Kept.history o s.seat.id one.view),
    )

pub returns-clause-seat : goal.returns-clause-seat
returns-clause-seat g c =
    let e = c.split_seat.ensures in let r = c.requires.seat in let vs = c.args.seat.now.seat.me.0 in (
      (e.0 ∙ r.0, ap seat_origin e.2 ∙ r.1, subst SeatStands (sym e.2) r.2),
      (e.3 ∙ r.0, ap seat_origin e.4 ∙ newcomers_origin vs ∙ r.1, subst SeatStands (sym e.4) (newcomers_stand vs)),
    )
