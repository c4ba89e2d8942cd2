use Rattle.std.proofs.Common.{◌==◌, ℕ, List, [], ◌<◌, Option, sym, subst, arith}
use prog.Atomic.{either}
use Rattle.atomic_table.specs.Table.{Me, Allows}
use Rattle.turn_lock.specs.declared.view.View.{View}
use Rattle.turn_lock.specs.Turn.{Tries}
use Rattle.turn_lock.proofs.Moves.{Rule, tries}
use Rattle.turn_lock.proofs.turns.Turns.try_turn.Goals as goal

pub compare_exchange-requires : goal.compare_exchange-requires
compare_exchange-requires g c =
    let V = g.row.V.Denot in let E = g.row.V-Entry.Denot in let O = g.row.V-Origin.Denot in
    let one = c.args.self.now.one in let r = c.requires in let v = r.1.0 in
    let o = g.V.Kept.origin c.args.self.now.table.shared.key.value in (
      r.0,
      subst (λ (n : ℕ). 0 < n) (sym one.0) (omega arith),
      subst (λ (p : ℕ × Me (Option V) (List (View E O))). Allows (Rule g.V.Kept.origin g.V.Kept.history o) p.0 c.args.seat.now.id p.1 0 (λ n. either (n == 0) 1 n) (λ n new. Tries g.V.Kept.origin g.V.Kept.history p.1 n new))
          (λ i. (sym one.1 i, sym r.1.1 i)) (tries g.V.Kept.origin g.V.Kept.history o c.args.seat.now.id v []),
    )
