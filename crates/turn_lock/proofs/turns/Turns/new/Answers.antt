use Rattle.std.proofs.Common.{rules, ◌≡◌, List, [], ◌∷◌, Some, Option, map, sym, ap, ◌∙◌, subst}
use mathlib.Core.Option.{some}
use Rattle.turn_lock.specs.Turn.{IsKept, newcomer}
use Rattle.turn_lock.proofs.Moves.{opens}
use Rattle.turn_lock.proofs.Standing.{SeatStands, seat_origin, nothing_stands}
use Rattle.turn_lock.proofs.turns.Turns.new.Goals as goal

pub new-requires : goal.new-requires
new-requires g c =
    let V = g.row.V.Denot in let E = g.row.V-Entry.Denot in let O = g.row.V-Origin.Denot in
    let origin = g.V.Kept.origin in let history = g.V.Kept.history in
    let items : c.push_reserved.new.self.items ≡ Some c.args.value ∷ [] = search rules in
    subst (λ (p : V × List (Option V)). IsKept origin history (origin p.0) (0 ∷ []) (map (λ (x : Option V). some x) p.1) ((newcomer (origin p.0) (history p.0) ∷ []) ∷ []))
    (λ i. (sym c.of-key.ensures i, sym items i)) (opens origin history c.args.value)

pub returns-in-Ok-new-clause-lock : goal.returns-in-Ok-new-clause-lock
returns-in-Ok-new-clause-lock g c =
    let origin = g.V.Kept.origin in let e = c.in-Ok-new.ensures.ok in
    let key : origin c.in-Ok-new.table.shared.key.value ≡ origin c.of-key.result.value = λ i. origin (e.5 i).value in (
      key ∙ ap origin c.of-key.ensures,
      (e.2, ap seat_origin e.4 ∙ ap (λ (o : g.row.V-Origin.Denot). Some o) (sym key), subst SeatStands (sym e.4) (nothing_stands (g.V.Kept.history c.of-key.result.value))),
    )
