use Rattle.std.proofs.Common.{◌≡◌, List, [], ◌∷◌, Option, Some, sym, ap, ◌∙◌, subst, refl}
use Rattle.atomic_table.specs.Table.{Me, rest}
use Rattle.turn_lock.specs.declared.view.View.{View}
use Rattle.turn_lock.proofs.Turning.{has_slot, has_taken}
use Rattle.turn_lock.proofs.turns.Turns.take_value.Goals as goal

pub exchange-requires : goal.exchange-requires
exchange-requires g c =
    let V = g.row.V.Denot in let E = g.row.V-Entry.Denot in let O = g.row.V-Origin.Denot in
    let t = c.take_turn.ensures.turn in
    let none : c.args.seat.now.me.1 ≡ [] = ap (λ (m : Me (Option V) (List (View E O))). m.1) c.requires.1.1 in
    let held = has_slot g.V.Kept.origin g.V.Kept.history c.args.seat.now.me c.take_turn.new.seat.me none t in
    (c.take_turn.ensures.table ∙ c.requires.0, (Some t.value, subst (λ (m : Me (Option V) (List (View E O))). m.1 ≡ (0, Some t.value) ∷ rest m.1) (sym held) refl))

pub returns-clause-taken : goal.returns-clause-taken
returns-clause-taken g c =
    let V = g.row.V.Denot in let E = g.row.V-Entry.Denot in let O = g.row.V-Origin.Denot in
    let none : c.args.seat.now.me.1 ≡ [] = ap (λ (m : Me (Option V) (List (View E O))). m.1) c.requires.1.1 in
    let e = c.exchange.ensures in
    has_taken g.V.Kept.origin g.V.Kept.history c.args.seat.now.me c.take_turn.new.seat.me c.exchange.new.seat.me c.exchange.result c.in-Some.value none c.take_turn.ensures.turn e.2 e.3 c.in-Some.is
