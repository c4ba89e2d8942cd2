use Rattle.std.proofs.Common.{◌≡◌, ◌<◌, ℕ, List, ◌∷◌, Option, None, sym, ◌∙◌, subst, refl, arith}
use Rattle.atomic_table.specs.Table.{Me, rest, Allows}
use Rattle.turn_lock.specs.declared.view.View.{View}
use Rattle.turn_lock.specs.Turn.{Releases, at_turn}
use Rattle.turn_lock.proofs.Moves.{Rule, releases}
use Rattle.turn_lock.proofs.Turning.{put_back, released}
use Rattle.turn_lock.proofs.turns.Turns.act_at_turn.Goals as goal

pub exchange-requires : goal.exchange-requires
exchange-requires g c =
    let V = g.row.V.Denot in let E = g.row.V-Entry.Denot in let O = g.row.V-Origin.Denot in
    let t = c.take_value-value.ensures.taken in
    (c.take_value-value.ensures.table ∙ c.requires.seat.0, (None, subst (λ (m : Me (Option V) (List (View E O))). m.1 ≡ (0, None) ∷ rest m.1) (sym t.is) refl))

pub swap-requires : goal.swap-requires
swap-requires g c =
    let V = g.row.V.Denot in let E = g.row.V-Entry.Denot in let O = g.row.V-Origin.Denot in
    let origin = g.V.Kept.origin in let history = g.V.Kept.history in
    let one = c.args.self.now.one in let o = origin c.args.self.now.table.shared.key.value in
    let t = c.take_value-value.ensures.taken in let e = c.exchange.ensures in let x = c.take_value-value.result in let y = c.act-reply.new.value in
    let is = put_back origin history c.args.seat.now.me c.take_value-value.new.seat.me c.exchange.new.seat.me x y t e.3 in
    let v : View E O = at_turn t.mine (history x) in (
      e.0 ∙ c.take_value-value.ensures.table ∙ c.requires.seat.0,
      subst (λ (n : ℕ). 0 < n) (sym one.0) (omega arith),
      subst (λ (p : ℕ × Me (Option V) (List (View E O))). Allows (Rule origin history o) p.0 c.exchange.new.seat.id p.1 0 (λ n. 0) (λ n new. Releases history p.1 new))
          (λ i. (sym one.1 i, sym is i)) (releases origin history o c.exchange.new.seat.id v y refl (c.act-reply.ensures.origin ∙ t.origin_is) c.act-reply.ensures.history),
    )

pub returns-clause-turn : goal.returns-clause-turn
returns-clause-turn g c =
    let origin = g.V.Kept.origin in let history = g.V.Kept.history in
    let t = c.take_value-value.ensures.taken in let x = c.take_value-value.result in let y = c.act-reply.new.value in
    let is = put_back origin history c.args.seat.now.me c.take_value-value.new.seat.me c.exchange.new.seat.me x y t c.exchange.ensures.3 in
    record {
      mine = t.mine;
      found = history x;
      left = history y;
      was = t.was;
      begins = t.begins;
      goes_on = c.act-reply.ensures.history;
      is = released origin history (at_turn t.mine (history x)) y c.exchange.new.seat.me c.swap.new.seat.me is c.swap.ensures.2;
      meets = c.act-reply.ensures.test;
    }
