use Rattle.std.proofs.Common.{◌≡◌, ◌<◌, ℕ, List, [], ◌∷◌, ◌++◌, Option, sym, ap, ◌∙◌, subst, arith}
use Rattle.atomic_table.specs.Table.{Me, Allows, Joins}
use Rattle.turn_lock.specs.declared.view.View.{View}
use Rattle.turn_lock.specs.Turn.{Merges}
use Rattle.turn_lock.proofs.Moves.{Rule}
use Rattle.turn_lock.proofs.Joining.{joins, merges, has_merged}
use Rattle.turn_lock.proofs.turns.Turns.merge.Goals as goal

pub join_seat-requires : goal.join_seat-requires
join_seat-requires g c =
    let V = g.row.V.Denot in let E = g.row.V-Entry.Denot in let O = g.row.V-Origin.Denot in
    let origin = g.V.Kept.origin in let history = g.V.Kept.history in let o = origin c.args.self.now.table.shared.key.value in
    let r = c.requires.seat in let q = c.requires.other in (
      r.0,
      q.0,
      ap (λ (m : Me (Option V) (List (View E O))). m.1) q.1.1,
      subst (λ (n : ℕ). 0 < n) (sym c.args.self.now.one.0) (omega arith),
      subst (λ (p : List (View E O) × List (View E O)). Joins (Rule origin history o) c.args.seat.now.id p.0 c.args.other.id p.1 (p.0 ++ p.1) [])
          (λ i. ((sym r.1.1 i).0, (sym q.1.1 i).0)) (joins origin history o c.args.seat.now.id r.1.0 c.args.other.id q.1.0 r.1.3 q.1.3),
    )

pub load-requires : goal.load-requires
load-requires g c =
    let V = g.row.V.Denot in let E = g.row.V-Entry.Denot in let O = g.row.V-Origin.Denot in
    let origin = g.V.Kept.origin in let history = g.V.Kept.history in let o = origin c.args.self.now.table.shared.key.value in
    let one = c.args.self.now.one in let r = c.requires.seat in let q = c.requires.other in let j = c.join_seat.ensures in
    let is : c.join_seat.new.seat.me ≡ (r.1.0 ∷ q.1.0 ∷ [], []) = j.2 ∙ (λ i. ((r.1.1 i).0 ++ (q.1.1 i).0, (r.1.1 i).1)) in (
      j.0 ∙ r.0,
      subst (λ (n : ℕ). 0 < n) (sym one.0) (omega arith),
      subst (λ (p : ℕ × Me (Option V) (List (View E O))). Allows (Rule origin history o) p.0 c.join_seat.new.seat.id p.1 0 (λ n. n) (λ n new. Merges {V = V} p.1 new))
          (λ i. (sym one.1 i, sym is i)) (merges origin history o c.join_seat.new.seat.id r.1.0 q.1.0 r.1.3),
    )

pub returns-clause-merged : goal.returns-clause-merged
returns-clause-merged g c =
    let V = g.row.V.Denot in let E = g.row.V-Entry.Denot in let O = g.row.V-Origin.Denot in
    let r = c.requires.seat in let q = c.requires.other in let j = c.join_seat.ensures in
    let is : c.join_seat.new.seat.me ≡ (r.1.0 ∷ q.1.0 ∷ [], []) = j.2 ∙ (λ i. ((r.1.1 i).0 ++ (q.1.1 i).0, (r.1.1 i).1)) in
    has_merged r.1.0 q.1.0 c.args.seat.now.me c.args.other.me c.join_seat.new.seat.me c.load.new.seat.me r.1.1 q.1.1 is c.load.ensures.2
