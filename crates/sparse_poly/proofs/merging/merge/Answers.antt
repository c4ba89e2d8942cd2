use Rattle.std.proofs.Common.{rules, arith, ◌≡◌}
use Rattle.sparse_poly.proofs.Merges.{Merging-start, Merging-more, Merging-end, no_next}
use Rattle.sparse_poly.proofs.merging.merge.Goals as goal

pub both-init : goal.both-init
both-init c =
    let first : c.from-first.result.items ≡ c.args.first.items = search rules in
    let second : c.from-second.result.items ≡ c.args.second.items = search rules in
    record {
      merging = rw (c.in_ok-shares.ensures.items, first, second) (Merging-start _ _);
      room = search rules;
    }

pub both-preserved : goal.both-preserved
both-preserved c = record {
  merging = rw c.push_reserved.ensures.items (Merging-more _ _ _ _ _ _ _ c.in-Some.share c.both.invariant.merging c.in-Some.ensures);
  room = omega (arith, c.push_reserved.ensures.len, c.push_reserved.ensures.capacity, c.in-Some.ensures.shorter, c.both.invariant.room);
}

pub returns : goal.returns
returns c = Merging-end _ _ c.both.first.items c.both.second.items c.both.shares.items c.both.invariant.merging (no_next _ _ _ _ c.next_share.result c.in_default.not-Some c.next_share.ensures)
