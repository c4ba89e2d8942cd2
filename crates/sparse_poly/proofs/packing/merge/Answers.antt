use Rattle.std.proofs.Common.{arith, rules, ◌≡◌, ◌<◌, ◌≤◌, ◌++◌, ◌-◌, length, take, drop, sym, ap, subst, ◌∙◌}
use Rattle.std.proofs.lemmas.Slice.{between_to_end}
use mathlib.Core.Logic.{◌⊎◌, inl, inr}
use Rattle.sparse_poly.specs.declared.packed_entry.PackedShare.{PackedShare}
use Rattle.sparse_poly.proofs.Packings.{same_read, PackedMerging-first, PackedMerging-second, PackedMerging-both, PackedMerging-end}
use Rattle.sparse_poly.proofs.packing.merge.Goals.{then-both-test+else-j-second, else-both-test}
use Rattle.sparse_poly.proofs.packing.merge.Goals as goal

pub both-preserved-in-Less : goal.both-preserved-in-Less
both-preserved-in-Less c =
    let raw : c.index-first-i.result.word < c.index-second-j.result.word = search rules in
    let same = same_read c.args.second.now c.both.j c.index-second-j.result c.index-second-j-in-Less.result c.if-j-second.true c.index-second-j.is c.index-second-j-in-Less.is in
    let less = subst (λ (s : PackedShare). c.index-first-i.result.word < s.word) same raw in
    record {
      merging = rw c.push_reserved.ensures.items (PackedMerging-second _ _ c.both.shares.items c.both.i c.both.j c.index-first-i.result c.index-second-j-in-Less.result c.both-test.true c.if-j-second.true c.index-first-i.is c.index-second-j-in-Less.is less c.both.invariant.merging);
      room = omega (arith, c.push_reserved.ensures.len, c.push_reserved.ensures.capacity, c.both.invariant.room, c.if-j-second.true);
    }

pub both-preserved-in-Equal : goal.both-preserved-in-Equal
both-preserved-in-Equal c =
    let raw : c.index-first-i.result.word ≡ c.index-second-j.result.word = search rules in
    let first = same_read c.args.first.now c.both.i c.index-first-i.result c.index-first-i-in-Equal.result c.both-test.true c.index-first-i.is c.index-first-i-in-Equal.is in
    let second = same_read c.args.second.now c.both.j c.index-second-j.result c.index-second-j-in-Equal.result c.if-j-second.true c.index-second-j.is c.index-second-j-in-Equal.is in
    let equal : c.index-first-i-in-Equal.result.word ≡ c.index-second-j-in-Equal.result.word = ap (λ (s : PackedShare). s.word) (sym first) ∙ raw ∙ ap (λ (s : PackedShare). s.word) second in
    record {
      merging = rw c.push_reserved-in-Equal.ensures.items (PackedMerging-both _ _ c.both.shares.items c.both.i c.both.j c.index-first-i-in-Equal.result c.index-second-j-in-Equal.result c.joined.result c.both-test.true c.if-j-second.true c.index-first-i-in-Equal.is c.index-second-j-in-Equal.is equal c.joined.ensures.word c.joined.ensures.sum c.both.invariant.merging);
      room = omega (arith, c.push_reserved-in-Equal.ensures.len, c.push_reserved-in-Equal.ensures.capacity, c.both.invariant.room, c.both-test.true, c.if-j-second.true);
    }

pub both-preserved : goal.both-preserved
both-preserved c =
    let raw : c.index-second-j.result.word < c.index-first-i.result.word = search rules in
    let same = same_read c.args.first.now c.both.i c.index-first-i.result c.index-first-i-in-Greater.result c.both-test.true c.index-first-i.is c.index-first-i-in-Greater.is in
    let more = subst (λ (s : PackedShare). c.index-second-j.result.word < s.word) same raw in
    record {
      merging = rw c.push_reserved-in-Greater.ensures.items (PackedMerging-first _ _ c.both.shares.items c.both.i c.both.j c.index-first-i-in-Greater.result c.index-second-j.result c.both-test.true c.if-j-second.true c.index-first-i-in-Greater.is c.index-second-j.is more c.both.invariant.merging);
      room = omega (arith, c.push_reserved-in-Greater.ensures.len, c.push_reserved-in-Greater.ensures.capacity, c.both.invariant.room, c.both-test.true);
    }

pub returns : goal.returns
returns c =
    let ended : (length c.args.first.now ≤ c.both.i) ⊎ (length c.args.second.now ≤ c.both.j) = elim c.both-test.branch [
      | then-both-test+else-j-second w ↦ inr (omega (arith, w.if-j-second.false))
      | else-both-test w ↦ inl (omega (arith, w.both-test.false))
    ] in
    let items : c.extend_from_slice-2.new.self.items ≡ (c.both.shares.items ++ drop c.both.i c.args.first.now) ++ drop c.both.j c.args.second.now =
    c.in_ok-extend_from_slice-2.ensures.items
    ∙ ap (λ zs. zs ++ take (length c.args.second.now - c.both.j) (drop c.both.j c.args.second.now)) (c.in_ok-extend_from_slice.ensures.items ∙ ap (λ zs. c.both.shares.items ++ zs) (between_to_end c.args.first.now c.both.i (length c.args.first.now) (omega arith)))
    ∙ ap (λ zs. (c.both.shares.items ++ drop c.both.i c.args.first.now) ++ zs) (between_to_end c.args.second.now c.both.j (length c.args.second.now) (omega arith)) in
    rw items (PackedMerging-end _ _ c.both.shares.items c.both.i c.both.j ended c.both.invariant.merging)
