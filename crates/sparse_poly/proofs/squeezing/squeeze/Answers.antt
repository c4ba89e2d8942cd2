use Rattle.std.proofs.Common.{rules, arith, ◌≡◌, ◌≤◌, ◌<◌, ◌++◌, to_z, of_z, ap, ◌∙◌}
use Rattle.std.specs.Int.{w128}
use Rattle.sparse_poly.specs.Contributions.{max_coeff}
use Rattle.sparse_poly.proofs.Merges.{no_next}
use Rattle.sparse_poly.proofs.Squeezes.{IsTakenFrom-both, Squeezed-start, Squeezed-dropped, Squeezed-pushed, Squeezed-heavy, Squeezed-end, zero_bits, apart_bits}
use Rattle.sparse_poly.proofs.squeezing.squeeze.Goals as goal

pub shares-init : goal.shares-init
shares-init c =
    let first : c.from-first.result.items ≡ c.args.first.items = search rules in
    let second : c.from-second.result.items ≡ c.args.second.items = search rules in
    record {
      squeezed = rw (c.in_ok-terms.ensures.items, first, second) (Squeezed-start _);
      first = rw first c.requires.first;
      second = rw second c.requires.second;
      room = search rules;
    }

pub returns-then-share : goal.returns-then-share
returns-then-share c =
    let heavy : max_coeff < c.in-Some.share.weight = omega (arith, c.if-share.true) in
    let taken = IsTakenFrom-both _ _ _ _ c.in-Some.share c.shares.invariant.first c.shares.invariant.second c.in-Some.ensures in
    Squeezed-heavy _ _ _ c.shares.terms.items c.in-Some.share c.shares.invariant.squeezed taken heavy

pub shares-preserved-then-share-ne0 : goal.shares-preserved-then-share-ne0
shares-preserved-then-share-ne0 c =
    let light : c.in-Some.share.weight ≤ max_coeff = omega (arith, c.if-share.false) in
    let same : to_z w128 (of_z w128 c.in-Some.share.sum) ≡ c.in-Some.share.sum = search rules in
    let taken = IsTakenFrom-both _ _ _ _ c.in-Some.share c.shares.invariant.first c.shares.invariant.second c.in-Some.ensures in
    let falling = c.in-Some.ensures.falling c.shares.invariant.first c.shares.invariant.second in
    record {
      squeezed = rw (c.push_reserved.ensures.items, same) (Squeezed-pushed _ _ _ _ c.in-Some.share c.shares.invariant.squeezed taken light (apart_bits _ c.if-share-ne0.true) c.len-powers.ensures.monomial);
      first = falling.0;
      second = falling.1;
      room = omega (arith, c.push_reserved.ensures.len, c.push_reserved.ensures.capacity, c.in-Some.ensures.shorter, c.shares.invariant.room);
    }

pub shares-preserved-else-share-ne0 : goal.shares-preserved-else-share-ne0
shares-preserved-else-share-ne0 c =
    let light : c.in-Some.share.weight ≤ max_coeff = omega (arith, c.if-share.false) in
    let taken = IsTakenFrom-both _ _ _ _ c.in-Some.share c.shares.invariant.first c.shares.invariant.second c.in-Some.ensures in
    let falling = c.in-Some.ensures.falling c.shares.invariant.first c.shares.invariant.second in
    record {
      squeezed = Squeezed-dropped _ _ _ _ c.in-Some.share c.shares.invariant.squeezed taken light (zero_bits _ (search rules) c.if-share-ne0.false);
      first = falling.0;
      second = falling.1;
      room = omega (arith, c.in-Some.ensures.shorter, c.shares.invariant.room);
    }

pub shares-preserved : goal.shares-preserved
shares-preserved c =
    let light : c.in-Some.share.weight ≤ max_coeff = omega (arith, c.if-share.false) in
    let taken = IsTakenFrom-both _ _ _ _ c.in-Some.share c.shares.invariant.first c.shares.invariant.second c.in-Some.ensures in
    let falling = c.in-Some.ensures.falling c.shares.invariant.first c.shares.invariant.second in
    record {
      squeezed = Squeezed-dropped _ _ _ _ c.in-Some.share c.shares.invariant.squeezed taken light (zero_bits _ (search rules) c.if-share-ne0.false);
      first = falling.0;
      second = falling.1;
      room = omega (arith, c.in-Some.ensures.shorter, c.shares.invariant.room);
    }

pub returns : goal.returns
returns c =
    let ended = no_next _ _ _ _ c.next_share.result c.in_default.not-Some c.next_share.ensures in
    rw c.trimmed.ensures (Squeezed-end _ _ c.shares.terms.items c.shares.invariant.squeezed (ap (λ xs. xs ++ c.shares.second.items) ended.0 ∙ ended.1))
