use Rattle.std.proofs.Common.{rules, arith, ◌≡◌, ◌≤◌, ◌<◌, to_z, of_z, ap}
use Rattle.std.specs.Int.{w128}
use Rattle.sparse_poly.specs.Contributions.{max_coeff}
use Rattle.monomial.specs.Layouts.{monomial_of}
use Rattle.sparse_poly.specs.Packed.{share_read, shares_read}
use Rattle.monomial.proofs.Words.{IsMonomial-monomial_of}
use Rattle.sparse_poly.proofs.PackedSources.{IsTakenFrom-read, under_after, none_left}
use Rattle.sparse_poly.proofs.Squeezes.{Squeezed-start, Squeezed-dropped, Squeezed-pushed, Squeezed-heavy, Squeezed-end, zero_bits, apart_bits}
use Rattle.sparse_poly.proofs.packing.squeeze.Goals as goal

pub shares-init : goal.shares-init
shares-init g c = record {
  squeezed = rw c.in_ok-terms.ensures.items (Squeezed-start _);
  falls = c.requires.falls;
  words = c.requires.words;
}

pub returns-then-share : goal.returns-then-share
returns-then-share g c =
    let vs = c.args.layout.now in
    let heavy : max_coeff < c.in-Some.share.weight = omega (arith, c.if-share.true) in
    let taken = IsTakenFrom-read vs _ _ c.in-Some.share c.requires.layout c.shares.invariant.words c.in-Some.ensures.next in
    rw c.of_word.ensures (Squeezed-heavy _ _ _ c.shares.terms.items (share_read (monomial_of vs) c.in-Some.share) c.shares.invariant.squeezed taken heavy)

pub shares-preserved-then-share-eq0 : goal.shares-preserved-then-share-eq0
shares-preserved-then-share-eq0 g c =
    let vs = c.args.layout.now in
    let light : c.in-Some.share.weight ≤ max_coeff = omega (arith, c.if-share.false) in
    let taken = IsTakenFrom-read vs _ _ c.in-Some.share c.requires.layout c.shares.invariant.words c.in-Some.ensures.next in
    record {
      squeezed = Squeezed-dropped _ _ _ _ (share_read (monomial_of vs) c.in-Some.share) c.shares.invariant.squeezed taken light (zero_bits _ (search rules) c.if-share-eq0.true);
      falls = c.in-Some.ensures.falls;
      words = under_after _ _ _ c.in-Some.share c.shares.invariant.words c.in-Some.ensures.next;
    }

pub shares-preserved : goal.shares-preserved
shares-preserved g c =
    let vs = c.args.layout.now in
    let light : c.in-Some.share.weight ≤ max_coeff = omega (arith, c.if-share.false) in
    let same : to_z w128 (of_z w128 c.in-Some.share.sum) ≡ c.in-Some.share.sum = search rules in
    let taken = IsTakenFrom-read vs _ _ c.in-Some.share c.requires.layout c.shares.invariant.words c.in-Some.ensures.next in
    record {
      squeezed = rw (c.in_ok-push.ensures.items, same, c.of_word-in-Some.ensures) (Squeezed-pushed _ _ _ _ (share_read (monomial_of vs) c.in-Some.share) c.shares.invariant.squeezed taken light (apart_bits _ c.if-share-eq0.false) (IsMonomial-monomial_of vs c.in-Some.share.word c.requires.layout));
      falls = c.in-Some.ensures.falls;
      words = under_after _ _ _ c.in-Some.share c.shares.invariant.words c.in-Some.ensures.next;
    }

pub returns : goal.returns
returns g c =
    rw c.trimmed.ensures (Squeezed-end _ _ c.shares.terms.items c.shares.invariant.squeezed (ap (shares_read (monomial_of c.args.layout.now)) (none_left _ _ c.next.result c.in_default.not-Some c.next.ensures.next)))
