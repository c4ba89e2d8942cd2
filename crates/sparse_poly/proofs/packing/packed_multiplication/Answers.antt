use Rattle.std.proofs.Common.{◌/◌, length, false}
use Rattle.std.proofs.lemmas.Result.{MatchResult-weaker}
use Rattle.sparse_poly.proofs.Standings.{IsResult-from_shares, IsFault-from_shares}
use Rattle.sparse_poly.proofs.Packings.{term_halves}
use Rattle.sparse_poly.proofs.PackedTerms.{words_fall, multiplied_under, multiplied_stand, multiplied_degree, product_parts}
use Rattle.sparse_poly.proofs.packing.packed_multiplication.Goals as goal

pub pair-requires-clause-falling : goal.pair-requires-clause-falling
pair-requires-clause-falling c = rw c.as_slice-q.ensures (words_fall c.args.layout.now c.args.q.now c.pack-2.new.packed.items c.requires.layout c.in_ok-pack-2.ensures c.requires.q_poly.falling)

pub squeeze-requires-clause-words : goal.squeeze-requires-clause-words
squeeze-requires-clause-words c =
    let made = rw (c.as_slice-l.ensures, c.as_slice-q.ensures) at c.pair.ensures.sums in
    multiplied_under c.args.layout.now c.requires.layout false c.args.l.now c.args.q.now c.pack.new.packed.items c.pack-2.new.packed.items c.in_ok-pack.ensures c.in_ok-pack-2.ensures _ made

pub returns-then-l-le2 : goal.returns-then-l-le2
returns-then-l-le2 c =
    let made = rw (c.as_slice-l.ensures, c.as_slice-q.ensures) at c.pair.ensures.sums in
    let stands = multiplied_stand c.args.layout.now c.requires.layout false c.args.l.now c.args.q.now c.pack.new.packed.items c.pack-2.new.packed.items c.in_ok-pack.ensures c.in_ok-pack-2.ensures _ made in
    let degree = multiplied_degree c.args.layout.now c.requires.layout false c.args.l.now c.args.q.now c.pack.new.packed.items c.pack-2.new.packed.items c.in_ok-pack.ensures c.in_ok-pack-2.ensures _ made in
    MatchResult-weaker c.squeeze.result c.squeeze.ensures (λ v s. IsResult-from_shares _ _ v.items stands degree s) (λ e s. IsFault-from_shares _ _ e stands degree s)

pub listed-requires : goal.listed-requires
listed-requires c = rw c.as_slice-q.ensures (words_fall c.args.layout.now c.args.q.now c.pack-2.new.packed.items c.requires.layout c.in_ok-pack-2.ensures c.requires.q_poly.falling)

pub listed-requires-2 : goal.listed-requires-2
listed-requires-2 c = rw c.as_slice-q.ensures (words_fall c.args.layout.now c.args.q.now c.pack-2.new.packed.items c.requires.layout c.in_ok-pack-2.ensures c.requires.q_poly.falling)

pub squeeze-requires-2-clause-words : goal.squeeze-requires-2-clause-words
squeeze-requires-2-clause-words c =
    let first = rw (c.as_slice-l.ensures, c.as_slice-q.ensures) at c.in_ok-first.ensures.sums in
    let second = rw (c.as_slice-l.ensures, c.as_slice-q.ensures) at c.in_ok-second.ensures.sums in
    let made = product_parts false c.pack.new.packed.items c.pack-2.new.packed.items _ _ _ _ (term_halves c.pack.new.packed.items (length c.pack.new.packed.items / 2)) first second in
    rw (c.merged.ensures.left, c.deref.ensures.value, c.deref-2.ensures.value)
    (multiplied_under c.args.layout.now c.requires.layout false c.args.l.now c.args.q.now c.pack.new.packed.items c.pack-2.new.packed.items c.in_ok-pack.ensures c.in_ok-pack-2.ensures _ made)

pub returns : goal.returns
returns c =
    let first = rw (c.as_slice-l.ensures, c.as_slice-q.ensures) at c.in_ok-first.ensures.sums in
    let second = rw (c.as_slice-l.ensures, c.as_slice-q.ensures) at c.in_ok-second.ensures.sums in
    let made = product_parts false c.pack.new.packed.items c.pack-2.new.packed.items _ _ _ _ (term_halves c.pack.new.packed.items (length c.pack.new.packed.items / 2)) first second in
    let stands = multiplied_stand c.args.layout.now c.requires.layout false c.args.l.now c.args.q.now c.pack.new.packed.items c.pack-2.new.packed.items c.in_ok-pack.ensures c.in_ok-pack-2.ensures _ made in
    let degree = multiplied_degree c.args.layout.now c.requires.layout false c.args.l.now c.args.q.now c.pack.new.packed.items c.pack-2.new.packed.items c.in_ok-pack.ensures c.in_ok-pack-2.ensures _ made in
    let made_by = rw (c.merged.ensures.left, c.deref.ensures.value, c.deref-2.ensures.value) at c.squeeze-2.ensures in
    MatchResult-weaker c.squeeze-2.result made_by (λ v s. IsResult-from_shares _ _ v.items stands degree s) (λ e s. IsFault-from_shares _ _ e stands degree s)
