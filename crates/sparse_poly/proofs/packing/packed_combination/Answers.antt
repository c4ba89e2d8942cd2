use Rattle.std.proofs.lemmas.Result.{MatchResult-weaker}
use Rattle.sparse_poly.specs.Contributions.{contributions}
use Rattle.sparse_poly.proofs.Standings.{IsResult-from_shares, IsFault-from_shares}
use Rattle.sparse_poly.proofs.PackedTerms.{words_fall, combined_under, combined_stand, combined_degree}
use Rattle.sparse_poly.proofs.packing.packed_combination.Goals as goal

pub pair-first-requires-clause-falling : goal.pair-first-requires-clause-falling
pair-first-requires-clause-falling c = rw c.as_slice-q.ensures (words_fall c.args.layout.now c.args.q.now c.pack-2.new.packed.items c.requires.layout c.in_ok-pack-2.ensures c.requires.q_poly.falling)

pub pair-second-requires-clause-falling : goal.pair-second-requires-clause-falling
pair-second-requires-clause-falling c = rw c.as_slice-p.ensures (words_fall c.args.layout.now c.args.p.now c.pack-4.new.packed.items c.requires.layout c.in_ok-pack-4.ensures c.requires.p_poly.falling)

pub squeeze-requires-clause-words : goal.squeeze-requires-clause-words
squeeze-requires-clause-words c =
    let first = rw (c.as_slice-l.ensures, c.as_slice-q.ensures) at c.pair-first.ensures.sums in
    let second = rw (c.as_slice-a.ensures, c.as_slice-p.ensures) at c.pair-second.ensures.sums in
    combined_under c.args.layout.now c.requires.layout c.args.l.now c.args.q.now c.args.a.now c.args.p.now c.pack.new.packed.items c.pack-2.new.packed.items c.pack-3.new.packed.items c.pack-4.new.packed.items c.in_ok-pack.ensures c.in_ok-pack-2.ensures c.in_ok-pack-3.ensures c.in_ok-pack-4.ensures _ _ first second

pub returns-then-a-le2 : goal.returns-then-a-le2
returns-then-a-le2 c =
    let first = rw (c.as_slice-l.ensures, c.as_slice-q.ensures) at c.pair-first.ensures.sums in
    let second = rw (c.as_slice-a.ensures, c.as_slice-p.ensures) at c.pair-second.ensures.sums in
    let cs = contributions c.args.l.now c.args.q.now c.args.a.now c.args.p.now in
    let stands = combined_stand c.args.layout.now c.requires.layout c.args.l.now c.args.q.now c.args.a.now c.args.p.now c.pack.new.packed.items c.pack-2.new.packed.items c.pack-3.new.packed.items c.pack-4.new.packed.items c.in_ok-pack.ensures c.in_ok-pack-2.ensures c.in_ok-pack-3.ensures c.in_ok-pack-4.ensures _ _ first second in
    let degree = combined_degree c.args.layout.now c.requires.layout c.args.l.now c.args.q.now c.args.a.now c.args.p.now c.pack.new.packed.items c.pack-2.new.packed.items c.pack-3.new.packed.items c.pack-4.new.packed.items c.in_ok-pack.ensures c.in_ok-pack-2.ensures c.in_ok-pack-3.ensures c.in_ok-pack-4.ensures _ _ first second in
    MatchResult-weaker c.squeeze.result c.squeeze.ensures (λ v s. IsResult-from_shares _ cs v.items stands degree s) (λ e s. IsFault-from_shares _ cs e stands degree s)

pub listed-requires : goal.listed-requires
listed-requires c = rw c.as_slice-q.ensures (words_fall c.args.layout.now c.args.q.now c.pack-2.new.packed.items c.requires.layout c.in_ok-pack-2.ensures c.requires.q_poly.falling)

pub listed-requires-2 : goal.listed-requires-2
listed-requires-2 c = rw c.as_slice-p.ensures (words_fall c.args.layout.now c.args.p.now c.pack-4.new.packed.items c.requires.layout c.in_ok-pack-4.ensures c.requires.p_poly.falling)

pub squeeze-requires-2-clause-words : goal.squeeze-requires-2-clause-words
squeeze-requires-2-clause-words c =
    let first = rw (c.as_slice-l.ensures, c.as_slice-q.ensures) at c.in_ok-first.ensures.sums in
    let second = rw (c.as_slice-a.ensures, c.as_slice-p.ensures) at c.in_ok-second.ensures.sums in
    rw (c.merged.ensures.left, c.deref.ensures.value, c.deref-2.ensures.value)
    (combined_under c.args.layout.now c.requires.layout c.args.l.now c.args.q.now c.args.a.now c.args.p.now c.pack.new.packed.items c.pack-2.new.packed.items c.pack-3.new.packed.items c.pack-4.new.packed.items c.in_ok-pack.ensures c.in_ok-pack-2.ensures c.in_ok-pack-3.ensures c.in_ok-pack-4.ensures _ _ first second)

pub returns : goal.returns
returns c =
    let first = rw (c.as_slice-l.ensures, c.as_slice-q.ensures) at c.in_ok-first.ensures.sums in
    let second = rw (c.as_slice-a.ensures, c.as_slice-p.ensures) at c.in_ok-second.ensures.sums in
    let cs = contributions c.args.l.now c.args.q.now c.args.a.now c.args.p.now in
    let stands = combined_stand c.args.layout.now c.requires.layout c.args.l.now c.args.q.now c.args.a.now c.args.p.now c.pack.new.packed.items c.pack-2.new.packed.items c.pack-3.new.packed.items c.pack-4.new.packed.items c.in_ok-pack.ensures c.in_ok-pack-2.ensures c.in_ok-pack-3.ensures c.in_ok-pack-4.ensures _ _ first second in
    let degree = combined_degree c.args.layout.now c.requires.layout c.args.l.now c.args.q.now c.args.a.now c.args.p.now c.pack.new.packed.items c.pack-2.new.packed.items c.pack-3.new.packed.items c.pack-4.new.packed.items c.in_ok-pack.ensures c.in_ok-pack-2.ensures c.in_ok-pack-3.ensures c.in_ok-pack-4.ensures _ _ first second in
    let made_by = rw (c.merged.ensures.left, c.deref.ensures.value, c.deref-2.ensures.value) at c.squeeze-2.ensures in
    MatchResult-weaker c.squeeze-2.result made_by (λ v s. IsResult-from_shares _ cs v.items stands degree s) (λ e s. IsFault-from_shares _ cs e stands degree s)
