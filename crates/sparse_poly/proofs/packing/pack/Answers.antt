use Rattle.std.proofs.Common.{rules, arith, ◌≡◌, ◌∙◌, ap, length, length-append, to_z, of_z}
use Rattle.std.specs.Int.{w128}
use Rattle.monomial.specs.Monomials.{IsMonomial}
use Rattle.monomial.proofs.Words.{word_small}
use Rattle.sparse_poly.specs.declared.Term.{Term}
use Rattle.sparse_poly.proofs.Rows.{all_at}
use Rattle.sparse_poly.proofs.PackedTerms.{PackedSoFar-more, PackedSoFar-end}
use Rattle.sparse_poly.proofs.packing.pack.Goals as goal

pub invariant_of-push_reserved : goal.invariant_of-push_reserved
invariant_of-push_reserved c = record { small = word_small _ _ c.in-Some.word c.in-Some.ensures }

pub loop-term-preserved : goal.loop-term-preserved
loop-term-preserved c =
    let monomial = all_at (λ (t : Term). IsMonomial t.monomial) c.args.terms.now c.loop-term.term-index c.term-item.result c.loop-term-test.true c.term-item.is c.requires.poly.monomials in
    let same : to_z w128 (of_z w128 c.term-item.result.coeff) ≡ c.term-item.result.coeff = search rules in
    record {
      so_far = rw c.push_reserved.ensures.items (PackedSoFar-more c.args.layout.now c.args.terms.now c.loop-term.term-index c.term-item.result _ c.loop-term.packed.items c.requires.layout c.loop-term-test.true c.term-item.is monomial c.in-Some.ensures.fits c.in-Some.ensures.value same c.loop-term.invariant.so_far);
      room = omega (arith, ap length c.push_reserved.ensures.items ∙ length-append c.loop-term.packed.items _, c.push_reserved.ensures.capacity, c.loop-term.invariant.room, c.loop-term-test.true);
    }

pub returns : goal.returns
returns c = record { terms = PackedSoFar-end c.args.layout.now c.args.terms.now c.loop-term.term-index c.loop-term.packed.items (omega arith) c.loop-term.invariant.so_far; words = c.loop-term.invariant.so_far.words }
