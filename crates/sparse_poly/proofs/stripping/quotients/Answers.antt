use Rattle.std.proofs.Common.{rules, ◌≡◌, to_z, of_z}
use Rattle.std.specs.Int.{w128}
use Rattle.std.specs.Prelude.{unsigned_abs, ◌*ℤ◌}
use Prim.Native.Nat.{◌∣◌}
use Rattle.sparse_poly.specs.declared.Term.{Term}
use Rattle.sparse_poly.proofs.Rows.{all_at}
use Rattle.sparse_poly.proofs.Contents.{IsQuotient-more}
use Rattle.sparse_poly.proofs.stripping.quotients.Goals as goal

pub exact_quotient-requires-clause-divides : goal.exact_quotient-requires-clause-divides
exact_quotient-requires-clause-divides c =
    let first : to_z w128 (of_z w128 c.args.divisor) ≡ c.args.divisor = search rules in
    let second : to_z w128 (of_z w128 c.term-item.result.coeff) ≡ c.term-item.result.coeff = search rules in
    rw (first, second) (all_at (λ (t : Term). unsigned_abs c.args.divisor ∣ unsigned_abs t.coeff) c.args.terms.now c.loop-term.term-index c.term-item.result c.loop-term-test.true c.term-item.is c.requires.number)

pub loop-term-preserved : goal.loop-term-preserved
loop-term-preserved c =
    let first : to_z w128 (of_z w128 c.args.divisor) ≡ c.args.divisor = search rules in
    let second : to_z w128 (of_z w128 c.term-item.result.coeff) ≡ c.term-item.result.coeff = search rules in
    let value : to_z w128 (of_z w128 c.exact_quotient.result) ≡ c.exact_quotient.result = search rules in
    let exact : c.args.divisor *ℤ c.exact_quotient.result ≡ c.term-item.result.coeff = rw (first, second) at c.exact_quotient.ensures in
    rw first (IsQuotient-more c.args.terms.now c.loop-term.term-index c.term-item.result c.args.monomial.now c.in_ok-quotient.quotient c.args.divisor c.exact_quotient.result c.loop-term.rest.items _ c.loop-term-test.true c.term-item.is (rw first at c.loop-term.invariant) c.in_ok-quotient.ensures exact c.len-powers.ensures.monomial (rw value at c.in_ok-push.ensures.items))
