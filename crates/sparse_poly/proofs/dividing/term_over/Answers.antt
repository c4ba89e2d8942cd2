use Rattle.std.proofs.Common.{rules, sym, ◌∙◌, ◌≡◌, to_z, of_z}
use Rattle.std.specs.Int.{w128}
use Rattle.std.proofs.lemmas.Bool.{true≢false}
use Rattle.sparse_poly.proofs.Divisions.{divides_over, IsTermOver-made}
use Rattle.sparse_poly.proofs.dividing.term_over.Goals as goal

pub returns-then-not-divides : goal.returns-then-not-divides
returns-then-not-divides c = λ t o. true≢false (sym (c.divides.ensures.1 (divides_over c.args.divisor.now c.args.term.now t c.len-powers.ensures.monomial.powers o)) ∙ c.if-not-divides.true)

pub returns : goal.returns
returns c =
    let same : to_z w128 (of_z w128 c.in-Some.coeff) ≡ c.in-Some.coeff = search rules in
    let first : to_z w128 (of_z w128 c.args.divisor.now.coeff) ≡ c.args.divisor.now.coeff = search rules in
    let second : to_z w128 (of_z w128 c.args.term.now.coeff) ≡ c.args.term.now.coeff = search rules in
    IsTermOver-made c.args.divisor.now c.args.term.now _ c.len-powers.ensures.monomial c.len-own.ensures.monomial c.in_ok-monomial.ensures (rw same (rw (first, second) at c.in-Some.ensures))
