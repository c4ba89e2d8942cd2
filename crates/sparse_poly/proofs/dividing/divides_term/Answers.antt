use Rattle.std.proofs.Common.{sym, ◌∙◌}
use Rattle.std.proofs.lemmas.Bool.{true≢false}
use Rattle.sparse_poly.proofs.Divisions.{divides_over}
use Rattle.sparse_poly.proofs.dividing.divides_term.Goals as goal

pub returns-then-not-divides : goal.returns-then-not-divides
returns-then-not-divides c = λ e t o. true≢false (sym (c.divides.ensures.1 (divides_over c.args.divisor.now c.args.term.now t c.len-powers.ensures.monomial.powers o)) ∙ c.if-not-divides.true)
