use Rattle.std.proofs.Common.{subst, sym, ap, ◌∙◌}
use Rattle.monomial.specs.Monomials.{IsMonomial}
use Rattle.monomial.specs.Layouts.{monomial_of}
use Rattle.monomial.proofs.Words.{IsMonomial-monomial_of}
use Rattle.monomial.proofs.Monomial.of_word.Goals as goal

pub invariant_of-result : goal.invariant_of-result
invariant_of-result c = subst IsMonomial (sym (c.of_word.ensures ∙ c.new.ensures ∙ ap (λ vs. monomial_of vs c.args.word) c.copy.ensures.value)) (IsMonomial-monomial_of c.args.layout.now c.args.word c.copy.ensures.layout)
