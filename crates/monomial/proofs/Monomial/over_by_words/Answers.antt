use Rattle.std.proofs.Common.{subst, ap, ◌∙◌}
use Rattle.monomial.specs.Monomials.{monomial_times, IsMonomial}
use Rattle.monomial.proofs.Quotients.{no_less, monomial_of-less}
use Rattle.monomial.proofs.Monomial.over_by_words.Goals as goal

pub overflow_sub-word : goal.overflow_sub-word
overflow_sub-word c =
    let whole : IsMonomial c.args.self.now = subst IsMonomial c.self.view_is c.self.invariant in
    let divisor : IsMonomial c.args.divisor.now = subst IsMonomial c.divisor.view_is c.divisor.invariant in
    no_less _ _ _ _ _ whole.powers divisor.powers c.in_ok-word.ensures c.in_ok-less.ensures c.requires

pub returns : goal.returns
returns c =
    let whole : IsMonomial c.args.self.now = subst IsMonomial c.self.view_is c.self.invariant in
    let divisor : IsMonomial c.args.divisor.now = subst IsMonomial c.divisor.view_is c.divisor.invariant in
    ap (monomial_times c.args.divisor.now) c.of_word.ensures
    ∙ monomial_of-less _ _ _ _ _ whole.powers divisor.powers c.in_ok-word.ensures c.in_ok-less.ensures c.requires
