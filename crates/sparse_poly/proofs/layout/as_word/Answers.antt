use Rattle.std.proofs.Common.{◌∙◌}
use Rattle.monomial.proofs.Words.{fitting_monomial}
use Rattle.sparse_poly.proofs.layout.as_word.Goals as goal

pub returns : goal.returns
returns c =
    c.of_word.ensures ∙ fitting_monomial c.args.layout.now c.args.monomial.now _ c.in_ok-word.ensures.layout c.form-form.ensures.monomial.powers c.in_ok-word.ensures.fits c.in_ok-word.ensures.value
