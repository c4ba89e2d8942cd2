use Rattle.std.proofs.Common.{◌∙◌, sym, ap, subst}
use Rattle.sparse_poly.specs.Contributions.{IsPoly}
use Rattle.sparse_poly.specs.Reads.{coefficient_of_power}
use Rattle.sparse_poly.proofs.Powers.{IsPoly-coefficient_of_power}
use Rattle.sparse_poly.proofs.Poly.coefficient_in.Goals as goal

pub of-requires : goal.of-requires
of-requires c =
    subst IsPoly (sym (c.in_ok-terms.ensures ∙ ap (coefficient_of_power c.args.var c.args.exp) c.terms.ensures.value)) (IsPoly-coefficient_of_power c.args.var c.args.exp c.args.self.now c.terms.ensures.poly)
