use Rattle.sparse_poly.specs.Polynomials.{products}
use Rattle.derive_lines.proofs.Ones.{with_one}
use Rattle.derive_lines.proofs.sides.compare_with.Goals as goal

pub returns : goal.returns
returns c = with_one c.compare_right.result c.args.q.now (products c.args.m.now c.args.r.now) c.terms-terms.ensures.poly c.compare_right.ensures
