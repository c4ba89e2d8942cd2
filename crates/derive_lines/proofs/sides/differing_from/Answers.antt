use Rattle.sparse_poly.specs.Polynomials.{products, constant}
use Rattle.std.specs.Prelude.{pos}
use Rattle.derive_lines.proofs.Ones.{IsResult-product}
use Rattle.derive_lines.proofs.sides.differing_from.Goals as goal

pub returns : goal.returns
returns c = λ cs h. c.differing.ensures cs (products (constant (pos 1)) c.args.r.now) h (IsResult-product c.args.r.now c.terms-terms.ensures.poly)
