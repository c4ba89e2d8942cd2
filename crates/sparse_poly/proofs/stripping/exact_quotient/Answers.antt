use Rattle.std.proofs.Common.{rules, arith, ◌≤◌}
use Rattle.std.specs.Int.{w128}
use Rattle.std.specs.Prelude.{unsigned_abs, int_div}
use Rattle.std.proofs.lemmas.Int.{quot_is, fits_signed_from_abs}
use Rattle.sparse_poly.proofs.Contents.{exact_quotient, factor_small}
use Rattle.sparse_poly.proofs.stripping.exact_quotient.Goals as goal

pub returns : goal.returns
returns c =
    let e = exact_quotient c.args.coeff c.args.divisor c.requires.nonzero c.requires.divides in
    let less : unsigned_abs (int_div c.args.coeff c.args.divisor) ≤ unsigned_abs c.args.coeff = factor_small c.args.divisor _ _ c.requires.nonzero e in
    rw (quot_is w128 c.args.coeff c.args.divisor (search rules) (search rules) (fits_signed_from_abs w128 _ (omega (arith, less, c.requires.small)))) e
