use Rattle.std.proofs.Common.{rules, ◌<◌, slice_index_or, length}
use Rattle.sparse_poly.specs.Reads.{degree_in}
use Rattle.sparse_poly.proofs.Degrees.{above_at}
use Rattle.sparse_poly.proofs.dividing.is_within_degrees.Goals as goal

pub returns-then-not-has_exponent : goal.returns-then-not-has_exponent
returns-then-not-has_exponent c =
    let inside : c.powers.i < length c.args.monomial.now = search rules in
    let above : degree_in (slice_index_or c.args.monomial.now c.powers.i (0, 0)).0 c.args.terms.now < (slice_index_or c.args.monomial.now c.powers.i (0, 0)).1 = search rules in
    λ _. above_at c.args.monomial.now c.args.terms.now c.powers.i c.len.ensures.monomial.powers inside above
