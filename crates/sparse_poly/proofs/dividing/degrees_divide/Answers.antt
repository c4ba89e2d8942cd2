use Rattle.std.proofs.Common.{rules, ◌<◌, ◌≢◌, [], length}
use Rattle.sparse_poly.proofs.Degrees.{no_degree}
use Rattle.sparse_poly.proofs.dividing.degrees_divide.Goals as goal

pub returns-then-not-is_within_degrees : goal.returns-then-not-is_within_degrees
returns-then-not-is_within_degrees c =
    let some : c.args.terms.now ≢ [] = search rules in
    let inside : c.inner.i < length c.args.divisor.now = search rules in
    λ _. no_degree c.args.divisor.now c.args.terms.now c.inner.i c.index-divisor-i.result c.requires.divisor c.requires.poly some inside c.index-divisor-i.is (search rules)
