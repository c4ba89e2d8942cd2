use Rattle.std.proofs.Common.{◌≡◌, fold, length}
use Rattle.monomial.specs.Readings.{left_powers}
use Rattle.sparse_poly.specs.Hashing.{powers_input}
use Rattle.sparse_poly.proofs.hashing.hash_powers.Given as goal

abbrev pub invariant-powers : goal.invariant-powers
invariant-powers g l = fold g.H.Hasher.write l.state (powers_input (left_powers l.left)) ≡ fold g.H.Hasher.write l.initial.state (powers_input (left_powers l.initial.left))

abbrev pub decreases-powers : goal.decreases-powers
decreases-powers g l = length (left_powers l.left)
