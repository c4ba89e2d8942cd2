use Rattle.std.proofs.Common.{◌≡◌, fold, drop}
use Rattle.sparse_poly.specs.Hashing.{terms_input}
use Rattle.sparse_poly.proofs.hashing.hash_terms.Given as goal

abbrev pub invariant-loop-term : goal.invariant-loop-term
invariant-loop-term g l = fold g.H.Hasher.write l.state (terms_input (drop l.term-index l.terms)) ≡ fold g.H.Hasher.write l.initial.state (terms_input l.terms)
