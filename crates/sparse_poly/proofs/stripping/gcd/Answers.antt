use Rattle.std.proofs.Common.{subst}
use Rattle.std.specs.Int.{IsGcd}
use Rattle.std.proofs.lemmas.Nat.Gcd.{IsGcd-from_mod, IsGcd-from_zero}
use Rattle.sparse_poly.proofs.stripping.gcd.Goals as goal

pub euclid-preserved : goal.euclid-preserved
euclid-preserved c = λ g h. c.euclid.invariant g (IsGcd-from_mod c.euclid.a c.euclid.b g (subst (λ r. IsGcd c.euclid.b r g) c.remainder-r.ensures h))

pub returns : goal.returns
returns c = c.euclid.invariant c.euclid.a (IsGcd-from_zero c.euclid.a c.euclid.b c.euclid-test.false)
