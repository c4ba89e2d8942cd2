use Rattle.std.proofs.Common.{length, ◌*◌, ◌^◌}
use Rattle.monomial.specs.Layouts.{monomial_of}
use Rattle.sparse_poly.specs.Packed.{share_words, shares_read, AllUnder}
use Rattle.sparse_poly.proofs.Squeezes.{Squeezed}
use Rattle.sparse_poly.proofs.packing.squeeze.Given as goal

abbrev pub invariant-shares : goal.invariant-shares
invariant-shares g l = record {
  squeezed : Squeezed (shares_read (monomial_of l.layout) (g.S.FallingShares.left l.fn.shares)) (shares_read (monomial_of l.layout) (g.S.FallingShares.left l.shares)) l.terms.items;
  falls : g.S.FallingShares.falls l.shares;
  words : AllUnder (2 ^ (16 * length l.layout)) (share_words (g.S.FallingShares.left l.shares));
}

abbrev pub decreases-shares : goal.decreases-shares
decreases-shares g l = length (g.S.FallingShares.left l.shares)
