use Rattle.sparse_poly.proofs.Packings.{product_shares}
use Rattle.sparse_poly.proofs.PackedTerms.{product_list, one_at}
use Rattle.sparse_poly.proofs.packing.row_at.Goals as goal

pub returns-then-place-ts-clause-sums : goal.returns-then-place-ts-clause-sums
returns-then-place-ts-clause-sums c = rw (one_at c.args.ts.now c.args.place c.index-ts-place.result c.if-place-ts.true c.index-ts-place.is, c.new.ensures.left) (product_list _ _ _ _ (product_shares c.args.minus c.index-ts-place.result c.args.us.now))

pub returns-then-place-ts-clause-falls : goal.returns-then-place-ts-clause-falls
returns-then-place-ts-clause-falls c = c.new.ensures.falls ((product_shares c.args.minus c.index-ts-place.result c.args.us.now).falling c.requires)
