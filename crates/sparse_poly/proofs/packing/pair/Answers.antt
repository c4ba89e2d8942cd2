use Rattle.sparse_poly.proofs.PackedTerms.{product_parts, one_or_two}
use Rattle.sparse_poly.proofs.packing.pair.Goals as goal

pub returns-clause-sums : goal.returns-clause-sums
returns-clause-sums c = product_parts c.args.minus c.args.ts.now c.args.us.now _ _ _ _ (one_or_two c.args.ts.now c.requires.few) c.row_at.ensures.sums c.row_at-2.ensures.sums
