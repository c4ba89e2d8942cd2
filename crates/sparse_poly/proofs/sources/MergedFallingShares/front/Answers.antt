use Rattle.sparse_poly.proofs.PackedSources.{greatest_first, greatest_both, greatest_second, greater_of}
use Rattle.sparse_poly.proofs.sources.MergedFallingShares.front.Goals as goal

pub returns-in_default : goal.returns-in_default
returns-in_default g c = greatest_second _ _ _ c.in_default.ensures c.front-in_default.ensures

pub returns-in-Some-front : goal.returns-in-Some-front
returns-in-Some-front g c = greatest_both _ _ c.in-Some.x c.in-Some-front.y c.max.result c.in-Some.ensures c.in-Some-front.ensures (greater_of c.in-Some.x c.in-Some-front.y c.max.result c.max.ensures)

pub returns-in-None : goal.returns-in-None
returns-in-None g c = greatest_first _ _ c.in-Some.x c.in-Some.ensures c.in-None.ensures
