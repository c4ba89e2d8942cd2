use Rattle.std.proofs.Common.{length}
use Rattle.poly_text.proofs.factors.+product.Given as goal

abbrev pub decreases-product : goal.decreases-product
decreases-product l = length l.powers.now
