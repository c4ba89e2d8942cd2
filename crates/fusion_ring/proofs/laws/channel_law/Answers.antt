use Rattle.fusion_ring.proofs.StatedProducts.{channel_is}
use Rattle.fusion_ring.proofs.laws.channel_law.Goals as goal

pub returns : goal.returns
returns c = λ n products ring h p. channel_is n products p ring h
