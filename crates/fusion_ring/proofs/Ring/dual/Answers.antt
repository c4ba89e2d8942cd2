use Rattle.std.proofs.Common.{arith, ◌∙◌, sym as back}
use Rattle.fusion_ring.proofs.Duals.{dual_is, dual_exists}
use Rattle.fusion_ring.proofs.Ring.dual.Goals as goal

pub returns-then-channel : goal.returns-then-channel
returns-then-channel c = dual_is c.args.self.now c.args.a c.labels-b-end.ensures.ring.rules.duals c.requires c.loop-b.b (back c.channel.ensures ∙ c.if-channel.true)

pub returns : goal.returns
returns c = absurd (dual_exists c.args.self.now c.args.a c.labels-b-end.ensures.ring.rules.duals c.requires (λ b h. c.loop-b.invariant b (omega (arith, h))))
