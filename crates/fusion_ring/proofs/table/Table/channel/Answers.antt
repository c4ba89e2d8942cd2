use Rattle.std.proofs.Common.{arith}
use Rattle.fusion_ring.proofs.Indices.{channel_of}
use Rattle.fusion_ring.proofs.table.Table.channel.Goals as goal

pub returns : goal.returns
returns c =
    rw (← c.self.view_is)
    (channel_of c.self.inside.numbers.items c.self.inside.labels c.args.a c.args.b c.args.c c.index.result.now (omega arith) (omega arith) (omega arith) c.self.invariant c.index.ensures)
