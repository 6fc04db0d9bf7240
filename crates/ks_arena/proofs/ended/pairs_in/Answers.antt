use Rattle.std.proofs.Common.{arith}
use Rattle.ks_arena.proofs.Entries.{pushed, whole}
use Rattle.ks_arena.proofs.ended.pairs_in.Goals as goal

pub loop-n-preserved : goal.loop-n-preserved
loop-n-preserved g c = pushed (g.N.Node.body c.args.body.now).pairs c.push.new.self.items c.loop-n.pairs.items c.loop-n.n c.pair_at.result c.loop-n.invariant (omega arith) c.pair_at.ensures c.in_ok-push.ensures.items

pub returns : goal.returns
returns g c = whole (g.N.Node.body c.args.body.now).pairs c.loop-n.pairs.items c.loop-n.n c.loop-n.invariant (omega arith)
