use Rattle.std.proofs.Common.{arith}
use Rattle.ks_node.specs.Edges.{edges_of}
use Rattle.ks_arena.proofs.Entries.{pushed, whole}
use Rattle.ks_arena.proofs.ended.edges_in.Goals as goal

pub loop-n-preserved : goal.loop-n-preserved
loop-n-preserved g c = pushed (edges_of (g.N.Node.body c.args.body.now)) c.push.new.self.items c.loop-n.edges.items c.loop-n.n c.edge_at.result c.loop-n.invariant (omega arith) c.edge_at.ensures c.in_ok-push.ensures.items

pub returns : goal.returns
returns g c = whole (edges_of (g.N.Node.body c.args.body.now)) c.loop-n.edges.items c.loop-n.n c.loop-n.invariant (omega arith)
