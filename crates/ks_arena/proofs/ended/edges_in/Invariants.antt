use Rattle.std.proofs.Common.{◌≡◌, take}
use Rattle.ks_node.specs.Edges.{edges_of}
use Rattle.ks_arena.proofs.ended.edges_in.Given as goal

abbrev pub invariant-loop-n : goal.invariant-loop-n
invariant-loop-n g l = l.edges.items ≡ take l.n (edges_of (g.N.Node.body l.body))
