use Rattle.ks_nodes_tests.specs.Bare.{IsBare}
use Rattle.ks_nodes_tests.proofs.worked.keeps_nine_neighbours.Given as goal

abbrev pub invariant-loop-place : goal.invariant-loop-place
invariant-loop-place g l = IsBare 0 (g.N.Node.body l.node)
