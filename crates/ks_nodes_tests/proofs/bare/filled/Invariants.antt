use Rattle.ks_nodes_tests.specs.Bare.{IsBare}
use Rattle.ks_nodes_tests.proofs.bare.filled.Given as goal

abbrev pub invariant-loop-key : goal.invariant-loop-key
invariant-loop-key g l = IsBare 0 (g.N.Node.body l.node)
