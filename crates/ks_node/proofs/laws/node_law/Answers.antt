use Rattle.ks_node.proofs.laws.node_law.Goals as goal

pub returns-clause-framed : goal.returns-clause-framed
returns-clause-framed g c = g.met.N.Node.framed c.args.node.now
