use Rattle.ks_bst.specs.Laws.Fits.{fit_edges, fit_edge_count}
use Rattle.ks_bst.proofs.node.TNodeNode.edge_at.Goals as goal

pub edge-requires-clause-within : goal.edge-requires-clause-within
edge-requires-clause-within c = rw (← fit_edge_count _ _ _ _ c.args.self.now.fit) c.requires

pub returns : goal.returns
returns c = rw (fit_edges _ _ _ _ c.args.self.now.fit) c.edge.ensures
