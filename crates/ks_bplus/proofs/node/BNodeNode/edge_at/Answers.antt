use Rattle.ks_bplus.specs.Laws.Fits.{fit_edges, fit_edge_count}
use Rattle.ks_bplus.proofs.node.BNodeNode.edge_at.Goals as goal

pub edge_in-requires-clause-within : goal.edge_in-requires-clause-within
edge_in-requires-clause-within c = rw (c.starts.ensures, ← fit_edge_count _ _ _ _ c.args.self.now.fit) c.requires

pub returns : goal.returns
returns c = rw (fit_edges _ _ _ _ c.args.self.now.fit, ← c.starts.ensures) c.edge_in.ensures
