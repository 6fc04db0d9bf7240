use Rattle.ks_hash.specs.Laws.Fits.{fit_edges, fit_edge_count}
use Rattle.ks_hash.proofs.node.HNodeNode.edge_at.Goals as goal

pub edge_in-requires-clause-within : goal.edge_in-requires-clause-within
edge_in-requires-clause-within c = rw (c.as_slice.ensures.value, c.starts.ensures, ← fit_edge_count c.args.self.now.fit) c.requires

pub returns : goal.returns
returns c = rw (fit_edges c.args.self.now.fit, ← c.starts.ensures, ← c.as_slice.ensures.value) c.edge_in.ensures
