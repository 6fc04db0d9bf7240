use Rattle.std.proofs.Common.{sym}
use Rattle.ks_bplus.specs.Laws.Fits.{fit_edge_count}
use Rattle.ks_bplus.proofs.node.BNodeNode.edges_held.Goals as goal

pub returns : goal.returns
returns c = rw c.starts.ensures (sym (fit_edge_count _ _ _ _ c.args.self.now.fit))
