use Rattle.std.proofs.Common.{sym}
use Rattle.ks_wide.specs.Laws.Fits.{fit_edge_count}
use Rattle.ks_wide.proofs.node.WNodeNode.edges_held.Goals as goal

pub returns : goal.returns
returns g c = rw c.children_held.ensures.is (sym (fit_edge_count _ _ _ _ c.args.self.now.fit))
