use Rattle.std.proofs.Common.{rules}
use Rattle.ks_wide.specs.Laws.Fits.{fit_edges, fit_edge_count}
use Rattle.ks_wide.proofs.node.WNodeNode.edge_at.Goals as goal

pub edge-requires : goal.edge-requires
edge-requires g c = (search rules, (rw (← fit_edge_count _ _ _ _ c.args.self.now.fit) c.requires, c.args.self.now.fit.sound.starts_ascend))

pub returns : goal.returns
returns g c = rw (fit_edges _ _ _ _ c.args.self.now.fit) c.edge.ensures
