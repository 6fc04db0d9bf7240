use Rattle.std.proofs.Common.{sym, ◌∙◌}
use Rattle.ks_bst.specs.Laws.Fits.{fit_edge_count}
use Rattle.ks_bst.proofs.node.TNodeNode.edges_held.Goals as goal

pub returns : goal.returns
returns c = c.children.ensures ∙ sym (fit_edge_count _ _ _ _ c.args.self.now.fit)
