use Rattle.std.proofs.Common.{sym, ◌∙◌, ap}
use Rattle.std.specs.Prelude.{length}
use Rattle.ks_hash.specs.Laws.Fits.{fit_edge_count}
use Rattle.ks_hash.proofs.node.HNodeNode.edges_held.Goals as goal

pub returns : goal.returns
returns c = c.len.ensures.value ∙ ap length c.starts.ensures ∙ sym (fit_edge_count c.args.self.now.fit)
