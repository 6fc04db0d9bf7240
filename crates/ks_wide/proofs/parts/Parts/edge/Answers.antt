use Rattle.std.proofs.Common.{rules, length, ◌<◌}
use Rattle.ks_node.specs.Keyed.{Ascends}
use Rattle.ks_wide.specs.Laws.Fits.{at_branch}
use Rattle.ks_wide.proofs.parts.Parts.edge.Goals as goal

pub edge-requires : goal.edge-requires
edge-requires g c = (search rules, (at_branch (λ ss. c.args.at < length ss) c.in-Inner.is c.requires.within, at_branch (Ascends (λ s. s.low)) c.in-Inner.is c.requires.ascend))
