use Rattle.std.proofs.Common.{rules, length, ◌<◌}
use Rattle.ks_node.specs.Keyed.{Ascends}
use Rattle.ks_wide.specs.Laws.Fits.{at_branch}
use Rattle.ks_wide.proofs.parts.Parts.add.Goals as goal

pub add-requires : goal.add-requires
add-requires g c = (search rules, (at_branch (Ascends (λ s. s.low)) c.in-Inner.is c.requires.ascend, at_branch (λ ss. length ss < g.row.F) c.in-Inner.is c.requires.room))
