use Rattle.std.proofs.Common.{rules}
use Rattle.ks_node.specs.Keyed.{Ascends}
use Rattle.ks_wide.specs.Laws.Fits.{at_branch}
use Rattle.ks_wide.proofs.parts.Parts.can_add.Goals as goal

pub begins_at-requires : goal.begins_at-requires
begins_at-requires g c = (search rules, at_branch (Ascends (λ s. s.low)) c.in-Inner.is c.requires)
