use Rattle.std.proofs.Common.{rules}
use Rattle.ks_node.specs.Keyed.{Ascends}
use Rattle.ks_wide.specs.Laws.Fits.{at_leaf}
use Rattle.ks_wide.proofs.parts.Parts.del.Goals as goal

pub del-requires : goal.del-requires
del-requires g c = (search rules, at_leaf (Ascends (λ x. x.place)) c.in-Leaf.is c.requires.ascend)
