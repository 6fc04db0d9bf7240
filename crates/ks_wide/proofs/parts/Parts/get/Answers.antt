use Rattle.std.proofs.Common.{rules}
use Rattle.ks_node.specs.Keyed.{Ascends}
use Rattle.ks_wide.specs.Laws.Fits.{at_leaf}
use Rattle.ks_wide.proofs.parts.Parts.get.Goals as goal

pub get-requires : goal.get-requires
get-requires g c = (search rules, at_leaf (Ascends (λ x. x.place)) c.in-Leaf.is c.requires)
