use Rattle.std.proofs.Common.{rules, length, ◌≤◌}
use Rattle.ks_node.specs.Keyed.{Ascends}
use Rattle.ks_wide.specs.Laws.Fits.{at_leaf}
use Rattle.ks_wide.proofs.parts.Parts.list.Goals as goal

pub list-requires : goal.list-requires
list-requires g c = (search rules, (at_leaf (Ascends (λ x. x.place)) c.in-Leaf.is c.requires.ascend, (at_leaf (λ xs. length xs ≤ 16) c.in-Leaf.is c.requires.few, c.requires.empty)))
