use Rattle.std.proofs.Common.{rules}
use Rattle.ks_node.specs.Keyed.{Ascends}
use Rattle.ks_wide.specs.Laws.Fits.{at_leaf, at_branch}
use Rattle.ks_wide.proofs.parts.Parts.split_to.Goals as goal

pub split_leaf-requires : goal.split_leaf-requires
split_leaf-requires g c = (search rules, (search rules, (at_leaf (Ascends (λ x. x.place)) c.in-Leaf.is c.requires.pairs_ascend, (c.requires.right_leaf, c.requires.right_blank))))

pub upper-requires : goal.upper-requires
upper-requires g c = (search rules, at_branch (Ascends (λ s. s.low)) c.in-Inner.is c.requires.starts_ascend)
