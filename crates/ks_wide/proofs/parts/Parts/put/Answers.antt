use Rattle.std.proofs.Common.{rules, length, ◌<◌, ◌≡◌, None}
use Rattle.ks_node.specs.Keyed.{Ascends}
use Rattle.ks_wide.specs.Laws.Fits.{at_leaf}
use Rattle.ks_node.specs.Body.{value_at}
use Rattle.ks_wide.proofs.parts.Parts.put.Goals as goal

pub put-requires : goal.put-requires
put-requires g c = (search rules, (at_leaf (Ascends (λ x. x.place)) c.in-Leaf.is c.requires.ascend, at_leaf (λ xs. value_at xs c.args.place ≡ None → length xs < g.row.L) c.in-Leaf.is c.requires.room))
