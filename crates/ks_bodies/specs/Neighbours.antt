-- The right neighbour of a node by its body and that of its parent.
use Rattle.std.specs.Prelude.{ℕ, Option}
use Rattle.std.specs.Option.{option_or}
use Rattle.ks_node.specs.Body.{Body, chained_of, right_child}

-- what is right of a node with body b, to which a node with body u leads at the place: the target of its own edge, or,
-- if it has none, the child to which u, if it is a branch, leads next
abbrev pub neighbour_of : Body → Body → ℕ → Option ℕ
neighbour_of u b place = option_or (chained_of b) (right_child u place)
