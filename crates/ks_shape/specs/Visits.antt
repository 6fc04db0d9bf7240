-- Paths of nodes whose bodies lie in their slots.
use Rattle.std.specs.Prelude.{Some}
use Rattle.ks_arena.specs.declared.held.Visited.{Visited}
use Rattle.ks_arena.specs.Visits.{held_at}
use Rattle.ks_shape.specs.declared.path.Path.{Path}

-- the path of a visited node and its visited parent, as one of nodes whose bodies are held
abbrev pub path_at : {N : Type 0} → Visited N → Visited N → Path N
path_at above x = record { parent = Some (held_at above); node = held_at x }
