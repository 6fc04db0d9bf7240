-- A dictionary of one caller.
use Rattle.std.specs.Prelude.{◌≡◌}
use Rattle.ks_node.specs.declared.node.Node.{Ghosts as NodeGhosts}
use Rattle.ks_node.below.ks_places.specs.declared.Placing.{Ghosts as PlacingGhosts}
use Rattle.ks_flow.specs.declared.discipline.Discipline.{Ghosts as DisciplineGhosts}
use Rattle.ks_arena.specs.declared.held.Pass.{Pass}
use Rattle.ks_arena.specs.Of.{caller_of}
use Rattle.ks_dictionary.specs.declared.dictionary.Dictionary.{Dictionary}
use Rattle.ks_dictionary.specs.Of.{IsIdlePassOf, callers_of}

-- the pass is that of the one caller, and holds no node
abbrev pub IsOnly : {N T P D : Type 0} {n : NodeGhosts N P} {q : PlacingGhosts P} {d : DisciplineGhosts D} → Dictionary N T P D n q d → Pass N D → Type 0
IsOnly m p = IsIdlePassOf m p × (callers_of m ≡ 1) × (caller_of p ≡ 0)
