-- What compaction ensures, for clauses that see an arena and a pass before and after.
use Rattle.std.specs.Prelude.{ℕ}
use Rattle.ks_node.specs.declared.node.Node.{Ghosts as NodeGhosts}
use Rattle.ks_node.below.ks_places.specs.declared.Placing.{Ghosts as PlacingGhosts}
use Rattle.ks_flow.specs.declared.discipline.Discipline.{Ghosts as DisciplineGhosts}
use Rattle.ks_history.specs.Done.{Template, Tight}
use Rattle.ks_arena.specs.declared.arena.Arena.{Arena}
use Rattle.ks_arena.specs.declared.held.Pass.{Pass}
use Rattle.ks_arena.specs.Sound.{sort_of, blank_of}
use Rattle.ks_arena.specs.Clauses.{seen_of}
use Rattle.ks_shape.specs.Frees.{Counts, Undisturbed}
use Rattle.ks_shape.specs.Idle.{Site}
use Rattle.ks_shape.specs.Leaves.{HasLeft}

module _ {N D : Type 0} where
  -- from p to q no other caller did anything, and this one made no node free
  abbrev pub WasUndisturbed : Pass N D → Pass N D → Type 0
  WasUndisturbed p q = Undisturbed p.caller (seen_of p) (seen_of q)

  -- from p to q the caller made this many nodes free, counted modulo 2 ^ 32; it claimed none and made no call
  abbrev pub HasFreed : Pass N D → Pass N D → ℕ → Type 0
  HasFreed p q told = Counts p.caller (seen_of p) (seen_of q) told

  -- from p to q the caller made no call, took nodes as the technique may, held three at most, and released them all
  abbrev pub HasLeftBy : Template → Pass N D → Pass N D → Type 0
  HasLeftBy technique p q = HasLeft technique p.caller (seen_of p) (seen_of q)

  -- as far as the pass has seen, no live node fits with its right neighbour, and the root is no branch over one child
  abbrev pub IsTightIn : Site → Pass N D → Type 0
  IsTightIn a p = Tight a.sort.layout (blank_of a.sort) (seen_of p)

module _ {N D P : Type 0} {n : NodeGhosts N P} {q : PlacingGhosts P} {d : DisciplineGhosts D} where
  -- the same, in the arena
  abbrev pub IsTightOf : Arena N D P n q d → Pass N D → Type 0
  IsTightOf a p = Tight n.layout (blank_of (sort_of n.layout n.ranged)) (seen_of p)
