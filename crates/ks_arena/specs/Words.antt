-- What a step on a word of an arena's table requires of the seat that makes it, and what it leaves.
use Rattle.std.specs.Prelude.{ℕ, ◌≡◌, ◌<◌, Option, []}
use mathlib.Core.Option.{none}
use Rattle.atomic_table.specs.Table.{Allows, Joins, Splits, Step, step}
use Rattle.atomic_table.specs.declared.shared.Seat.{Seat}
use Rattle.ks_node.specs.declared.node.Node.{Ghosts as NodeGhosts}
use Rattle.ks_node.below.ks_places.specs.declared.Placing.{Ghosts as PlacingGhosts}
use Rattle.ks_flow.specs.declared.discipline.Discipline.{Ghosts as DisciplineGhosts}
use Rattle.ks_arena.specs.declared.arena.Arena.{Arena}
use Rattle.ks_arena.specs.declared.view.View.{View}
use Rattle.ks_arena.specs.Plays.{Seated}
use Rattle.ks_arena.specs.Rule.{Running}
use Rattle.ks_arena.specs.Sound.{sort_of}

-- a seat has made a step, of which this is known
abbrev pub HasStepped : {N : Type 0} → Seat (Option N) View → Seat (Option N) View → Type 0 → Type 0
HasStepped s s' told = (s'.table_id ≡ s.table_id) × (s'.id ≡ s.id) × told

module _ {N D P : Type 0} {n : NodeGhosts N P} {q : PlacingGhosts P} {d : DisciplineGhosts D} where
  -- a step on this word, with its operands
  abbrev pub step_on : Arena N D P n q d → ℕ → ℕ → ℕ → Step (Option N)
  step_on a word first second = step a.table.shared.table_id.slots word first second none

  -- the seat may make a step that changes the word so, and afterwards it knows this: the rule is kept, whatever the table is
  abbrev pub MayStep : Arena N D P n q d → Seat (Option N) View → ℕ → (ℕ → ℕ) → (ℕ → Seated N → Type 0) → Type 0
  MayStep a s word becomes told = (s.table_id ≡ a.table.shared.table_id) × (word < a.table.shared.table_id.words)
      × Allows (Running (sort_of n.layout n.ranged) d.begins d.step n.body) a.table.shared.table_id.slots s.id s.me word becomes told

  -- the seat may share what it knows with a new seat; and it may take in another, which holds no slot
  abbrev pub MaySplit : Arena N D P n q d → Seat (Option N) View → View → View → Type 0
  MaySplit a s left right = (s.table_id ≡ a.table.shared.table_id) × (0 < a.table.shared.table_id.words)
      × Splits (Running (sort_of n.layout n.ranged) d.begins d.step n.body) s.id s.me.0 left right

  abbrev pub MayJoin : Arena N D P n q d → Seat (Option N) View → Seat (Option N) View → View → View → Type 0
  MayJoin a s other both spent = (s.table_id ≡ a.table.shared.table_id) × (other.table_id ≡ a.table.shared.table_id) × (other.me.1 ≡ [])
      × (0 < a.table.shared.table_id.words) × Joins (Running (sort_of n.layout n.ranged) d.begins d.step n.body) s.id s.me.0 other.id other.me.0 both spent
