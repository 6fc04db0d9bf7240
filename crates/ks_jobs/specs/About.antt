-- What jobs are about: an arena by its parts.
use Rattle.std.specs.Prelude.{ℕ, ◌≡◌, List, []}
use Rattle.atomic_table.specs.Seated.{TableId}
use Rattle.ks_keysets.specs.declared.Change.{Change}
use Rattle.ks_keysets.specs.declared.Frame.{Frame}
use Rattle.ks_keysets.specs.declared.NodeState.{NodeState}
use Rattle.ks_arena.specs.Sound.{Sort}
use Rattle.ks_shape.specs.Idle.{Site}

-- a table that no arena has
abbrev pub no_table : TableId
no_table = record { words = 0; slots = 0; views_name = 0; atom = 0; block = 0; offset = 0; slot_names = [] }

-- an arena by its parts, for what is said of jobs before there is one
abbrev pub site_with : Sort → (Frame → Type 0) → ((ℕ → NodeState) → (ℕ → Frame) → List Change → Type 0) → TableId → ℕ → ℕ → Site
site_with sort begins step table callers nodes = record { sort = sort; begins = begins; step = step; table = table; callers = callers; nodes = nodes }

-- what is said of these is said of the arena
pub record AreAbout (a : Site) (table : TableId) (callers nodes : ℕ) : Type 0 where
  pub table_is : table ≡ a.table
  pub callers_are : callers ≡ a.callers
  pub nodes_are : nodes ≡ a.nodes
