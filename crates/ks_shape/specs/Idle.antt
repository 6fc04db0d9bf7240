-- An arena as contracts see it, and its passes between two calls.
use Rattle.std.specs.Prelude.{ℕ, ◌≡◌, List, []}
use Rattle.atomic_table.specs.Seated.{TableId}
use Rattle.ks_keysets.specs.declared.Change.{Change}
use Rattle.ks_keysets.specs.declared.Frame.{Frame}
use Rattle.ks_keysets.specs.declared.NodeState.{NodeState}
use Rattle.ks_keysets.specs.Layout.{Layout}
use Rattle.ks_history.specs.declared.Op.{Op}
use Rattle.ks_history.specs.declared.Reply.{Reply}
use Rattle.ks_history.specs.Done.{Template, Done}
use Rattle.ks_arena.specs.declared.held.Pass.{Pass}
use Rattle.ks_arena.specs.Sound.{Sort}
use Rattle.ks_arena.specs.Clauses.{IsPass, hand_of, seen_of}

-- an arena as contracts see it: its type of nodes, what its discipline requires of a blank frame and of a Shape, its table,
-- and how many callers and nodes it has
pub record Site : Type 1 where
  pub sort : Sort
  pub begins : Frame → Type 0
  pub step : (ℕ → NodeState) → (ℕ → Frame) → List Change → Type 0
  pub table : TableId
  pub callers : ℕ
  pub nodes : ℕ

-- a pass of the arena, which holds no node
abbrev pub IsIdle : {N D : Type 0} → Site → Pass N D → Type 0
IsIdle a p = IsPass a.sort a.begins a.step a.table a.callers p × (hand_of p ≡ [])

-- between p and q the caller made one call, of this operation, with this reply and number, and released all its nodes
abbrev pub IsDone : {N D : Type 0} → Layout → Template → Site → Op → Pass N D → Pass N D → Reply → ℕ → Type 0
IsDone layout technique a op p q reply number = Done layout technique a.nodes p.caller op (seen_of p) (seen_of q) reply number
