-- Tight graphs node by node: each node on the walks of ascending places is tested against its right neighbour.
use Rattle.std.specs.Prelude.{ℕ, suc, ◌<◌, ◌≤◌, ◌⊎◌}
use Rattle.ks_keysets.specs.declared.Frame.{Frame}
use Rattle.ks_keysets.specs.declared.NodeState.{NodeState}
use Rattle.ks_keysets.specs.declared.Record.{Record}
use Rattle.ks_keysets.specs.Record.{top}
use Rattle.ks_keysets.specs.Keyset.{IsLive, InInset}
use Rattle.ks_keysets.specs.Spans.{AllCarryAlike}
use Rattle.ks_keysets.specs.Layout.{Layout}
use Rattle.ks_keysets.specs.Tight.{FitsNoRight}
use Rattle.ks_flow.specs.Walk.{Path}

-- each live node that begins below the place fits with no right neighbour
pub record IsTightBelow (layout : Layout) (g : ℕ → NodeState) (f : ℕ → Frame) (p : ℕ) : Type 0 where
  pub at : (n : ℕ) → IsLive g n → (f n).low < p → FitsNoRight layout g f n

-- the last place, at most `last`, up to which each edge of the record carries all places from p on or none
pub record EndsRun (r : Record) (p last end : ℕ) : Type 0 where
  pub above : p ≤ end
  pub below : end ≤ last
  pub same : (q : ℕ) → p ≤ q → q ≤ end → AllCarryAlike r p q
  pub turns : end < last → ¬ AllCarryAlike r p (suc end)

-- the walk of place p from the root comes to node n, the places after p come there with it up to `last` and not on,
-- and each node that it meets before n fits with no right neighbour
pub record ComesTo (layout : Layout) (g : ℕ → NodeState) (f : ℕ → Frame) (p last n : ℕ) : Type 0 where
  pub upto : p ≤ last
  pub along : (q : ℕ) → p ≤ q → q ≤ last → InInset g n q
  pub most : last < top → ¬ InInset g n (suc last)
  pub before : (m : ℕ) → InInset g m p → FitsNoRight layout g f m ⊎ Path g p m n
