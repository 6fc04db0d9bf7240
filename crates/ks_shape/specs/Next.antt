-- The node to which a search goes on.
use Rattle.std.specs.Prelude.{◌≡◌, ◌≢◌, ℕ, ◌<◌, List, Some, Any}
use Rattle.ks_keysets.specs.declared.Record.{Record}
use Rattle.ks_keysets.specs.Record.{LeadsTo}
use Rattle.ks_keysets.specs.Keyset.{record_at, IsLive, InInset}
use Rattle.ks_keysets.specs.Walk.{OneParent}
use Rattle.ks_history.specs.declared.Event.{Event}
use Rattle.ks_history.specs.Trace.{free, held, graph_after, turn_after}
use Rattle.ks_history.specs.Own.{hand}
use Rattle.ks_history.specs.Passes.{Has, GrowsByOthers}
use Rattle.ks_flow.specs.Discipline.{BeginsTree, TreeStep}
use Rattle.ks_arena.specs.Sound.{Sort, Sound}

-- after h, c holds the live node i, which leads on to node j at the place p; there are n nodes
pub record LeadsOnTo (sort : Sort) (slots n c p : ℕ) (h : List Event) (i j : ℕ) : Type 0 where
  pub node : Record
  pub is : record_at (graph_after h) i ≡ Some node
  pub leads : LeadsTo node p j
  pub among : Any (λ e. e.node ≡ j) node.edges
  pub mine : turn_after h i ≡ held c
  -- j is a live node of the arena, and c does not hold it; it is not the root
  pub live : IsLive (graph_after h) j
  pub near : j < n
  pub fresh : ¬ Has (hand c h) j
  pub apart : i ≢ j
  pub below : j ≢ 0
  -- the place is in its inset
  pub inside : InInset (graph_after h) j p
  -- it is never found free, as long as only others act
  pub stays : (k : List Event) → GrowsByOthers c h k → Sound sort BeginsTree TreeStep slots k → turn_after k j ≢ free
  -- no node has two parents, and all live nodes are nodes of the arena
  pub parents : OneParent (graph_after h)
  pub few : (m : ℕ) → IsLive (graph_after h) m → m < n
