-- What a call does to the nodes beside its reply, if no other caller acts: a place that is tidy, edges to new nodes.
use Rattle.std.specs.Prelude.{ℕ, ◌⊎◌, List}
use Rattle.ks_keysets.specs.Keyset.{IsLive}
use Rattle.ks_history.specs.declared.Event.{Event}
use Rattle.ks_history.specs.Done.{Template, coupling, give_up, link_move, TidyAt}
use Rattle.ks_history.specs.Trace.{graph_after}
use Rattle.ks_history.specs.Frames.{frame_after}
use Rattle.ks_flow.specs.Link.{IsLed}
use Rattle.ks_arena.specs.declared.held.Pass.{Pass}
use Rattle.ks_arena.specs.Sound.{Sort, blank_of}
use Rattle.ks_arena.specs.Clauses.{seen_of}
use Rattle.ks_shape.specs.Idle.{Site}
use Rattle.ks_shape.specs.Makes.{TwoFree}

-- a del by the technique merges the node that it left low: under trees; along links no nodes are merged
abbrev pub LeavesTidy : Template → Type 0
LeavesTidy coupling = Unit {0}
LeavesTidy give_up = Unit {0}
LeavesTidy link_move = ⊥

-- a put or an add by the technique adds the edge to a node that it split off, in a separate step: along links; under trees
-- the split itself adds it
abbrev pub LeadsNew : Template → Type 0
LeadsNew coupling = ⊥
LeadsNew give_up = ⊥
LeadsNew link_move = Unit {0}

-- each node that is live after k was live after h, or an edge of a live node one level above leads to it
abbrev pub AreLed : Sort → List Event → List Event → Type 0
AreLed sort h k = (i : ℕ) → IsLive (graph_after k) i → IsLive (graph_after h) i ⊎ IsLed (graph_after k) (frame_after (blank_of sort) k) i

module _ {N D : Type 0} where
  -- as far as the pass has seen, the node whose keyset has the place is not low, or fits with no right neighbour
  abbrev pub IsTidyIn : Site → Pass N D → ℕ → Type 0
  IsTidyIn a p place = TidyAt a.sort.layout (blank_of a.sort) (seen_of p) place

  -- as far as the pass has seen, two nodes are free
  abbrev pub HasTwoFree : Site → Pass N D → Type 0
  HasTwoFree a p = TwoFree a.nodes (seen_of p)

  -- each node that is live at q was live at p, or an edge of a live node one level above leads to it
  abbrev pub AreNewLed : Site → Pass N D → Pass N D → Type 0
  AreNewLed a p q = AreLed a.sort (seen_of p) (seen_of q)
