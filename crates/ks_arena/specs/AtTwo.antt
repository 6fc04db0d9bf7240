-- What a call at two nodes, or at one that has both places, requires and ensures.
use Rattle.std.specs.Prelude.{◌≡◌, ◌≢◌, ℕ, List, ◌∷◌, Option, Some, None, true}
use denote.Bor.{Bor}
use Rattle.ks_keysets.specs.declared.NodeState.TheVariants.{Live}
use Rattle.ks_history.specs.declared.Op.{Op}
use Rattle.ks_history.specs.declared.Reply.{Reply}
use Rattle.ks_history.specs.declared.Event.{Event}
use Rattle.ks_history.specs.declared.Event.TheVariants.{Twin}
use Rattle.ks_history.specs.Trace.{held, graph_after, turn_after, state_with}
use Rattle.ks_history.specs.Frames.{frame_after}
use Rattle.ks_history.specs.Write.{Write, written, taken_out, put_in}
use Rattle.ks_history.specs.Lawful.{Meets}
use Rattle.ks_history.specs.Due.{IsDue}
use Rattle.ks_history.specs.Passes.{Has}
use Rattle.ks_history.specs.Stays.{StaysHeld}
use Rattle.ks_node.specs.Body.{Body, frame_of}
use Rattle.ks_node.specs.Edges.{record_of}
use Rattle.ks_node.specs.declared.node.Node.{Ghosts as NodeGhosts}
use Rattle.ks_node.below.ks_places.specs.declared.Placing.{Ghosts as PlacingGhosts}
use Rattle.ks_flow.specs.declared.discipline.Discipline.{Ghosts as DisciplineGhosts}
use Rattle.ks_arena.specs.declared.arena.Arena.{Arena}
use Rattle.ks_arena.specs.declared.held.Held.{Held as Hand}
use Rattle.ks_arena.specs.declared.held.Pass.{Pass}
use Rattle.ks_arena.specs.Sound.{Sort, sort_of, blank_of}
use Rattle.ks_arena.specs.Clauses.{Matches, hand_of, mine_of, seen_of}
use Rattle.ks_arena.specs.Of.{AddsCall}

module _ {N : Type 0} where
  -- the second node: that of the second held body, or the first node where there is no second
  abbrev pub second_of : Hand N → Option (Bor (Hand N)) → ℕ
  second_of x None = x.node
  second_of x (Some y) = y.now.node

-- what c holds stays, except nodes i and j
abbrev pub KeptButTwo : ℕ → ℕ → ℕ → List Event → List Event → Type 0
KeptButTwo i j c h k = (n : ℕ) → n ≢ i → n ≢ j → turn_after h n ≡ held c → StaysHeld c n h k

module _ {N : Type 0} (sort : Sort) (shows : N → Body) where
  -- a held body that was its node still is, except those of nodes i and j
  abbrev pub StillMatchButTwo : ℕ → ℕ → List ℕ → List Event → List Event → Type 0
  StillMatchButTwo i j hs h k = (x : Hand N) → x.node ≢ i → x.node ≢ j → Has hs x.node → Matches sort shows h x → Matches sort shows k x

  -- the bodies are their nodes after the write, which takes out at the first one and puts in at the second one; where there is
  -- no second, the body is its node after both
  abbrev pub AreWritten : List Event → Hand N → Option (Bor (Hand N)) → Write → Type 0
  AreWritten h x None w = state_with (put_in w) (state_with (taken_out w) (graph_after h x.node)) ≡ Live (record_of (shows x.body))
  AreWritten h x (Some y) w =
      (y.now.node ≢ x.node)
      × (y.now.live ≡ true)
      × (state_with (taken_out w) (graph_after h x.node) ≡ Live (record_of (shows x.body)))
      × (state_with (put_in w) (graph_after h y.now.node) ≡ Live (record_of (shows y.now.body)))
      × (frame_after (blank_of sort) h y.now.node ≡ frame_of (shows y.now.body))

  -- the operation is lawful between the two nodes after h, a Full is due, and the bodies are the nodes after the operation
  pub record IsReadyPair (nodes c : ℕ) (h : List Event) (x : Hand N) (y : Option (Bor (Hand N))) (op : Op) (reply : Reply) : Type 0 where
    pub live : x.live ≡ true
    pub meets : Meets h (Twin c x.node (second_of x y) op reply)
    pub due : IsDue sort.layout nodes h (Twin c x.node (second_of x y) op reply)
    pub frame : frame_after (blank_of sort) h x.node ≡ frame_of (shows x.body)
    pub written : AreWritten h x y (written op reply)

  -- the second body, where there is one, is that of its node
  abbrev pub SecondMatches : List Event → Option (Bor (Hand N)) → Type 0
  SecondMatches h None = Unit {0}
  SecondMatches h (Some y) = Matches sort shows h y.now

module _ {N D P : Type 0} {n : NodeGhosts N P} {q : PlacingGhosts P} {d : DisciplineGhosts D} where
  -- the operation may be decided at the two nodes, whose bodies it has changed, with this reply
  abbrev pub IsReadyAtTwo : Arena N D P n q d → Pass N D → Hand N → Option (Bor (Hand N)) → Op → Reply → Type 0
  IsReadyAtTwo a p x y op reply = IsReadyPair (sort_of n.layout n.ranged) n.body a.nodes p.caller (seen_of p) x y op reply

  -- between p and p' the caller decided the operation at the two nodes at once, with this reply and number, and did nothing
  -- else; it holds what it held, and the rest is as it was
  pub record HasDecidedAtTwo (a : Arena N D P n q d) (x : Hand N) (y : Option (Bor (Hand N))) (op : Op) (reply : Reply) (p p' : Pass N D) (number : ℕ) : Type 0 where
    pub adds : AddsCall (Twin p.caller x.node (second_of x y) op reply) p p' number
    pub hand : hand_of p' ≡ hand_of p
    pub mine : mine_of p' ≡ Twin p.caller x.node (second_of x y) op reply ∷ mine_of p
    pub kept : KeptButTwo x.node (second_of x y) p.caller (seen_of p) (seen_of p')
    pub still : StillMatchButTwo (sort_of n.layout n.ranged) n.body x.node (second_of x y) (hand_of p) (seen_of p) (seen_of p')

  -- the second held body, where there is one, is that of its node, as far as the pass has seen
  abbrev pub IsSecondCurrent : Arena N D P n q d → Pass N D → Option (Bor (Hand N)) → Type 0
  IsSecondCurrent a p y = SecondMatches (sort_of n.layout n.ranged) n.body (seen_of p) y
