-- What a search along links, and the adding of edges, require and ensure, of an arena and of a pass before and after.
use Rattle.std.specs.Prelude.{ℕ, ◌≡◌, ◌≢◌, List, [], ◌∷◌, Option, Result}
use Rattle.ks_node.specs.declared.node.Node.{Ghosts as NodeGhosts}
use Rattle.ks_node.below.ks_places.specs.declared.Placing.{Ghosts as PlacingGhosts}
use Rattle.ks_flow.specs.declared.discipline.Discipline.{Ghosts as DisciplineGhosts}
use Rattle.ks_history.specs.declared.Event.{Event}
use Rattle.ks_history.specs.declared.Op.{Op}
use Rattle.ks_history.specs.Done.{Done, link_move}
use Rattle.ks_history.specs.Underway.{Underway}
use Rattle.ks_arena.specs.declared.arena.Arena.{Arena}
use Rattle.ks_arena.specs.declared.held.Pass.{Pass}
use Rattle.ks_arena.specs.declared.held.Held.{Held as Hand}
use Rattle.ks_arena.specs.Sound.{sort_of}
use Rattle.ks_arena.specs.Clauses.{hand_of, seen_of}
use Rattle.ks_arena.specs.Of.{WasAlone}
use Rattle.ks_shape.specs.Makes.{TwoFree}
use Rattle.ks_shape.specs.Of.{IsLedTo}
use Rattle.ks_link.specs.declared.parts.Parted.{Parted}
use Rattle.ks_link.specs.declared.parts.Waiting.{Waiting}
use Rattle.ks_link.specs.Descent.{IsOnWay}
use Rattle.ks_link.specs.Leads.{LedBut, PartsLed, Waits}
use Rattle.ks_link.specs.Parts.{IsAlone, IsSplitOff, HoldsHalf}
use Rattle.ks_link.specs.Puts.{MadeRoom}
use Rattle.ks_link.specs.Tries.{Enters, GoesOn, Finds, IsHeldAbove}
use Rattle.ks_shape.specs.declared.answers.Full.{Full}
use Rattle.ks_shape.specs.declared.answers.Later.{Later}
use Rattle.ks_shape.specs.declared.answers.Numbered.{Numbered}
use Rattle.ks_shape.specs.Answers.{number_in, reply_in}
use Rattle.ks_shape.specs.Fills.{FoundRoom}
use Rattle.ks_shape.specs.Upkeep.{AreLed}

module _ {N D : Type 0} where
  -- the pass holds these two nodes, the second taken last; these three
  abbrev pub HoldsTwo : Pass N D → Hand N → Hand N → Type 0
  HoldsTwo p x y = (hand_of p ≡ y.node ∷ x.node ∷ []) × (y.node ≢ x.node)

  abbrev pub HoldsThree : Pass N D → Hand N → Hand N → Hand N → Type 0
  HoldsThree p x y z = (hand_of p ≡ z.node ∷ y.node ∷ x.node ∷ []) × (y.node ≢ x.node) × (z.node ≢ x.node) × (z.node ≢ y.node)

module _ {N D P : Type 0} {n : NodeGhosts N P} {q : PlacingGhosts P} {d : DisciplineGhosts D} where
  -- caller c, which searches for the place, holds only this live node, and the place is not below it
  abbrev pub SearchIsAt : Arena N D P n q d → ℕ → ℕ → Pass N D → Hand N → Type 0
  SearchIsAt a c place p x = IsOnWay (sort_of n.layout n.ranged) n.body c place (seen_of p) x

  -- the node that waits for an edge was split off: it is live, not the root, on its level, and begins at its cut
  abbrev pub WasSplitOff : Arena N D P n q d → Pass N D → Waiting → Type 0
  WasSplitOff a p w = IsSplitOff (sort_of n.layout n.ranged) (seen_of p) w

  -- only the half of x in which the place lies, or x itself, is held, and what was split off waits; or x is, and no node
  -- was found free to split it
  abbrev pub HoldsHalfOf : Arena N D P n q d → ℕ → Pass N D → Pass N D → Hand N → Result (Parted N) (Hand N) → Type 0
  HoldsHalfOf a place p p' x parted = HoldsHalf (sort_of n.layout n.ranged) n.body a.nodes p.caller place (seen_of p) (seen_of p') x parted

  -- so it is, and the search has ended at the half; or at x as before, and no node was found free
  abbrev pub HasMadeRoom : Arena N D P n q d → ℕ → Pass N D → Pass N D → Hand N → Result (Hand N) (Hand N) → Type 0
  HasMadeRoom a place p p' x made = MadeRoom (sort_of n.layout n.ranged) n.body a.nodes p.caller place (seen_of p) (seen_of p') x made

  -- the search for room has ended since p at a node that has the place, or room for it; or at a full one without it, and none
  -- was found free
  abbrev pub HasFoundRoom : Arena N D P n q d → ℕ → Pass N D → Pass N D → Result (Hand N) (Hand N) → Type 0
  HasFoundRoom a place p p' found = FoundRoom (sort_of n.layout n.ranged) n.body a.nodes p.caller place (seen_of p) (seen_of p') found

  -- each node that is live at p' was live at p, or is led to from one level above, or waits for an edge
  abbrev pub LeadsAllBut : Arena N D P n q d → List Waiting → Pass N D → Pass N D → Type 0
  LeadsAllBut a waiting p p' = LedBut (sort_of n.layout n.ranged) waiting (seen_of p) (seen_of p')

  -- so it is of the parts of a node: what was split off waits
  abbrev pub LeadsParts : Arena N D P n q d → Pass N D → Pass N D → Result (Parted N) (Hand N) → Type 0
  LeadsParts a p p' parted = PartsLed (sort_of n.layout n.ranged) (seen_of p) (seen_of p') parted

  -- each node that is live at p' was live at p, or is led to from one level above
  abbrev pub LeadsAll : Arena N D P n q d → Pass N D → Pass N D → Type 0
  LeadsAll a p p' = AreLed (sort_of n.layout n.ranged) (seen_of p) (seen_of p')

  -- this holds if no other caller acts from p to p', and two nodes are free in the end
  abbrev pub IfAloneWithRoom : Arena N D P n q d → Pass N D → Pass N D → Type 0 → Type 0
  IfAloneWithRoom a p p' Fact = WasAlone p p' → TwoFree a.nodes (seen_of p') → Fact

  -- caller c holds only this live node
  abbrev pub HoldsAloneOf : Arena N D P n q d → ℕ → Pass N D → Hand N → Type 0
  HoldsAloneOf a c p x = IsAlone (sort_of n.layout n.ranged) n.body c (seen_of p) x

  -- node i is led to at p', and so is each node that was made live since p; so it is with each node that waited
  abbrev pub LeadsOne : Arena N D P n q d → ℕ → Pass N D → Pass N D → Type 0
  LeadsOne a i p p' = IsLedTo a p' i × LeadsAllBut a [] p p'

  abbrev pub LeadsEach : Arena N D P n q d → List Waiting → Pass N D → Pass N D → Type 0
  LeadsEach a waiting p p' = ((i : ℕ) → Waits waiting i → IsLedTo a p' i) × LeadsAllBut a [] p p'

  -- a non-blocking search holds the root; it has gone on from node x to node i; it has ended. Or it was put off by p'
  abbrev pub TriedToEnter : Arena N D P n q d → ℕ → Pass N D → Pass N D → Result (Hand N) Later → Type 0
  TriedToEnter a place p p' found = Enters (sort_of n.layout n.ranged) n.body a.nodes p.caller place (seen_of p) (seen_of p') found

  abbrev pub TriedToGoOn : Arena N D P n q d → ℕ → Pass N D → Pass N D → Hand N → ℕ → Result (Hand N) Later → Type 0
  TriedToGoOn a place p p' x i found = GoesOn (sort_of n.layout n.ranged) n.body (n.body x.body) i a.nodes p.caller place (seen_of p) (seen_of p') found

  abbrev pub TriedToFind : Arena N D P n q d → ℕ → Pass N D → Pass N D → Result (Hand N) Later → Type 0
  TriedToFind a place p p' found = Finds (sort_of n.layout n.ranged) n.body a.nodes p.caller place (seen_of p) (seen_of p') found

  -- only the node one level above what was split off, whose range reaches the cut, is held; or nothing is held
  abbrev pub HoldsAbove : Arena N D P n q d → Waiting → Pass N D → Option (Hand N) → Type 0
  HoldsAbove a w p found = IsHeldAbove (sort_of n.layout n.ranged) n.body p.caller w (seen_of p) found

  -- a put or an add that is under way at p, since whatever moment, is done at p'
  abbrev pub Finishes : Arena N D P n q d → Op → Pass N D → Pass N D → Result Numbered Full → Type 0
  Finishes a op p p' answer = (start : List Event) → Underway link_move p.caller op start (seen_of p) → Done n.layout link_move a.nodes p.caller op start (seen_of p') (reply_in answer) (number_in answer)
