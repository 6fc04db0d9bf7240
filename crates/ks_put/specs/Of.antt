-- What a search that keeps the parent requires and ensures, of an arena and of a pass before and after.
use Rattle.std.specs.Prelude.{ℕ, List, Result}
use Rattle.ks_node.specs.declared.node.Node.{Ghosts as NodeGhosts}
use Rattle.ks_node.below.ks_places.specs.declared.Placing.{Ghosts as PlacingGhosts}
use Rattle.ks_flow.specs.declared.discipline.Discipline.{Ghosts as DisciplineGhosts}
use Rattle.ks_history.specs.declared.Event.{Event}
use Rattle.ks_arena.specs.declared.arena.Arena.{Arena}
use Rattle.ks_arena.specs.declared.held.Pass.{Pass}
use Rattle.ks_arena.specs.declared.held.Held.{Held as Hand}
use Rattle.ks_arena.specs.Sound.{sort_of}
use Rattle.ks_arena.specs.Clauses.{seen_of}
use Rattle.ks_shape.specs.Fills.{FoundRoom}
use Rattle.ks_put.specs.declared.halves.Part.{Part}
use Rattle.ks_shape.specs.declared.path.Path.{Path}
use Rattle.ks_put.specs.Parts.{IsPart, DidPart, GrowAll}
use Rattle.ks_put.specs.HadRoom.{HadRoom}
use Rattle.ks_put.specs.Deeper.{IsDownPath, IsDownPart}

module _ {N D P : Type 0} {n : NodeGhosts N P} {q : PlacingGhosts P} {d : DisciplineGhosts D} where
  -- the place is in the inset of the node x, and the other leads to it there
  abbrev pub IsPartOf : Arena N D P n q d → ℕ → Pass N D → Hand N → Hand N → Type 0
  IsPartOf a place p above x = IsPart (sort_of n.layout n.ranged) n.body place (seen_of p) above x

  -- what a try to split the node of a path ensures
  abbrev pub TriedToSplit : Arena N D P n q d → ℕ → Pass N D → Pass N D → Path N → Part N → Type 0
  TriedToSplit a place p p' path part = DidPart (sort_of n.layout n.ranged) n.body a.nodes p.caller place (seen_of p) (seen_of p') path part

  -- each node of the type grows, branches adopt, and neither half of a full node is full
  abbrev pub AllGrow : Arena N D P n q d → Type 0
  AllGrow a = GrowAll n.grows_at n.body n.branches_adopt n.halves_have_room

  -- the search is as many steps down at p' as it was at p, by as many takes; so after a try to split
  abbrev pub KeepsDown : Arena N D P n q d → Pass N D → Pass N D → Path N → Path N → Type 0
  KeepsDown a p p' path path' = (start : List Event) (taken roots steps : ℕ) → IsDownPath a.nodes p.caller start (seen_of p) taken roots steps path → IsDownPath a.nodes p.caller start (seen_of p') taken roots steps path'

  abbrev pub PartsDown : Arena N D P n q d → Pass N D → Pass N D → Path N → Part N → Type 0
  PartsDown a p p' path part = (start : List Event) (taken roots steps : ℕ) → IsDownPath a.nodes p.caller start (seen_of p) taken roots steps path → IsDownPart a.nodes p.caller start (seen_of p') taken roots steps part

  -- the result of a search for room between p and p': a node that has the place, or room for it; or a full one without it,
  -- and no node was free
  abbrev pub CameToRoom : Arena N D P n q d → ℕ → Pass N D → Pass N D → Result (Hand N) (Hand N) → Type 0
  CameToRoom a place p p' found = FoundRoom (sort_of n.layout n.ranged) n.body a.nodes p.caller place (seen_of p) (seen_of p') found

  -- at some moment between p and p' there was room for the place
  abbrev pub HadRoomFor : Arena N D P n q d → ℕ → Pass N D → Pass N D → Type 0
  HadRoomFor a place p p' = HadRoom n.layout place (seen_of p) (seen_of p')
