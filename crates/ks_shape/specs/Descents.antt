-- What non-blocking descents require and ensure, for clauses that see an arena and a pass before and after.
use Rattle.std.specs.Prelude.{ℕ, ◌≡◌, ◌≤◌, suc, List, [], Result, Ok, Err}
use Rattle.ks_node.specs.declared.node.Node.{Ghosts as NodeGhosts}
use Rattle.ks_node.below.ks_places.specs.declared.Placing.{Ghosts as PlacingGhosts}
use Rattle.ks_flow.specs.declared.discipline.Discipline.{Ghosts as DisciplineGhosts}
use Rattle.ks_history.specs.declared.Event.{Event}
use Rattle.ks_history.specs.declared.Op.{Op}
use Rattle.ks_history.specs.Map.{Touches}
use Rattle.ks_history.specs.Own.{hand}
use Rattle.ks_history.specs.Done.{Template}
use Rattle.ks_history.specs.Refusals.{FarDue}
use Rattle.ks_node.specs.Body.{Body}
use Rattle.ks_arena.specs.declared.arena.Arena.{Arena}
use Rattle.ks_arena.specs.declared.held.Pass.{Pass}
use Rattle.ks_arena.specs.declared.held.Held.{Held as Hand}
use Rattle.ks_arena.specs.Sound.{Sort, sort_of}
use Rattle.ks_arena.specs.Clauses.{seen_of}
use Rattle.ks_shape.specs.declared.answers.Later.{Later}
use Rattle.ks_shape.specs.OnWay.{IsOnWay}
use Rattle.ks_shape.specs.SearchEnd.{IsEnd}
use Rattle.ks_shape.specs.Tries.{IsCause}
use Rattle.ks_shape.specs.Down.{IsDown}
use Rattle.ks_shape.specs.Next.{LeadsOnTo}

-- the cause that puts off c's operation at the place, whichever it is, is due
abbrev pub IsCauseAt : Template → ℕ → ℕ → ℕ → List Event → List Event → Later → Type 0
IsCauseAt template n c place s0 h later = (op : Op) → Touches op place → IsCause template n c op s0 h later

-- c, whose search began at s0, holds only this node, which is on the search path and this many steps deep; or it holds nothing,
-- and the cause that put it off is due
abbrev pub IsAt : {N : Type 0} → Sort → (N → Body) → Template → ℕ → ℕ → ℕ → List Event → List Event → ℕ → Result (Hand N) Later → Type 0
IsAt sort shows template n c place s0 h steps (Ok x) = IsOnWay sort shows c place h x × IsDown n c s0 h (suc steps) 1 steps x.node
IsAt sort shows template n c place s0 h steps (Err later) = (hand c h ≡ []) × IsCauseAt template n c place s0 h later

-- c, whose search began at s0, holds only the node at which it ends; or it holds nothing, and the cause that put it off is due
abbrev pub CameTo : {N : Type 0} → Sort → (N → Body) → Template → ℕ → ℕ → ℕ → List Event → List Event → Result (Hand N) Later → Type 0
CameTo sort shows template n c place s0 h (Ok x) = IsEnd sort shows c place h x
CameTo sort shows template n c place s0 h (Err later) = (hand c h ≡ []) × IsCauseAt template n c place s0 h later

module _ {N D P : Type 0} {n : NodeGhosts N P} {q : PlacingGhosts P} {d : DisciplineGhosts D} where
  -- the search for the place goes on from the node x to node j
  abbrev pub LeadsOnFrom : Arena N D P n q d → Pass N D → Hand N → ℕ → ℕ → Type 0
  LeadsOnFrom a p x place j = LeadsOnTo (sort_of n.layout n.ranged) a.table.shared.table_id.slots a.nodes p.caller place (seen_of p) x.node j

  -- since the start c took one more than this many nodes, each a step deeper than the one before, down to the node x
  abbrev pub CameDownTo : Arena N D P n q d → ℕ → List Event → Pass N D → ℕ → Hand N → Type 0
  CameDownTo a c start p steps x = IsDown a.nodes c start (seen_of p) (suc steps) 1 steps x.node

  -- the search for the place that began at p has taken the root at p', and is there; or the caller holds nothing, and the cause
  -- that put it off is due
  abbrev pub StandsAtRoot : Arena N D P n q d → Template → ℕ → Pass N D → Pass N D → Result (Hand N) Later → Type 0
  StandsAtRoot a template place p p' result = IsAt (sort_of n.layout n.ranged) n.body template a.nodes p.caller place (seen_of p) (seen_of p') 0 result

  -- a search for the place that came down to the node x at p is a step deeper at p'; or the cause that put it off is due
  abbrev pub GoesDownFrom : Arena N D P n q d → Template → ℕ → Pass N D → Pass N D → Hand N → Result (Hand N) Later → Type 0
  GoesDownFrom a template place p p' x result = (start : List Event) (steps : ℕ) → CameDownTo a p.caller start p steps x → IsAt (sort_of n.layout n.ranged) n.body template a.nodes p.caller place start (seen_of p') (suc steps) result

  -- if a call came down to the node x at p by as many takes as there are nodes, another caller has changed some since it began
  abbrev pub IsFarFrom : Arena N D P n q d → Pass N D → Pass N D → Hand N → Type 0
  IsFarFrom a p p' x = (start : List Event) (steps : ℕ) → a.nodes ≤ suc steps → CameDownTo a p.caller start p steps x → FarDue a.nodes p.caller start (seen_of p')

  -- the result of a search between p and p'
  abbrev pub CameToEnd : Arena N D P n q d → Template → ℕ → Pass N D → Pass N D → Result (Hand N) Later → Type 0
  CameToEnd a template place p p' result = CameTo (sort_of n.layout n.ranged) n.body template a.nodes p.caller place (seen_of p) (seen_of p') result
