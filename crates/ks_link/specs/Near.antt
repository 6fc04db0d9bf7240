-- Searches along links that begin at a hinted node.
use Rattle.std.specs.Prelude.{ℕ, ◌≡◌, List, [], Option, Some, None, Result, IfOk, IfSome}
use Rattle.ks_node.specs.declared.node.Node.{Ghosts as NodeGhosts}
use Rattle.ks_node.below.ks_places.specs.declared.Placing.{Ghosts as PlacingGhosts}
use Rattle.ks_flow.specs.declared.discipline.Discipline.{Ghosts as DisciplineGhosts}
use Rattle.ks_history.specs.declared.Op.{Op}
use Rattle.ks_history.specs.Done.{link_move}
use Rattle.ks_history.specs.Map.{told}
use Rattle.ks_history.specs.Underway.{Underway}
use Rattle.ks_arena.specs.declared.arena.Arena.{Arena}
use Rattle.ks_arena.specs.declared.held.Pass.{Pass}
use Rattle.ks_arena.specs.Clauses.{seen_of}
use Rattle.ks_history.specs.declared.Event.{Event}
use Rattle.ks_history.specs.Own.{hand}
use Rattle.ks_node.specs.Body.{Body}
use Rattle.ks_arena.specs.declared.held.Held.{Held as Hand}
use Rattle.ks_arena.specs.Sound.{Sort, blank_of, sort_of}
use Rattle.ks_shape.specs.declared.answers.Full.{Full}
use Rattle.ks_shape.specs.declared.answers.NumberedAt.{NumberedAt}
use Rattle.ks_shape.specs.Hinted.{DoneWhere, WasAbove}
use Rattle.ks_shape.specs.SearchEnd.{IsEnd}
use Rattle.ks_link.specs.declared.near.Reached.{Reached}
use Rattle.ks_link.specs.Descent.{IsOnWay}

-- c, which searches for the place, holds nothing, or only a live node that is not above the place
abbrev pub CameNear : {N : Type 0} → Sort → (N → Body) → ℕ → ℕ → List Event → Option (Hand N) → Type 0
CameNear sort shows c place h None = hand c h ≡ []
CameNear sort shows c place h (Some x) = IsOnWay sort shows c place h x

-- c, which searched from h to k, holds nothing, or the node where its search has ended, and what it passed it passed between
abbrev pub HasWalked : {N : Type 0} → Sort → (N → Body) → ℕ → ℕ → List Event → List Event → Option (Reached N) → Type 0
HasWalked sort shows c place h k None = hand c k ≡ []
HasWalked sort shows c place h k (Some r) = IsOnWay sort shows c place k r.held × IsEnd sort shows c place k r.held × IfSome r.above (WasAbove sort place h k)

module _ {N D P : Type 0} {n : NodeGhosts N P} {q : PlacingGhosts P} {d : DisciplineGhosts D} where
  -- a put or an add that is under way at p, since whatever moment, is done at p', unless it is full, and its result says where
  abbrev pub FinishesNear : Arena N D P n q d → Op → Pass N D → Pass N D → Result NumberedAt Full → Type 0
  FinishesNear a op p p' answer = IfOk answer (λ at. (start : List Event) → Underway link_move p.caller op start (seen_of p) → DoneWhere n.layout link_move a.nodes p.caller op start (seen_of p') (told at.found) at.number at.node at.low at.last (blank_of (sort_of n.layout n.ranged)))
