-- Where a search that gives up goes.
use Rattle.std.specs.Prelude.{ℕ, ◌≡◌, ◌⊎◌, List, ◌∷◌, ◌++◌, Some}
use Rattle.ks_keysets.specs.declared.Record.{Record}
use Rattle.ks_keysets.specs.Record.{LeadsTo}
use Rattle.ks_keysets.specs.Keyset.{record_at}
use Rattle.ks_history.specs.declared.Event.{Event}
use Rattle.ks_history.specs.declared.Event.TheVariants.{Take, Give, Claim, Shape, Call, Twin}
use Rattle.ks_history.specs.Trace.{graph_after}
use Rattle.ks_history.specs.Callers.{NoneBy}
use Rattle.ks_history.specs.Done.{HoldsAbove}
use Rattle.ks_node.specs.declared.node.Node.{Ghosts as NodeGhosts}
use Rattle.ks_node.below.ks_places.specs.declared.Placing.{Ghosts as PlacingGhosts}
use Rattle.ks_node.specs.declared.start.Next.TheVariants.{Go}
use Rattle.ks_node.specs.Body.{next_at}
use Rattle.ks_flow.specs.declared.discipline.Discipline.{Ghosts as DisciplineGhosts}
use Rattle.ks_arena.specs.declared.arena.Arena.{Arena}
use Rattle.ks_arena.specs.declared.held.Pass.{Pass}
use Rattle.ks_arena.specs.declared.held.Held.{Held as Hand}
use Rattle.ks_arena.specs.Clauses.{seen_of}
use Rattle.ks_shape.specs.Of.{IsOnWayOf}

-- the last event of c released a node of which an edge then carried the place to node i
pub record IsHinted (c place i : ℕ) (h : List Event) : Type 0 where
  pub given : ℕ
  pub older : List Event
  pub rest : List Event
  pub is : h ≡ rest ++ Give c given ∷ older
  pub last : NoneBy c rest
  pub node : Record
  pub had : record_at (graph_after older) given ≡ Some node
  pub leads : LeadsTo node place i

-- the search of c for the place, which holds nothing, may begin or go on at node i: the root, or one that is hinted at
abbrev pub MayVisit : ℕ → ℕ → ℕ → List Event → Type 0
MayVisit c place i h = (i ≡ 0) ⊎ IsHinted c place i h

-- if the event that follows h is a Take of c, it is such a visit, or of a node to which a held node has an edge
abbrev pub GoesWell : ℕ → ℕ → List Event → Event → Type 0
GoesWell c place h (Take d i) = d ≡ c → MayVisit c place i h ⊎ HoldsAbove h c i
GoesWell c place h (Give d i) = Unit {0}
GoesWell c place h (Claim d i) = Unit {0}
GoesWell c place h (Shape d changes) = Unit {0}
GoesWell c place h (Call d i op reply) = Unit {0}
GoesWell c place h (Twin d i j op reply) = Unit {0}

-- so it is with each Take of c since s0
pub data Goes (c place : ℕ) (s0 : List Event) : List Event → Type 0 where
  at_first : Goes c place s0 s0
  and_on : {h : List Event} {e : Event} → Goes c place s0 h → GoesWell c place h e → Goes c place s0 (e ∷ h)

module _ {N D : Type 0} where
  -- what the pass has seen lets its caller visit node i in its search for the place
  abbrev pub MayVisitNext : ℕ → ℕ → Pass N D → Type 0
  MayVisitNext place i p = MayVisit p.caller place i (seen_of p)

  -- each node that the caller took from p to q is the root, or the one to which an edge of the node that it released just
  -- before carries the place, or one to which a node that it holds has an edge
  abbrev pub GoesTowards : ℕ → Pass N D → Pass N D → Type 0
  GoesTowards place p q = Goes p.caller place (seen_of p) (seen_of q)

module _ {N D P : Type 0} {n : NodeGhosts N P} {q : PlacingGhosts P} {d : DisciplineGhosts D} where
  -- caller c, which searches for the place, holds only this node on its search path, whose edge leads on to the child
  abbrev pub GoesOnTo : Arena N D P n q d → ℕ → ℕ → Pass N D → Hand N → ℕ → Type 0
  GoesOnTo a c place p x child = IsOnWayOf a c place p x × (next_at (n.body x.body) place ≡ Go child)
