-- Nodes on the path of a non-blocking search by giving up, which it does not hold yet.
use Rattle.std.proofs.Common.{ℕ, ◌≡◌, ◌≤◌, List, []}
use Rattle.std.specs.Prelude.{Result, Ok, Err}
use Rattle.ks_keysets.specs.Keyset.{InInset}
use Rattle.ks_node.specs.declared.node.Node.{Ghosts as NodeGhosts}
use Rattle.ks_node.below.ks_places.specs.declared.Placing.{Ghosts as PlacingGhosts}
use Rattle.ks_flow.specs.declared.discipline.Discipline.{Ghosts as DisciplineGhosts}
use Rattle.ks_history.specs.declared.Event.{Event}
use Rattle.ks_history.specs.declared.Event.TheVariants.{Take}
use Rattle.ks_history.specs.Trace.{◌⊑◌, graph_after}
use Rattle.ks_history.specs.Own.{hand}
use Rattle.ks_history.specs.Passes.{GrowsWith}
use Rattle.ks_history.specs.Beside.{OwnSpare}
use Rattle.ks_history.specs.Done.{give_up}
use Rattle.ks_history.specs.Refusals.{IsOnWay as IsNextOnWay}
use Rattle.ks_node.specs.Body.{Body, first_of, last_of}
use Rattle.ks_arena.specs.declared.arena.Arena.{Arena}
use Rattle.ks_arena.specs.declared.held.Pass.{Pass}
use Rattle.ks_arena.specs.declared.held.Held.{Held as Hand}
use Rattle.ks_arena.specs.Sound.{Sort, sort_of}
use Rattle.ks_arena.specs.Clauses.{seen_of}
use Rattle.ks_shape.specs.declared.answers.Later.{Later}
use Rattle.ks_shape.specs.OnWay.{IsOnWay}
use Rattle.ks_shape.specs.Descents.{IsCauseAt}

-- the place lies within the range of the body
abbrev pub IsWithin : Body → ℕ → Type 0
IsWithin b place = (first_of b.range ≤ place) × (place ≤ last_of b.range)

-- at some moment since s0 node j was on the search path of the place, which was in its inset, and since then c has made no
-- Shape of it
pub record WasOnWay (c place : ℕ) (s0 h : List Event) (j : ℕ) : Type 0 where
  pub moment : List Event
  pub since : s0 ⊑ moment
  pub later : moment ⊑ h
  pub spare : OwnSpare c j later.rest
  pub on_way : IsNextOnWay (graph_after moment) place j
  pub inside : InInset (graph_after moment) j place

-- c, whose search began at s0 and came to node j at h, has taken it and is on its search path; or it holds nothing, and the
-- cause that put it off is due
abbrev pub Visited : {N : Type 0} → Sort → (N → Body) → ℕ → ℕ → ℕ → List Event → List Event → List Event → ℕ → Result (Hand N) Later → Type 0
Visited sort shows n c place s0 h k j (Ok x) = IsOnWay sort shows c place k x × (x.node ≡ j) × GrowsWith c (Take c j) h k
Visited sort shows n c place s0 h k j (Err later) = (hand c k ≡ []) × IsCauseAt give_up n c place s0 k later

module _ {N D P : Type 0} {n : NodeGhosts N P} {q : PlacingGhosts P} {d : DisciplineGhosts D} where
  -- a search for the place which the caller began at some moment, since when node j was on its path, has visited the node
  -- between p and p'
  abbrev pub ComesTo : Arena N D P n q d → ℕ → Pass N D → Pass N D → ℕ → Result (Hand N) Later → Type 0
  ComesTo a place p p' j result = (start : List Event) → WasOnWay p.caller place start (seen_of p) j → Visited (sort_of n.layout n.ranged) n.body a.nodes p.caller place start (seen_of p) (seen_of p') j result
