-- What the steps of a non-blocking search that keeps the parent of its node ensure.
use Rattle.std.specs.Prelude.{ℕ, ◌≡◌, List, [], Some, None, Result, Ok, Err}
use Rattle.ks_node.specs.declared.node.Node.{Ghosts as NodeGhosts}
use Rattle.ks_node.below.ks_places.specs.declared.Placing.{Ghosts as PlacingGhosts}
use Rattle.ks_flow.specs.declared.discipline.Discipline.{Ghosts as DisciplineGhosts}
use Rattle.ks_history.specs.declared.Event.{Event}
use Rattle.ks_history.specs.declared.Event.TheVariants.{Give, Take}
use Rattle.ks_history.specs.Done.{coupling}
use Rattle.ks_history.specs.Passes.{GrowsByOthers, GrowsWith}
use Rattle.ks_history.specs.Trace.{◌⊑◌}
use Rattle.ks_history.specs.Own.{hand}
use Rattle.ks_node.specs.Body.{Body}
use Rattle.ks_arena.specs.declared.arena.Arena.{Arena}
use Rattle.ks_arena.specs.declared.held.Pass.{Pass}
use Rattle.ks_arena.specs.declared.held.Held.{Held as Hand}
use Rattle.ks_arena.specs.Sound.{Sort, sort_of}
use Rattle.ks_arena.specs.Clauses.{seen_of}
use Rattle.ks_shape.specs.declared.answers.Later.{Later}
use Rattle.ks_shape.specs.declared.path.Path.{Path}
use Rattle.ks_shape.specs.Descents.{IsCauseAt}
use Rattle.ks_shape.specs.OnPath.{IsOnPath}

module _ {N : Type 0} (sort : Sort) (shows : N → Body) where
  -- c, which searches for the place, is on the path; or it holds nothing
  abbrev pub PathOrNone : ℕ → ℕ → List Event → Result (Path N) Later → Type 0
  PathOrNone c place h (Ok path) = IsOnPath sort shows c place h path
  PathOrNone c place h (Err later) = hand c h ≡ []

module _ {N : Type 0} (n c place : ℕ) (s0 h : List Event) where
  -- the cause that put off c's search for the place since s0, if it was put off, is due
  abbrev pub CauseIf : Result (Path N) Later → Type 0
  CauseIf (Ok path) = Unit {0}
  CauseIf (Err later) = IsCauseAt coupling n c place s0 h later

-- the node of the path is the root, or a child of this node; or the search was put off
abbrev pub IsAtRoot : {N : Type 0} → Result (Path N) Later → Type 0
IsAtRoot (Ok path) = path.parent ≡ None
IsAtRoot (Err later) = Unit {0}

abbrev pub HangsFrom : {N : Type 0} → Hand N → Result (Path N) Later → Type 0
HangsFrom x (Ok path) = path.parent ≡ Some x
HangsFrom x (Err later) = Unit {0}

module _ {N D : Type 0} where
  -- the caller took node i between p and p', now the node of its path, and did nothing else; or another held it, and the caller
  -- did nothing, or released the node x and did nothing else
  abbrev pub TookOrLooked : ℕ → Pass N D → Pass N D → Result (Path N) Later → Type 0
  TookOrLooked i p p' (Ok path) = (path.node.node ≡ i) × GrowsWith p.caller (Take p.caller i) (seen_of p) (seen_of p')
  TookOrLooked i p p' (Err later) = GrowsByOthers p.caller (seen_of p) (seen_of p')

  abbrev pub TookOrGave : ℕ → Hand N → Pass N D → Pass N D → Result (Path N) Later → Type 0
  TookOrGave i x p p' (Ok path) = (path.node.node ≡ i) × GrowsWith p.caller (Take p.caller i) (seen_of p) (seen_of p')
  TookOrGave i x p p' (Err later) = GrowsWith p.caller (Give p.caller x.node) (seen_of p) (seen_of p')

module _ {N D P : Type 0} {n : NodeGhosts N P} {q : PlacingGhosts P} {d : DisciplineGhosts D} where
  abbrev pub StandsOrNone : Arena N D P n q d → ℕ → ℕ → Pass N D → Result (Path N) Later → Type 0
  StandsOrNone a c place p result = PathOrNone (sort_of n.layout n.ranged) n.body c place (seen_of p) result

  -- the cause that put off a search for the place between p and p', whenever it began, is due
  abbrev pub IsBusyDue : Arena N D P n q d → ℕ → Pass N D → Pass N D → Result (Path N) Later → Type 0
  IsBusyDue a place p p' result = (start : List Event) → start ⊑ seen_of p → CauseIf a.nodes p.caller place start (seen_of p') result
