-- What a caller holds that merges nodes, and the result of a try to merge.
use Rattle.std.specs.Prelude.{◌≡◌, ◌⊎◌, ℕ, Bool, true, false, IsTrue, List, ◌∷◌, Option, Some, None}
use Rattle.ks_keysets.specs.Keyset.{InInset}
use Rattle.ks_keysets.specs.Layout.{Layout}
use Rattle.ks_keysets.specs.Tight.{FitsNoRight}
use Rattle.ks_history.specs.declared.Event.{Event}
use Rattle.ks_history.specs.Alone.{ActsAlone}
use Rattle.ks_history.specs.Own.{hand}
use Rattle.ks_history.specs.Trace.{graph_after}
use Rattle.ks_history.specs.Frames.{frame_after}
use Rattle.ks_node.specs.Body.{Body, only_child_of}
use Rattle.ks_node.specs.Room.{in_place, is_low}
use Rattle.ks_arena.specs.declared.held.Held.{Held as Hand}
use Rattle.ks_arena.specs.Sound.{Sort, blank_of}
use Rattle.ks_arena.specs.Clauses.{Matches}
use Rattle.ks_shape.specs.declared.path.Path.{Path}
use Rattle.ks_shape.specs.OnPath.{IsOnPath, IsUnder, numbers}
use Rattle.ks_tidy.specs.declared.step.Step.{Step}
use Rattle.ks_tidy.specs.declared.step.Step.TheVariants.{Freed, Rests}
use Rattle.ks_shape.specs.Frees.{Frees}

-- where the search is after a try to merge
abbrev pub path_in : {N : Type 0} → Step N → Path N
path_in (Freed x) = x
path_in (Rests x) = x

-- how many nodes it made free
abbrev pub count_in : {N : Type 0} → Step N → ℕ
count_in (Freed x) = 1
count_in (Rests x) = 0

-- whether another search has to follow: nodes of the type grow in place, and the Shapes of c made a node free from h to k; it
-- claimed none and made no call
pub record ComesAgain (grows : Bool) (c : ℕ) (h k : List Event) (again : Bool) : Type 0 where
  pub none : again ≡ false → IsTrue grows → Frees c h k 0
  pub some : IsTrue again → IsTrue grows × ¬ Frees c h k 0

-- node i takes over an only child: it is the root, or its type grows in place, and then any node does
abbrev pub TakesOver : Layout → ℕ → Type 0
TakesOver layout i = (i ≡ 0) ⊎ IsTrue (in_place layout)

-- the path has the parent of its node, unless that is the root. One whose node took over its child below the root has none
abbrev pub IsWhole : {N : Type 0} → Path N → Type 0
IsWhole x = x.parent ≡ None → x.node.node ≡ 0

module _ {N : Type 0} (sort : Sort) (shows : N → Body) where
  -- after h, c, which searches for the place, holds a node on its path, and the node that leads to it; a node that takes over
  -- its child may have none
  pub record IsPair (c place : ℕ) (h : List Event) (x : Path N) : Type 0 where
    pub path : IsOnPath sort shows c place h x
    pub rooted : x.parent ≡ None → TakesOver sort.layout x.node.node

  -- after h, c, which searches for the place, holds the nodes of a path, and one live node beside
  pub record IsTrio (c place : ℕ) (h : List Event) (x : Path N) (right : Hand N) : Type 0 where
    pub hands : hand c h ≡ right.node ∷ x.node.node ∷ numbers x.parent
    pub live : x.node.live ≡ true
    pub matches : Matches sort shows h x.node
    pub inside : InInset (graph_after h) x.node.node place
    pub under : IsUnder sort shows place x.node h x.parent
    pub rooted : x.parent ≡ None → TakesOver sort.layout x.node.node
    pub right_live : right.live ≡ true
    pub right_matches : Matches sort shows h right

  -- if this node above takes over an only child, it is no branch all of whose edges lead to one child
  abbrev pub IsNoSole : Option (Hand N) → Type 0
  IsNoSole None = Unit {0}
  IsNoSole (Some y) = TakesOver sort.layout y.node → only_child_of (shows y.body) ≡ None

  -- if no other caller acts from h to k, node i fits with no right neighbour after k
  abbrev pub FitsAlone : ℕ → ℕ → List Event → List Event → Type 0
  FitsAlone c i h k = ActsAlone c h k → FitsNoRight sort.layout (graph_after k) (frame_after (blank_of sort) k) i

  -- nothing was merged from h to k: the path is as before; if it is whole, its node has no right neighbour that fits, if it
  -- was looked for: for each node, or for a low one
  pub record HasRested (c : ℕ) (h k : List Event) (thorough : Bool) (path x : Path N) : Type 0 where
    pub same : x ≡ path
    pub frees : Frees c h k 0
    pub no_sole : IsNoSole path.parent
    pub tested : IsWhole path → IsTrue thorough ⊎ IsTrue (is_low sort.layout (shows path.node.body)) → FitsAlone c path.node.node h k

  -- the result of a try to merge from h to k: one node was made free, or none
  abbrev pub DidStep : ℕ → List Event → List Event → Bool → Path N → Step N → Type 0
  DidStep c h k thorough path (Freed x) = Frees c h k 1
  DidStep c h k thorough path (Rests x) = HasRested c h k thorough path x
