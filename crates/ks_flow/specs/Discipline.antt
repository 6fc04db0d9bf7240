-- What a discipline of shapes is: facts of graphs and frames that hold from the opening on, and a condition on each Shape
-- that keeps the facts, keeps the graph good, and keeps what is found in it.
use Rattle.std.specs.Prelude.{ℕ, ◌≡◌, ◌⊎◌, false, List, [], ◌∷◌, Some}
use Rattle.ks_keysets.specs.declared.Frame.{Frame}
use Rattle.ks_keysets.specs.declared.NodeState.{NodeState}
use Rattle.ks_keysets.specs.declared.Record.{Record}
use Rattle.ks_keysets.specs.declared.Span.{Span}
use Rattle.ks_keysets.specs.declared.Change.{Change}
use Rattle.ks_keysets.specs.Record.{top}
use Rattle.ks_keysets.specs.Keyset.{opening, InInset, Good, SameFound, InKeyset}
use Rattle.ks_flow.specs.Changes.{nodes_of, graph_with, frames_with}
use Rattle.ks_flow.specs.Ways.{names, KeepsWays}
use Rattle.ks_flow.specs.Tree.{Tree, SameEdges}
use Rattle.ks_flow.specs.Link.{KeepsLink, IsAttach}

-- the inset of the node is the same in both graphs
pub record SameInset (n : ℕ) (g k : ℕ → NodeState) : Type 0 where
  pub forth : (p : ℕ) → InInset g n p → InInset k n p
  pub back : (p : ℕ) → InInset k n p → InInset g n p

-- and its keyset
pub record SameKeyset (n : ℕ) (g k : ℕ → NodeState) : Type 0 where
  pub forth : (p : ℕ) → InKeyset g n p → InKeyset k n p
  pub back : (p : ℕ) → InKeyset k n p → InKeyset g n p

-- the laws of a discipline. `begins` is what it requires of the frame of a blank body, `facts` what holds of graph and
-- frames between events, `step` what a Shape must meet; `lasts` says what stays whatever happens, and `beside` what
-- stays at a node that no Shape names
pub record IsDiscipline (begins : Frame → Type 0) (facts : (ℕ → NodeState) → (ℕ → Frame) → Type 0) (step : (ℕ → NodeState) → (ℕ → Frame) → List Change → Type 0) (lasts : (ℕ → NodeState) → (ℕ → Frame) → (ℕ → NodeState) → (ℕ → Frame) → Type 0) (beside : ℕ → (ℕ → NodeState) → (ℕ → NodeState) → Type 0) : Type 0 where
  -- the facts hold at the opening
  pub opens : (blank : Frame) → begins blank → facts opening (λ n. blank)
  -- a Shape keeps a graph good, what is found in it, and the facts
  pub good : (g : ℕ → NodeState) (f : ℕ → Frame) (xs : List Change) → Good g → step g f xs → Good (graph_with xs g)
  pub found : (g : ℕ → NodeState) (f : ℕ → Frame) (xs : List Change) → Good g → step g f xs → SameFound g (graph_with xs g)
  pub facts_after : (g : ℕ → NodeState) (f : ℕ → Frame) (xs : List Change) → step g f xs → facts (graph_with xs g) (frames_with xs f)
  -- the facts remain if live nodes and their edges remain
  pub facts_along : (g k : ℕ → NodeState) (f : ℕ → Frame) → SameEdges g k → facts g f → facts k f
  -- what lasts
  pub lasts_after : (g : ℕ → NodeState) (f : ℕ → Frame) (xs : List Change) → step g f xs → lasts g f (graph_with xs g) (frames_with xs f)
  pub lasts_along : (g k : ℕ → NodeState) (f : ℕ → Frame) → SameEdges g k → lasts g f k f
  pub lasts_on : (g k l : ℕ → NodeState) (f h j : ℕ → Frame) → lasts g f k h → lasts k h l j → lasts g f l j
  -- the keyset of a node stays, if the Shape does not name it
  pub keyset_after : (g : ℕ → NodeState) (f : ℕ → Frame) (xs : List Change) (n : ℕ) → Good g → step g f xs → names (nodes_of xs) n ≡ false → SameKeyset n g (graph_with xs g)
  pub keyset_along : (g k : ℕ → NodeState) (n : ℕ) → SameEdges g k → SameKeyset n g k
  -- and so does what stays at a node beside the region
  pub beside_after : (g : ℕ → NodeState) (f : ℕ → Frame) (xs : List Change) (n : ℕ) → Good g → step g f xs → names (nodes_of xs) n ≡ false → beside n g (graph_with xs g)
  pub beside_along : (g k : ℕ → NodeState) (n : ℕ) → SameEdges g k → beside n g k
  pub beside_on : (g k l : ℕ → NodeState) (n : ℕ) → beside n g k → beside n k l → beside n g l

-- the frame of a blank body under trees: its low is the first place, and so is its range, if it has one, all places
pub record BeginsTree (blank : Frame) : Type 0 where
  pub low : blank.low ≡ 0
  pub range : (s : Span) → blank.range ≡ Some s → (s.low ≡ 0) × (s.last ≡ top)

-- a Shape under trees keeps ways and the facts of trees
pub record TreeStep (g : ℕ → NodeState) (f : ℕ → Frame) (xs : List Change) : Type 0 where
  pub ways : KeepsWays g (nodes_of xs) (graph_with xs g)
  pub tree : Tree (graph_with xs g) (frames_with xs f)

-- what lasts under trees beside the facts: nothing
abbrev pub LastsUnderTree : (ℕ → NodeState) → (ℕ → Frame) → (ℕ → NodeState) → (ℕ → Frame) → Type 0
LastsUnderTree g f k h = Unit {0}

-- the frame of a blank body under links: its range is all places, on level 0
pub record BeginsLink (blank : Frame) : Type 0 where
  pub low : blank.low ≡ 0
  pub range : blank.range ≡ Some (record { low = 0; last = top })
  pub level : blank.level ≡ 0

-- the changes are an attach: they name one node
pub record AttachStep (g : ℕ → NodeState) (xs : List Change) : Type 0 where
  pub node : ℕ
  pub before : Record
  pub after : Record
  pub alone : nodes_of xs ≡ node ∷ []
  pub is : IsAttach g node (graph_with xs g) before after

-- a Shape under links keeps ways or is an attach, and keeps the facts of links
pub record LinkStep (g : ℕ → NodeState) (f : ℕ → Frame) (xs : List Change) : Type 0 where
  pub ways : KeepsWays g (nodes_of xs) (graph_with xs g) ⊎ AttachStep g xs
  pub keeps : KeepsLink g f (graph_with xs g) (frames_with xs f)
