-- A list of changes: the nodes that it names, and the graph and the frames after it.
use Rattle.std.specs.Prelude.{ℕ, ◌≡◌, List, [], ◌∷◌, AllPairs}
use Rattle.ks_keysets.specs.declared.Frame.{Frame}
use Rattle.ks_keysets.specs.declared.NodeState.{NodeState}
use Rattle.ks_keysets.specs.declared.Change.{Change}
use Rattle.ks_keysets.specs.Keyset.{live_record, record_at}
use Rattle.ks_keysets.specs.Change.{new_state, shaped}
use Rattle.ks_keysets.specs.Reframed.{new_frame, reframed}

-- the nodes that the changes name: their region
abbrev pub nodes_of : List Change → List ℕ
nodes_of [] = []
nodes_of (x ∷ xs) = x.node ∷ nodes_of xs

-- the graph after the changes
abbrev pub graph_with : List Change → (ℕ → NodeState) → ℕ → NodeState
graph_with xs g i = shaped xs i (g i)

-- the frames after the changes
abbrev pub frames_with : List Change → (ℕ → Frame) → ℕ → Frame
frames_with xs f i = reframed xs i (f i)

-- each node is named once
abbrev pub NamedOnce : List Change → Type 0
NamedOnce = AllPairs (λ x y. x.node ≡ y.node → ⊥)

-- the node of the change has the record, if any, and the frame that the change says
pub record HasBecome (f : ℕ → Frame) (k : ℕ → NodeState) (h : ℕ → Frame) (x : Change) : Type 0 where
  pub has : record_at k x.node ≡ live_record (new_state x.state)
  pub frame : h x.node ≡ new_frame x.state (f x.node)
