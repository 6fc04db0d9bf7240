-- What changes make of the frames of nodes.
use Rattle.std.specs.Prelude.{ℕ, ◌≡◌, ◌==◌, List, [], ◌∷◌, if◌then◌else◌}
use Rattle.ks_keysets.specs.declared.Frame.{Frame}
use Rattle.ks_keysets.specs.declared.NodeState.{NodeState}
use Rattle.ks_keysets.specs.declared.NewState.{NewState}
use Rattle.ks_keysets.specs.declared.NewState.TheVariants.{BecomesLive, BecomesFree}
use Rattle.ks_keysets.specs.declared.Change.{Change}
use Rattle.ks_keysets.specs.Keyset.{record_at}

-- the frame that a change sets for its node; a node made free keeps its own
abbrev pub new_frame : NewState → Frame → Frame
new_frame (BecomesLive r frame) f = frame
new_frame BecomesFree f = f

-- the frame of node i after the changes, if it was f
abbrev pub reframed : List Change → ℕ → Frame → Frame
reframed [] i f = f
reframed (x ∷ xs) i f = if i == x.node then new_frame x.state f else reframed xs i f

-- the second graph and its frames have the same live nodes as the first, with the same records and frames
pub record SameNodes (g : ℕ → NodeState) (f : ℕ → Frame) (k : ℕ → NodeState) (h : ℕ → Frame) : Type 0 where
  pub records : (n : ℕ) → record_at k n ≡ record_at g n
  pub frames : (n : ℕ) → h n ≡ f n
