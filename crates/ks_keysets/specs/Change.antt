-- Changes of a graph: what the nodes that a list of changes names become, and their frames.
use Rattle.std.specs.Prelude.{ℕ, ◌==◌, List, [], ◌∷◌, if◌then◌else◌}
use Rattle.ks_keysets.specs.declared.NodeState.{NodeState}
use Rattle.ks_keysets.specs.declared.NodeState.TheVariants.{Free, Live}
use Rattle.ks_keysets.specs.declared.NewState.{NewState}
use Rattle.ks_keysets.specs.declared.NewState.TheVariants.{BecomesLive, BecomesFree}
use Rattle.ks_keysets.specs.declared.Change.{Change}

-- the state that a change sets for its node
abbrev pub new_state : NewState → NodeState
new_state (BecomesLive r frame) = Live r
new_state BecomesFree = Free

-- the state of node i after the changes, if it was s
abbrev pub shaped : List Change → ℕ → NodeState → NodeState
shaped [] i s = s
shaped (x ∷ xs) i s = if i == x.node then new_state x.state else shaped xs i s
