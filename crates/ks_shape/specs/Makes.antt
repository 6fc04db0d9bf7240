-- Stretches of a call in which its caller makes no node live, if no other acts; and what is free at their end.
use Rattle.std.proofs.Common.{◌≡◌, ◌≢◌, ℕ, ◌<◌, List}
use Rattle.ks_keysets.specs.Keyset.{IsLive}
use Rattle.ks_history.specs.declared.Event.{Event}
use Rattle.ks_history.specs.Trace.{free, graph_after, turn_after}
use Rattle.ks_history.specs.Alone.{ActsAlone}

-- if only c acts from h to k, each node that is live after k was live after h
abbrev pub MakesNone : ℕ → List Event → List Event → Type 0
MakesNone c h k = ActsAlone c h k → (i : ℕ) → IsLive (graph_after k) i → IsLive (graph_after h) i

-- two nodes are free
pub record TwoFree (n : ℕ) (h : List Event) : Type 0 where
  pub one : ℕ
  pub two : ℕ
  pub apart : one ≢ two
  pub near : (one < n) × (two < n)
  pub free : (turn_after h one ≡ free) × (turn_after h two ≡ free)
