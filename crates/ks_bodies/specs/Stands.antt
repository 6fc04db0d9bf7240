-- What body a node of a graph has.
use Rattle.std.specs.Prelude.{ℕ, ◌≡◌, Some, None}
use Rattle.std.specs.Option.{ForSome}
use Rattle.ks_keysets.specs.declared.Frame.{Frame}
use Rattle.ks_keysets.specs.declared.NodeState.{NodeState}
use Rattle.ks_keysets.specs.declared.NewState.TheVariants.{BecomesLive, BecomesFree}
use Rattle.ks_keysets.specs.declared.Change.{Change}
use Rattle.ks_keysets.specs.Keyset.{record_at}
use Rattle.ks_node.specs.Body.{Body, content_of, frame_of}
use Rattle.ks_node.specs.Edges.{record_of}
use Rattle.ks_node.specs.Sound.{Sound, Framed}

-- a body as each node without a link has it: in order, and in its range
pub record IsPlain (b : Body) : Type 0 where
  pub sound : Sound (content_of b)
  pub framed : ForSome b.range (λ r. Framed r b)
  pub no_link : b.link ≡ None

-- node n of the graph has this body
pub record Stands (g : ℕ → NodeState) (f : ℕ → Frame) (n : ℕ) (b : Body) : Type 0 where
  pub has : record_at g n ≡ Some (record_of b)
  pub frame : f n ≡ frame_of b
  pub plain : IsPlain b

-- the change that makes this the body of node n
abbrev pub live_as : ℕ → Body → Change
live_as n b = record { node = n; state = BecomesLive (record_of b) (frame_of b) }

-- the change that makes node n free
abbrev pub free_as : ℕ → Change
free_as n = record { node = n; state = BecomesFree }
