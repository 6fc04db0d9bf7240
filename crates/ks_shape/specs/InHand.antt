-- What shapes require of the nodes that their caller holds, and what these become.
use Rattle.std.specs.Prelude.{ℕ, ◌≡◌, true, false, List}
use Rattle.ks_history.specs.declared.Event.{Event}
use Rattle.ks_history.specs.Passes.{Has}
use Rattle.ks_node.specs.Body.{Body}
use Rattle.ks_arena.specs.declared.held.Held.{Held as Hand}
use Rattle.ks_arena.specs.Sound.{Sort}
use Rattle.ks_arena.specs.Clauses.{Matches}

module _ {N : Type 0} (sort : Sort) (shows : N → Body) where
  -- x is held, and live or not; its body is that of the node after the trace h
  pub record IsLive (hand : List ℕ) (h : List Event) (x : Hand N) : Type 0 where
    pub has : Has hand x.node
    pub live : x.live ≡ true
    pub matches : Matches sort shows h x

  pub record IsFree (hand : List ℕ) (h : List Event) (x : Hand N) : Type 0 where
    pub has : Has hand x.node
    pub free : x.live ≡ false
    pub matches : Matches sort shows h x

  -- x has become y, the same node, live with this body after the trace h; or free
  pub record BecomesLive (b : Body) (h : List Event) (x y : Hand N) : Type 0 where
    pub node : y.node ≡ x.node
    pub live : y.live ≡ true
    pub body : shows y.body ≡ b
    pub matches : Matches sort shows h y

  pub record BecomesFree (h : List Event) (x y : Hand N) : Type 0 where
    pub node : y.node ≡ x.node
    pub free : y.live ≡ false
    pub matches : Matches sort shows h y
