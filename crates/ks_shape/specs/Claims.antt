-- The results of claims, and which full node may grow.
use Rattle.std.specs.Prelude.{◌≡◌, ◌≢◌, ◌⊎◌, ℕ, List, ◌∷◌, Option, Some, None}
use Rattle.ks_keysets.specs.declared.NodeState.TheVariants.{Claimed}
use Rattle.ks_keysets.specs.Layout.{Layout}
use Rattle.ks_history.specs.declared.Event.{Event}
use Rattle.ks_history.specs.Trace.{held, graph_after, turn_after}
use Rattle.ks_history.specs.Own.{hand}
use Rattle.ks_history.specs.Due.{HoldsLive, HoldsLiveBut, MayGrow, NoneFree}
use Rattle.ks_history.specs.Passes.{Has}
use Rattle.ks_node.specs.Body.{Body}
use Rattle.ks_arena.specs.declared.held.Held.{Held as Hand}
use Rattle.ks_arena.specs.Sound.{Sort}
use Rattle.ks_shape.specs.InHand.{IsFree}

-- each node that c holds after h is live, except one that it has claimed for one that may grow for the place
abbrev pub HoldsForClaim : Layout → ℕ → List Event → ℕ → Type 0
HoldsForClaim layout place h c = HoldsLive h c ⊎ ((but : HoldsLiveBut layout place h c) × (turn_after h but.one ≡ held c))

module _ {N : Type 0} (sort : Sort) (shows : N → Body) where
  -- c claimed the node x, which is blank
  pub record GotOne (c : ℕ) (h k : List Event) (x : Hand N) : Type 0 where
    pub free : IsFree sort shows (hand c k) k x
    pub hands : hand c k ≡ x.node ∷ hand c h
    pub fresh : ¬ Has (hand c h) x.node
    pub claimed : graph_after k x.node ≡ Claimed c

  -- one node was claimed; or none was, and c holds what it held: if `HoldsForClaim` is true of that, no node was free
  abbrev pub DidClaimOne : ℕ → ℕ → List Event → List Event → Option (Hand N) → Type 0
  DidClaimOne n c h k None = (hand c k ≡ hand c h) × ((place : ℕ) → HoldsForClaim sort.layout place h c → NoneFree sort.layout n c place h k)
  DidClaimOne n c h k (Some x) = GotOne c h k x

  -- c claimed the node x and then the node y
  pub record GotTwo (c : ℕ) (h k : List Event) (x y : Hand N) : Type 0 where
    pub left : IsFree sort shows (hand c k) k x
    pub right : IsFree sort shows (hand c k) k y
    pub apart : x.node ≢ y.node
    pub hands : hand c k ≡ y.node ∷ x.node ∷ hand c h

  -- two nodes were claimed; or none was, and c holds what it held: if that is live, and one of it may grow, no node was free
  abbrev pub DidClaimTwo : ℕ → ℕ → List Event → List Event → Option (Hand N × Hand N) → Type 0
  DidClaimTwo n c h k None =
      (hand c k ≡ hand c h)
      × ((node place : ℕ) → HoldsLive h c → turn_after h node ≡ held c → MayGrow sort.layout (graph_after h) node place → NoneFree sort.layout n c place h k)
  DidClaimTwo n c h k (Some z) = GotTwo c h k z.0 z.1
