-- What is held after a split, or after the root grew.
use Rattle.std.specs.Prelude.{ℕ, ◌≡◌, ◌≢◌, ◌<◌, ◌≤◌, ◌-◌, true, List, [], ◌∷◌, Result, Ok, Err}
use Rattle.std.specs.Option.{ForSome}
use Rattle.ks_keysets.specs.Keyset.{IsLive as IsLiveIn}
use Rattle.ks_history.specs.declared.Event.{Event}
use Rattle.ks_history.specs.Own.{hand}
use Rattle.ks_history.specs.Trace.{graph_after}
use Rattle.ks_history.specs.Frames.{frame_after}
use Rattle.ks_history.specs.Due.{NoneFree}
use Rattle.ks_node.specs.Body.{Body, last_of}
use Rattle.ks_arena.specs.declared.held.Held.{Held as Hand}
use Rattle.ks_arena.specs.Sound.{Sort, blank_of}
use Rattle.ks_arena.specs.Clauses.{Matches}
use Rattle.ks_link.specs.declared.parts.Waiting.{Waiting}
use Rattle.ks_link.specs.declared.parts.Parted.{Parted}
use Rattle.ks_link.specs.Descent.{IsOnWay}

-- a node that was split off: it is live, not the root, and begins at the cut, on this level
pub record IsSplitOff (sort : Sort) (h : List Event) (w : Waiting) : Type 0 where
  pub live : IsLiveIn (graph_after h) w.node
  pub no_root : w.node ≢ 0
  pub low : (frame_after (blank_of sort) h w.node).low ≡ w.cut
  pub level : (frame_after (blank_of sort) h w.node).level ≡ w.level

module _ {N : Type 0} (sort : Sort) (shows : N → Body) where
  -- c holds only this live node
  pub record IsAlone (c : ℕ) (h : List Event) (x : Hand N) : Type 0 where
    pub alone : hand c h ≡ x.node ∷ []
    pub live : x.live ≡ true
    pub matches : Matches sort shows h x

  -- c holds only the half of x in which the place lies, or x itself, and what was split off is a node of its level that
  -- begins at its cut; or c holds x, and no node was found free to split it
  abbrev pub HoldsHalf : ℕ → ℕ → ℕ → List Event → List Event → Hand N → Result (Parted N) (Hand N) → Type 0
  HoldsHalf n c place h k x (Ok p) =
      IsOnWay sort shows c place k p.half
      × ((shows p.half.body).level ≡ (shows x.body).level)
      × ForSome p.new (λ w. IsSplitOff sort k w × (w.level ≡ (shows x.body).level))
      × (place ≤ last_of (shows x.body).range → place ≤ last_of (shows p.half.body).range)
  HoldsHalf n c place h k x (Err y) =
      (y ≡ x)
      × IsAlone c k x
      × NoneFree sort.layout n c place h k

-- how far a node reaches past its low
abbrev pub reach_of : Body → ℕ
reach_of b = last_of b.range - b.low

module _ {N : Type 0} (shows : N → Body) where
  -- the half that is kept reaches less far than the body did; and so does the node that is returned
  abbrev pub HalfReachesLess : Body → Result (Parted N) (Hand N) → Type 0
  HalfReachesLess b (Ok p) = reach_of (shows p.half.body) < reach_of b
  HalfReachesLess b (Err y) = Unit {0}

  abbrev pub ReachesLess : Body → Result (Hand N) (Hand N) → Type 0
  ReachesLess b (Ok x) = reach_of (shows x.body) < reach_of b
  ReachesLess b (Err x) = Unit {0}
