-- Where a search for a place ends, by whatever technique: the operation may be decided there.
use Rattle.std.proofs.Common.{◌≡◌, ◌⊎◌, ℕ, ◌≤◌, true, false, List, [], ◌∷◌}
use Rattle.std.specs.Prelude.{None, IsTrue}
use Rattle.ks_keysets.specs.Keyset.{InInset}
use Rattle.ks_keysets.specs.Layout.{Layout}
use Rattle.ks_history.specs.declared.Event.{Event}
use Rattle.ks_history.specs.declared.Op.{Op}
use Rattle.ks_history.specs.declared.Op.TheVariants.{Add, Put}
use Rattle.ks_history.specs.Own.{hand}
use Rattle.ks_history.specs.Trace.{graph_after}
use Rattle.ks_node.specs.declared.start.Next.TheVariants.{Here}
use Rattle.ks_node.specs.Body.{Body, first_of, last_of, next_at, value_at}
use Rattle.ks_node.specs.Room.{is_full}
use Rattle.ks_arena.specs.declared.held.Held.{Held as Hand}
use Rattle.ks_arena.specs.Sound.{Sort}
use Rattle.ks_arena.specs.Clauses.{Matches}

-- the operation puts or adds the value at the place
abbrev pub Fills : ℕ → ℕ → Op → Type 0
Fills place value op = (op ≡ Put place value) ⊎ (op ≡ Add place value)

-- a node of this body has the place, or room for it; or it has neither
abbrev pub TakesPlace : Layout → Body → ℕ → Type 0
TakesPlace layout b place = value_at b.pairs place ≡ None → is_full layout b ≡ false

abbrev pub LacksPlace : Layout → Body → ℕ → Type 0
LacksPlace layout b place = (value_at b.pairs place ≡ None) × IsTrue (is_full layout b)

module _ {N : Type 0} (sort : Sort) (shows : N → Body) where
  -- after h, c holds only this node, which is live; the place is in its inset, and in its range, if it has one; and no edge of
  -- it leads on
  pub record IsEnd (c place : ℕ) (h : List Event) (x : Hand N) : Type 0 where
    pub alone : hand c h ≡ x.node ∷ []
    pub live : x.live ≡ true
    pub matches : Matches sort shows h x
    pub inside : InInset (graph_after h) x.node place
    pub within : (first_of (shows x.body).range ≤ place) × (place ≤ last_of (shows x.body).range)
    pub here : next_at (shows x.body) place ≡ Here

  -- it has the place, or room for it
  pub record HasRoom (c place : ℕ) (h : List Event) (x : Hand N) : Type 0 where
    pub ends : IsEnd c place h x
    pub room : TakesPlace sort.layout (shows x.body) place

  -- or it is full, and lacks the place
  pub record IsCrowded (c place : ℕ) (h : List Event) (x : Hand N) : Type 0 where
    pub ends : IsEnd c place h x
    pub absent : value_at (shows x.body).pairs place ≡ None
    pub full : IsTrue (is_full sort.layout (shows x.body))
