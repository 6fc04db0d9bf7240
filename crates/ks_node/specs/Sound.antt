-- The order and the shape of a body.
use Rattle.std.specs.Prelude.{◌≡◌, ◌<◌, ◌≤◌, Bool, false, IsTrue, List, [], ◌∷◌, length, nat_eq, All, drop}
use Rattle.ks_keysets.specs.declared.Span.{Span}
use Rattle.ks_keysets.specs.Record.{top}
use Rattle.ks_node.specs.declared.start.Start.{Start}
use Rattle.ks_node.specs.Keyed.{Ascends}
use Rattle.ks_node.specs.Body.{Body, Content, is_branch_kind}

-- whether the first edge starts at 0
abbrev pub starts_at_zero : List Start → Bool
starts_at_zero [] = false
starts_at_zero (s ∷ ss) = nat_eq s.low 0

-- edges and pairs ascend; a branch has no pair and its edges cover all places;
-- another node has at most one edge, which starts at the low or above, and above each pair
pub record Sound (c : Content) : Type 0 where
  pub starts_ascend : Ascends (λ s. s.low) c.starts
  pub starts_are_places : All (λ s. s.low ≤ top) c.starts
  pub pairs_ascend : Ascends (λ x. x.place) c.pairs
  pub branch_no_pairs : IsTrue (is_branch_kind c.kind) → length c.pairs ≡ 0
  pub branch_covers : IsTrue (is_branch_kind c.kind) → IsTrue (starts_at_zero c.starts)
  pub own_alone : is_branch_kind c.kind ≡ false → length c.starts ≤ 1
  pub own_low : is_branch_kind c.kind ≡ false → All (λ s. c.low ≤ s.low) c.starts
  pub own_pairs : is_branch_kind c.kind ≡ false → All (λ s. All (λ x. x.place < s.low) c.pairs) c.starts

-- the range of a body begins at its low, and cuts none of its edges away
pub record Framed (r : Span) (b : Body) : Type 0 where
  pub low_is : b.low ≡ r.low
  pub ordered : r.low ≤ r.last
  pub ends : r.last ≤ top
  pub upto : All (λ s. s.low ≤ r.last) b.starts
  pub above : All (λ s. r.low < s.low) (drop 1 b.starts)
