-- The facts of nodes with links, and the shapes under them.
-- In each shape g and f are the graph and the frames before it, k and h those after it.
use Rattle.ks_keysets.specs.declared.Record.{Record}
use Rattle.ks_keysets.specs.declared.Frame.{Frame}
use Rattle.std.specs.Prelude.{ℕ, zero, suc, ◌≡◌, ◌<◌, ◌≤◌, ◌-◌, ◌↔◌, ◌⊎◌, [], ◌∷◌, Some, None, All, Any, AllPairs, is_some, if◌then◌else◌}
use Rattle.ks_keysets.specs.declared.NodeState.{NodeState}
use Rattle.ks_keysets.specs.declared.Span.{Span}
use Rattle.ks_keysets.specs.declared.Edge.{Edge}
use Rattle.ks_keysets.specs.Record.{IsPlace, top, Holds, Carries, LeadsTo, LeadsOn}
use Rattle.ks_keysets.specs.Keyset.{record_at, IsLive, InKeyset}
use Rattle.ks_flow.specs.Ways.{DiffersIn}
use Rattle.ks_flow.specs.Tree.{FramesKept, ActsAs}
use Rattle.ks_flow.specs.Shapes.{IsTidy, StandBelow, StandFrom}

-- the edge is the link of node n, which has this range
pub record IsLinkEdge (frames : ℕ → Frame) (n : ℕ) (s : Span) (e : Edge) : Type 0 where
  -- it leads where the link says
  pub linked : (frames n).link ≡ Some e.node
  -- it begins one past the range
  pub begins : e.span.low ≡ suc s.last
  -- its target is of the level of n, and begins where the edge does
  pub level : (frames e.node).level ≡ (frames n).level
  pub low : (frames e.node).low ≡ e.span.low

-- the edge leads from node n, which has this range, to a child
pub record IsChildEdge (frames : ℕ → Frame) (n : ℕ) (s : Span) (e : Edge) : Type 0 where
  -- it lies within the range
  pub begins : s.low ≤ e.span.low
  pub ends : e.span.last ≤ s.last
  -- its target is one level lower, and begins where the edge does
  pub level : suc (frames e.node).level ≡ (frames n).level
  pub low : (frames e.node).low ≡ e.span.low

-- the frame has this range: it begins at the low, is not empty, and ends at a place
pub record IsRange (frame : Frame) (s : Span) : Type 0 where
  pub is : frame.range ≡ Some s
  pub low : s.low ≡ frame.low
  pub filled : s.low ≤ s.last
  pub last : IsPlace s.last

-- the facts of links
pub record Link (g : ℕ → NodeState) (frames : ℕ → Frame) : Type 0 where
  -- each live node has a range
  pub range : (n : ℕ) → IsLive g n → (s : Span) × IsRange (frames n) s
  -- that of the root is all places, and only the root is on the highest level
  pub root : (frames 0).range ≡ Some (record { low = 0; last = top })
  pub highest : (n : ℕ) → IsLive g n → (n ≡ 0 → ⊥) → (frames n).level < (frames 0).level
  -- on each level the ranges are disjoint
  pub apart : (n m : ℕ) (s t : Span) (p : ℕ) → IsLive g n → IsLive g m → (frames n).level ≡ (frames m).level → IsRange (frames n) s → IsRange (frames m) t → Holds s p → Holds t p → n ≡ m
  -- and hold all places
  pub cover : (l p : ℕ) → l ≤ (frames 0).level → IsPlace p → (n : ℕ) × IsLive g n × ((frames n).level ≡ l) × (s : Span) × IsRange (frames n) s × Holds s p
  -- an edge is a link or leads one level down
  pub edges : (n : ℕ) (r : Record) (s : Span) → record_at g n ≡ Some r → IsRange (frames n) s → All (λ e. IsLinkEdge frames n s e ⊎ IsChildEdge frames n s e) r.edges
  -- an edge carries each place past the range, and above level 0 each from the low on
  pub inside : (n : ℕ) (r : Record) (p : ℕ) → record_at g n ≡ Some r → 0 < (frames n).level → (frames n).low ≤ p → IsPlace p → LeadsOn r p
  pub beyond : (n : ℕ) (r : Record) (s : Span) (p : ℕ) → record_at g n ≡ Some r → IsRange (frames n) s → s.last < p → IsPlace p → LeadsOn r p

-- how many of the nodes below n are live
abbrev pub lives_below : (ℕ → NodeState) → ℕ → ℕ
lives_below g zero = 0
lives_below g (suc n) = if is_some (record_at g n) then suc (lives_below g n) else lives_below g n

-- an edge of the record, or the first part of one
abbrev pub IsPartOf : Record → Edge → Type 0
IsPartOf r e = Any (λ d. (d.node ≡ e.node) × (d.span.low ≡ e.span.low) × (e.span.last ≤ d.span.last)) r.edges

-- an edge of a live node one level above node i leads to it
pub record IsLed (g : ℕ → NodeState) (frames : ℕ → Frame) (i : ℕ) : Type 0 where
  pub above : ℕ
  pub node : Record
  pub place : ℕ
  pub is : record_at g above ≡ Some node
  pub leads : LeadsTo node place i
  pub level : (frames above).level ≡ suc (frames i).level

-- what lasts under links: no node is made free, live nodes keep their lows and, except the root, their levels, and a node
-- that is led to from the level above remains so
pub record LastsUnderLink (g : ℕ → NodeState) (f : ℕ → Frame) (k : ℕ → NodeState) (h : ℕ → Frame) : Type 0 where
  pub live : (n : ℕ) → IsLive g n → IsLive k n
  pub low : (n : ℕ) → IsLive g n → (h n).low ≡ (f n).low
  pub level : (n : ℕ) → IsLive g n → (n ≡ 0 → ⊥) → (h n).level ≡ (f n).level
  pub led : (n : ℕ) → IsLed g f n → IsLed k h n

-- what a shape keeps under links: the facts, and what lasts
pub record KeepsLink (g : ℕ → NodeState) (f : ℕ → Frame) (k : ℕ → NodeState) (h : ℕ → Frame) : Type 0 where
  pub link : Link k h
  pub lasts : LastsUnderLink g f k h

-- node, not the root (r before, s after), moves its places from the cut on to the new node right (t), and links to it
pub record SplitsRight (g k : ℕ → NodeState) (f h : ℕ → Frame) (node right cut : ℕ) (range : Span) (r s t : Record) : Type 0 where
  -- no other node and no other frame changes
  pub differs : DiffersIn g (node ∷ right ∷ []) k
  pub frames : FramesKept f (node ∷ right ∷ []) h
  pub no_root : node ≡ 0 → ⊥
  -- node is live before and after, right only after
  pub before : record_at g node ≡ Some r
  pub fresh : record_at g right ≡ None
  pub after : record_at k node ≡ Some s
  pub after_right : record_at k right ≡ Some t
  -- the cut is in the range of node, above its first place
  pub is_range : IsRange (f node) range
  pub above : range.low < cut
  pub within : cut ≤ range.last
  -- below the cut node does as before; from the cut on it leads to right, which does what node did
  pub below_cut : (p : ℕ) → range.low ≤ p → p < cut → ActsAs s r p
  pub from_cut : (p : ℕ) → IsPlace p → cut ≤ p → LeadsTo s p right × ActsAs t r p
  -- both are tidy
  pub tidy : IsTidy s
  pub tidy_right : IsTidy t
  -- the pairs of both are at places of the keyset of node, on their side of the cut
  pub pairs : StandBelow g node cut s.pairs
  pub pairs_right : StandFrom g node cut t.pairs
  -- an edge of node is an old one, or the first part of one, below the cut, or begins at the cut and leads to right
  pub edges : All (λ e. (IsPartOf r e × (e.span.low < cut) × (e.span.last < cut)) ⊎ ((e.node ≡ right) × (e.span.low ≡ cut))) s.edges
  -- an edge of right is an old one of node, or the first part of one, from the cut on
  pub edges_right : All (λ e. IsPartOf r e × (cut ≤ e.span.low)) t.edges
  -- node keeps its low and its level; its range ends below the cut, and its link is right
  pub low : (h node).low ≡ (f node).low
  pub level : (h node).level ≡ (f node).level
  pub range_after : (h node).range ≡ Some (record { low = range.low; last = cut - 1 })
  pub link : (h node).link ≡ Some right
  -- right begins at the cut, on the level of node; its range ends where that of node did, and it gets the link
  pub low_right : (h right).low ≡ cut
  pub level_right : (h right).level ≡ (f node).level
  pub range_right : (h right).range ≡ Some (record { low = cut; last = range.last })
  pub link_right : (h right).link ≡ (f node).link

-- the root (r, v) moves its places to the new nodes left (s) and right (t), and leads to both
pub record GrowsRight (g k : ℕ → NodeState) (f h : ℕ → Frame) (left right cut : ℕ) (r v s t : Record) : Type 0 where
  -- no other node and no other frame changes
  pub differs : DiffersIn g (0 ∷ left ∷ right ∷ []) k
  pub frames : FramesKept f (0 ∷ left ∷ right ∷ []) h
  -- the root is live before and after, left and right, which are two nodes, only after
  pub before : record_at g 0 ≡ Some r
  pub fresh_left : record_at g left ≡ None
  pub fresh : record_at g right ≡ None
  pub other : left ≡ right → ⊥
  pub after : record_at k 0 ≡ Some v
  pub after_left : record_at k left ≡ Some s
  pub after_right : record_at k right ≡ Some t
  -- the cut is a place, but not the first one
  pub above : 0 < cut
  pub within : cut ≤ top
  -- the root leads to left below the cut and to right from it on; both do what the root did
  pub below_cut : (p : ℕ) → p < cut → LeadsTo v p left × ActsAs s r p
  pub from_cut : (p : ℕ) → IsPlace p → cut ≤ p → LeadsTo v p right × ActsAs t r p
  -- from the cut on left leads to right, by its link
  pub link_edge : (p : ℕ) → IsPlace p → cut ≤ p → LeadsTo s p right
  -- all three are tidy
  pub tidy : IsTidy v
  pub tidy_left : IsTidy s
  pub tidy_right : IsTidy t
  -- the pairs that the root keeps are in its old keyset, where it now leads nowhere
  pub pairs : All (λ x. InKeyset g 0 x.place × (LeadsOn v x.place → ⊥)) v.pairs
  -- the other pairs are in the root's old keyset, on their side of the cut
  pub pairs_left : StandBelow g 0 cut s.pairs
  pub pairs_right : StandFrom g 0 cut t.pairs
  -- an edge of the root begins at the first place and leads to left, up to the cut, or begins at the cut and leads to right
  pub edges : All (λ e. ((e.node ≡ left) × (e.span.low ≡ 0) × (e.span.last < cut)) ⊎ ((e.node ≡ right) × (e.span.low ≡ cut) × (e.span.last ≤ top))) v.edges
  -- an edge of left is an old one of the root, or the first part of one, below the cut, or begins at the cut and leads to right
  pub edges_left : All (λ e. (IsPartOf r e × (e.span.low < cut) × (e.span.last < cut)) ⊎ ((e.node ≡ right) × (e.span.low ≡ cut))) s.edges
  -- an edge of right is an old one of the root, or the first part of one, from the cut on
  pub edges_right : All (λ e. IsPartOf r e × (cut ≤ e.span.low)) t.edges
  -- the root keeps its places, one level higher
  pub low : (h 0).low ≡ 0
  pub level : (h 0).level ≡ suc (f 0).level
  pub range_after : (h 0).range ≡ Some (record { low = 0; last = top })
  -- left has the places below the cut, on the old level of the root, and links to right
  pub low_left : (h left).low ≡ 0
  pub level_left : (h left).level ≡ (f 0).level
  pub range_left : (h left).range ≡ Some (record { low = 0; last = cut - 1 })
  pub link_left : (h left).link ≡ Some right
  -- right has those from the cut on, on the same level, and the old link of the root
  pub low_right : (h right).low ≡ cut
  pub level_right : (h right).level ≡ (f 0).level
  pub range_right : (h right).range ≡ Some (record { low = cut; last = top })
  pub link_right : (h right).link ≡ (f 0).link

-- an attach: one node (r, s) gets other edges, and every keyset stays
pub record IsAttach (g : ℕ → NodeState) (node : ℕ) (k : ℕ → NodeState) (r s : Record) : Type 0 where
  -- no other node changes
  pub differs : DiffersIn g (node ∷ []) k
  pub before : record_at g node ≡ Some r
  pub after : record_at k node ≡ Some s
  -- the node keeps its pairs
  pub pairs : s.pairs ≡ r.pairs
  pub keysets : (n p : ℕ) → InKeyset g n p ↔ InKeyset k n p
  -- its edges are disjoint, and lead to live nodes
  pub apart : AllPairs (λ e f. (p : ℕ) → Carries e p → Carries f p → ⊥) s.edges
  pub leads : All (λ e. IsLive k e.node) s.edges

-- node (r, s) leads from the cut on to node id as well
pub record Attaches (g k : ℕ → NodeState) (f h : ℕ → Frame) (node id cut : ℕ) (range : Span) (r s : Record) : Type 0 where
  -- no other node changes, and no frame
  pub differs : DiffersIn g (node ∷ []) k
  pub frames : (n : ℕ) → h n ≡ f n
  pub before : record_at g node ≡ Some r
  pub after : record_at k node ≡ Some s
  -- the cut is in the range of node, above its first place
  pub is_range : IsRange (f node) range
  pub above : range.low < cut
  pub within : cut ≤ range.last
  -- node id is live, one level lower, and begins at the cut
  pub target : IsLive g id
  pub level : suc (f id).level ≡ (f node).level
  pub low : (f id).low ≡ cut
  -- node keeps its pairs, and its edges are disjoint
  pub pairs : s.pairs ≡ r.pairs
  pub apart : AllPairs (λ e f. (p : ℕ) → Carries e p → Carries f p → ⊥) s.edges
  -- each place that an edge carried is still carried, and each node that an edge led to is still led to
  pub on : (p : ℕ) → LeadsOn r p → LeadsOn s p
  pub still : (p m : ℕ) → LeadsTo r p m → (q : ℕ) × LeadsTo s q m
  -- an edge is an old one, or the first part of one, or begins at the cut and leads to id, within the range
  pub edges : All (λ e. IsPartOf r e ⊎ ((e.node ≡ id) × (e.span.low ≡ cut) × (e.span.last ≤ range.last))) s.edges

-- edges lead to live nodes
abbrev pub LeadLive : (ℕ → NodeState) → Type 0
LeadLive g = (n : ℕ) (r : Record) → record_at g n ≡ Some r → All (λ e. IsLive g e.node) r.edges

-- each pair is in its node's keyset, once
pub record PairsStand (g : ℕ → NodeState) : Type 0 where
  pub stored : (n : ℕ) (r : Record) → record_at g n ≡ Some r → All (λ x. InKeyset g n x.place) r.pairs
  pub once : (n : ℕ) (r : Record) → record_at g n ≡ Some r → AllPairs (λ x y. x.place ≡ y.place → ⊥) r.pairs
