-- The shapes under trees, by what they do to records and frames.
-- In each g and f are the graph and the frames before it, k and h those after it.
use Rattle.ks_keysets.specs.declared.Record.{Record}
use Rattle.ks_keysets.specs.declared.Frame.{Frame}
use Rattle.std.specs.Prelude.{ℕ, ◌≡◌, ◌<◌, ◌≤◌, ◌+◌, ◌-◌, ◌↔◌, ◌⊎◌, false, List, [], ◌∷◌, Option, Some, None, All, AllPairs}
use Rattle.ks_keysets.specs.declared.NodeState.{NodeState}
use Rattle.ks_keysets.specs.declared.Span.{Span}
use Rattle.ks_keysets.specs.declared.Pair.{Pair}
use Rattle.ks_keysets.specs.Record.{Carries, LeadsTo, LeadsOn}
use Rattle.ks_keysets.specs.Keyset.{record_at, InInset, InKeyset}
use Rattle.ks_flow.specs.Ways.{names, DiffersIn, KeepsWays}
use Rattle.ks_flow.specs.Tree.{edges_to, Tree, FramesKept, ActsAs}

-- disjoint edges, and pairs at different places
pub record IsTidy (r : Record) : Type 0 where
  pub apart : AllPairs (λ e f. (p : ℕ) → Carries e p → Carries f p → ⊥) r.edges
  pub once : AllPairs (λ x y. x.place ≡ y.place → ⊥) r.pairs

-- the pairs are in the keyset of the node, below the cut, or from it on
abbrev pub StandBelow : (ℕ → NodeState) → ℕ → ℕ → List Pair → Type 0
StandBelow g node cut = All (λ x. InKeyset g node x.place × (x.place < cut))

abbrev pub StandFrom : (ℕ → NodeState) → ℕ → ℕ → List Pair → Type 0
StandFrom g node cut = All (λ x. InKeyset g node x.place × (cut ≤ x.place))

-- the range with this last place, if there is one
abbrev pub range_to : ℕ → Option Span → Option Span
range_to last None = None
range_to last (Some s) = Some (record { low = s.low; last = last })

-- the range with this first place, if there is one
abbrev pub range_from : ℕ → Option Span → Option Span
range_from low None = None
range_from low (Some s) = Some (record { low = low; last = s.last })

-- the range from the first place of the one to the last of the other, if there are both
abbrev pub range_over : Option Span → Option Span → Option Span
range_over None o = None
range_over (Some a) None = None
range_over (Some a) (Some b) = Some (record { low = a.low; last = b.last })

-- what a shape keeps: ways, the facts of trees, and the insets of the nodes that it does not name
pub record KeepsTree (g : ℕ → NodeState) (region : List ℕ) (k : ℕ → NodeState) (h : ℕ → Frame) : Type 0 where
  pub ways : KeepsWays g region k
  pub tree : Tree k h
  pub insets : (n p : ℕ) → names region n ≡ false → InInset k n p ↔ InInset g n p

-- node (r before, s after) moves its places from the cut on to the new node right (t), and leads to it
pub record SplitsOff (g k : ℕ → NodeState) (node right cut : ℕ) (r s t : Record) : Type 0 where
  -- no other node changes
  pub differs : DiffersIn g (node ∷ right ∷ []) k
  -- node is live before and after, right only after
  pub before : record_at g node ≡ Some r
  pub fresh : record_at g right ≡ None
  pub after : record_at k node ≡ Some s
  pub after_right : record_at k right ≡ Some t
  -- below the cut node does as before; from the cut on it leads to right, which does what node did
  pub below_cut : (p : ℕ) → InInset g node p → p < cut → ActsAs s r p
  pub from_cut : (p : ℕ) → InInset g node p → cut ≤ p → LeadsTo s p right × ActsAs t r p
  -- both are tidy
  pub tidy : IsTidy s
  pub tidy_right : IsTidy t
  -- the pairs of both are in the old keyset of node, on their side of the cut
  pub pairs : StandBelow g node cut s.pairs
  pub pairs_right : StandFrom g node cut t.pairs

-- such a split, with few edges to right, and with the frames of a tree
pub record SplitsOwn (g k : ℕ → NodeState) (f h : ℕ → Frame) (node right cut : ℕ) (r s t : Record) : Type 0 where
  pub ways : SplitsOff g k node right cut r s t
  -- no other frame changes
  pub frames : FramesKept f (node ∷ right ∷ []) h
  -- the cut is in the inset of node
  pub cut_inside : InInset g node cut
  -- no more edges lead to any other node than before, and one at most to right
  pub edges : (m : ℕ) → (m ≡ right → ⊥) → edges_to s.edges m + edges_to t.edges m ≤ edges_to r.edges m
  pub edge : edges_to s.edges right + edges_to t.edges right ≤ 1
  -- node keeps its low and its range; right begins at the cut, and its range ends where that of node does
  pub low : (h node).low ≡ (f node).low
  pub low_right : (h right).low ≡ cut
  pub range : (h node).range ≡ (f node).range
  pub range_right : (h right).range ≡ range_from cut (f node).range

-- parent (u before, v after) leads to node (r, s) and then to the new node right (t) as well
pub record SplitsUnder (g k : ℕ → NodeState) (f h : ℕ → Frame) (parent node right cut : ℕ) (u v r s t : Record) : Type 0 where
  -- no other node and no other frame changes
  pub differs : DiffersIn g (parent ∷ node ∷ right ∷ []) k
  pub frames : FramesKept f (parent ∷ node ∷ right ∷ []) h
  -- parent and node are live before and after, right only after
  pub before_parent : record_at g parent ≡ Some u
  pub before : record_at g node ≡ Some r
  pub fresh : record_at g right ≡ None
  pub after_parent : record_at k parent ≡ Some v
  pub after : record_at k node ≡ Some s
  pub after_right : record_at k right ≡ Some t
  -- the cut is in the inset of node, above its low
  pub cut_inside : InInset g node cut
  pub above : (f node).low < cut
  -- parent leads to node
  pub leads : 0 < edges_to u.edges node
  -- at the places below the cut that parent led to node, it still does, and node does as before
  pub below_cut : (p : ℕ) → InInset g parent p → LeadsTo u p node → p < cut → LeadsTo v p node × ActsAs s r p
  -- at those from the cut on it leads to right instead, which does what node did
  pub from_cut : (p : ℕ) → InInset g parent p → LeadsTo u p node → cut ≤ p → LeadsTo v p right × ActsAs t r p
  -- at the other places of its inset parent does as before
  pub else : (p : ℕ) → InInset g parent p → (LeadsTo u p node → ⊥) → ActsAs v u p
  -- all three are tidy
  pub tidy_parent : IsTidy v
  pub tidy : IsTidy s
  pub tidy_right : IsTidy t
  -- no more edges lead to any other node than before, and one at most to right
  pub edges : (m : ℕ) → (m ≡ right → ⊥) → edges_to v.edges m + edges_to s.edges m + edges_to t.edges m ≤ edges_to u.edges m + edges_to r.edges m
  pub edge : edges_to v.edges right + edges_to s.edges right + edges_to t.edges right ≤ 1
  -- the pairs of parent are in its old keyset, the others in that of node, on their side of the cut
  pub pairs_parent : All (λ x. InKeyset g parent x.place) v.pairs
  pub pairs : StandBelow g node cut s.pairs
  pub pairs_right : StandFrom g node cut t.pairs
  -- parent and node keep their lows, and right begins at the cut
  pub low_parent : (h parent).low ≡ (f parent).low
  pub low : (h node).low ≡ (f node).low
  pub low_right : (h right).low ≡ cut
  -- parent keeps its range; that of node is cut into two
  pub range_parent : (h parent).range ≡ (f parent).range
  pub range : (h node).range ≡ range_to (cut - 1) (f node).range
  pub range_right : (h right).range ≡ range_from cut (f node).range

-- node (r, v) moves its places to the new nodes left (s) and right (t), and leads to both
pub record GrowsOff (g k : ℕ → NodeState) (node left right cut : ℕ) (r v s t : Record) : Type 0 where
  -- no other node changes
  pub differs : DiffersIn g (node ∷ left ∷ right ∷ []) k
  -- node is live before and after, left and right, which are two nodes, only after
  pub before : record_at g node ≡ Some r
  pub fresh_left : record_at g left ≡ None
  pub fresh : record_at g right ≡ None
  pub other : left ≡ right → ⊥
  pub after : record_at k node ≡ Some v
  pub after_left : record_at k left ≡ Some s
  pub after_right : record_at k right ≡ Some t
  -- node leads to left below the cut and to right from it on; both do what node did
  pub below_cut : (p : ℕ) → InInset g node p → p < cut → LeadsTo v p left × ActsAs s r p
  pub from_cut : (p : ℕ) → InInset g node p → cut ≤ p → LeadsTo v p right × ActsAs t r p
  -- all three are tidy
  pub tidy : IsTidy v
  pub tidy_left : IsTidy s
  pub tidy_right : IsTidy t
  -- the pairs that node keeps are in its old keyset, where it now leads nowhere
  pub pairs : All (λ x. InKeyset g node x.place × (LeadsOn v x.place → ⊥)) v.pairs
  -- the other pairs are in the old keyset of node, on their side of the cut
  pub pairs_left : StandBelow g node cut s.pairs
  pub pairs_right : StandFrom g node cut t.pairs

-- such a growth, with few edges to left and right, and with the frames of a tree
pub record Grows (g k : ℕ → NodeState) (f h : ℕ → Frame) (node left right cut : ℕ) (r v s t : Record) : Type 0 where
  pub ways : GrowsOff g k node left right cut r v s t
  -- no other frame changes
  pub frames : FramesKept f (node ∷ left ∷ right ∷ []) h
  -- the cut is in the inset of node, above its low
  pub cut_inside : InInset g node cut
  pub above : (f node).low < cut
  -- no more edges lead to any other node than before, and one at most to left and to right
  pub edges : (m : ℕ) → (m ≡ left → ⊥) → (m ≡ right → ⊥) → edges_to v.edges m + edges_to s.edges m + edges_to t.edges m ≤ edges_to r.edges m
  pub edge_left : edges_to v.edges left + edges_to s.edges left + edges_to t.edges left ≤ 1
  pub edge : edges_to v.edges right + edges_to s.edges right + edges_to t.edges right ≤ 1
  -- node and left begin where node did, and right at the cut
  pub low : (h node).low ≡ (f node).low
  pub low_left : (h left).low ≡ (f node).low
  pub low_right : (h right).low ≡ cut
  -- node keeps its range; left has it up to the cut, right from the cut on
  pub range : (h node).range ≡ (f node).range
  pub range_left : (h left).range ≡ range_to (cut - 1) (f node).range
  pub range_right : (h right).range ≡ range_from cut (f node).range

-- node (r, s) takes the places that it leads to right (q), which goes away
pub record AbsorbsOwn (g k : ℕ → NodeState) (f h : ℕ → Frame) (node right : ℕ) (r q s : Record) : Type 0 where
  -- no other node and no other frame changes
  pub differs : DiffersIn g (node ∷ right ∷ []) k
  pub frames : FramesKept f (node ∷ right ∷ []) h
  -- node is live before and after, right only before
  pub before : record_at g node ≡ Some r
  pub before_right : record_at g right ≡ Some q
  pub after : record_at k node ≡ Some s
  pub gone : record_at k right ≡ None
  -- node leads to right
  pub leads : 0 < edges_to r.edges right
  -- at the places that node led to right, it does what right did; at its other places it does as before
  pub there : (p : ℕ) → InInset g node p → LeadsTo r p right → ActsAs s q p
  pub else : (p : ℕ) → InInset g node p → (LeadsTo r p right → ⊥) → ActsAs s r p
  -- it is tidy
  pub tidy : IsTidy s
  -- no more edges of node lead to any other node than of both before, and none to right
  pub edges : (m : ℕ) → (m ≡ right → ⊥) → edges_to s.edges m ≤ edges_to r.edges m + edges_to q.edges m
  pub edge : edges_to s.edges right ≡ 0
  -- its pairs are in the old keysets of the two
  pub pairs : All (λ x. InKeyset g node x.place ⊎ InKeyset g right x.place) s.pairs
  -- it keeps its low and its range
  pub low : (h node).low ≡ (f node).low
  pub range : (h node).range ≡ (f node).range

-- parent (u, v) leads to node (r, s) what it led to right (q), which goes away
pub record AbsorbsUnder (g k : ℕ → NodeState) (f h : ℕ → Frame) (parent node right : ℕ) (u r q v s : Record) : Type 0 where
  -- no other node and no other frame changes
  pub differs : DiffersIn g (parent ∷ node ∷ right ∷ []) k
  pub frames : FramesKept f (parent ∷ node ∷ right ∷ []) h
  -- parent and node are live before and after; right, which is not node, only before
  pub before_parent : record_at g parent ≡ Some u
  pub before : record_at g node ≡ Some r
  pub before_right : record_at g right ≡ Some q
  pub other : node ≡ right → ⊥
  pub after_parent : record_at k parent ≡ Some v
  pub after : record_at k node ≡ Some s
  pub gone : record_at k right ≡ None
  -- parent leads to both, and after it to node
  pub leads : 0 < edges_to u.edges node
  pub leads_right : 0 < edges_to u.edges right
  pub leads_after : 0 < edges_to v.edges node
  -- the places that parent leads to right come after those that it leads to node, and none is between
  pub order : (p o : ℕ) → LeadsTo u p node → LeadsTo u o right → p < o
  pub beside : (p o m : ℕ) → LeadsTo u p node → LeadsTo u o right → p ≤ m → m ≤ o → LeadsTo u m node ⊎ LeadsTo u m right
  -- at the places that parent led to node, it still does, and node does as before
  pub here : (p : ℕ) → InInset g parent p → LeadsTo u p node → LeadsTo v p node × ActsAs s r p
  -- at those that it led to right, it leads to node, which does what right did
  pub there : (p : ℕ) → InInset g parent p → LeadsTo u p right → LeadsTo v p node × ActsAs s q p
  -- at the other places of its inset parent does as before
  pub else : (p : ℕ) → InInset g parent p → (LeadsTo u p node → ⊥) → (LeadsTo u p right → ⊥) → ActsAs v u p
  -- both are tidy
  pub tidy_parent : IsTidy v
  pub tidy : IsTidy s
  -- no more edges of the two lead to any other node than of the three before, and none to right
  pub edges : (m : ℕ) → (m ≡ right → ⊥) → edges_to v.edges m + edges_to s.edges m ≤ edges_to u.edges m + edges_to r.edges m + edges_to q.edges m
  pub edge : edges_to v.edges right + edges_to s.edges right ≡ 0
  -- the pairs of parent are in its old keyset, those of node in the old ones of node and right
  pub pairs_parent : All (λ x. InKeyset g parent x.place) v.pairs
  pub pairs : All (λ x. InKeyset g node x.place ⊎ InKeyset g right x.place) s.pairs
  -- parent and node keep their lows
  pub low_parent : (h parent).low ≡ (f parent).low
  pub low : (h node).low ≡ (f node).low
  -- parent keeps its range; that of node ends where that of right did
  pub range_parent : (h parent).range ≡ (f parent).range
  pub range : (h node).range ≡ range_over (f node).range (f right).range

-- node (r, s), which leads each of its places to child (q), takes them
pub record Collapses (g k : ℕ → NodeState) (f h : ℕ → Frame) (node child : ℕ) (r q s : Record) : Type 0 where
  -- no other node and no other frame changes
  pub differs : DiffersIn g (node ∷ child ∷ []) k
  pub frames : FramesKept f (node ∷ child ∷ []) h
  -- node is live before and after, child only before
  pub before : record_at g node ≡ Some r
  pub before_child : record_at g child ≡ Some q
  pub after : record_at k node ≡ Some s
  pub gone : record_at k child ≡ None
  -- node leads to child
  pub leads : 0 < edges_to r.edges child
  -- at each place of its inset it led to child, and does what child did
  pub there : (p : ℕ) → InInset g node p → LeadsTo r p child × ActsAs s q p
  -- it is tidy
  pub tidy : IsTidy s
  -- no more edges of node lead to any other node than of both before, and none to child
  pub edges : (m : ℕ) → (m ≡ child → ⊥) → edges_to s.edges m ≤ edges_to r.edges m + edges_to q.edges m
  pub edge : edges_to s.edges child ≡ 0
  -- its pairs are in the old keyset of child
  pub pairs : All (λ x. InKeyset g child x.place) s.pairs
  -- it gets the low of child, and keeps its range
  pub low : (h node).low ≡ (f child).low
  pub range : (h node).range ≡ (f node).range
