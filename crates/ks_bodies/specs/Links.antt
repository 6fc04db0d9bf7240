-- The bodies of a graph with links, the changes that each shape under links makes of them, and what it requires.
use Rattle.std.specs.Prelude.{ℕ, suc, ◌≡◌, ◌+◌, true, IsTrue, Some, None, is_some, List, [], ◌∷◌, nat_lt}
use Rattle.std.specs.Option.{ForSome}
use Rattle.ks_keysets.specs.declared.Frame.{Frame}
use Rattle.ks_keysets.specs.declared.Kind.{Kind}
use Rattle.ks_keysets.specs.declared.Kind.TheVariants.{Directory}
use Rattle.ks_keysets.specs.declared.NodeState.{NodeState}
use Rattle.ks_keysets.specs.declared.Change.{Change}
use Rattle.ks_keysets.specs.Record.{top}
use Rattle.ks_keysets.specs.Keyset.{record_at, IsLive}
use Rattle.ks_node.specs.Body.{Body, content_of, frame_of, is_branch, last_of}
use Rattle.ks_node.specs.Edges.{record_of}
use Rattle.ks_node.specs.Effect.{split_left, split_right, grown, adopted, with_link, with_level}
use Rattle.ks_node.specs.Asks.{CanSplitAt, IsCut}
use Rattle.ks_node.specs.Sound.{Sound, Framed}
use Rattle.ks_bodies.specs.Stands.{live_as}

-- a body as each node with links has it: in order, with a range, and with a link if the range ends below the last place
pub record IsLinked (b : Body) : Type 0 where
  pub sound : Sound (content_of b)
  pub ranged : is_some b.range ≡ true
  pub framed : ForSome b.range (λ r. Framed r b)
  pub link_where : is_some b.link ≡ nat_lt (last_of b.range) top

-- node n of the graph has this body
pub record StandsLinked (g : ℕ → NodeState) (f : ℕ → Frame) (n : ℕ) (b : Body) : Type 0 where
  pub has : record_at g n ≡ Some (record_of b)
  pub frame : f n ≡ frame_of b
  pub linked : IsLinked b

-- node, not the root, with body b, can be split at the cut, and node right is not live
pub record CanSplitRight (g : ℕ → NodeState) (f : ℕ → Frame) (node right cut : ℕ) (b : Body) : Type 0 where
  pub stands : StandsLinked g f node b
  pub no_root : node ≡ 0 → ⊥
  pub fresh : record_at g right ≡ None
  pub splits : CanSplitAt b cut
  pub parts : b.kind ≡ Directory → ⊥

-- the root, with body b, can be split at the cut, and left and right, which are two nodes, are not live
pub record CanGrowRight (g : ℕ → NodeState) (f : ℕ → Frame) (left right cut : ℕ) (b : Body) : Type 0 where
  pub stands : StandsLinked g f 0 b
  pub fresh_left : record_at g left ≡ None
  pub fresh : record_at g right ≡ None
  pub other : left ≡ right → ⊥
  pub splits : CanSplitAt b cut
  pub parts : b.kind ≡ Directory → ⊥

-- node id is live, one level below this one, and begins at the cut
pub record StandsUnder (g : ℕ → NodeState) (f : ℕ → Frame) (id above cut : ℕ) : Type 0 where
  pub live : IsLive g id
  pub level : suc (f id).level ≡ above
  pub low : (f id).low ≡ cut

-- node, with body b, is a branch with the cut in its range, and node id is one level below and begins at the cut
pub record CanAttach (g : ℕ → NodeState) (f : ℕ → Frame) (node id cut : ℕ) (b : Body) : Type 0 where
  pub stands : StandsLinked g f node b
  pub branch : IsTrue (is_branch b)
  pub cuts : IsCut b cut
  pub under : StandsUnder g f id b.level cut

-- what is left of a node that split, linked to what it split off
abbrev pub split_linked : ℕ → ℕ → Body → Body
split_linked cut right b = with_link (Some right) (split_left cut b)

-- a branch over the left and right nodes that a grow made, one level higher
abbrev pub grown_higher : Kind → ℕ → ℕ → ℕ → Body → Body
grown_higher kind cut left right b = with_level (b.level + 1) (grown kind cut left right b)

-- the changes of a split to the right
abbrev pub split_to_right : ℕ → ℕ → ℕ → Body → List Change
split_to_right node right cut b = live_as node (split_linked cut right b) ∷ live_as right (split_right cut b) ∷ []

-- those of a root that grows, with linked halves
abbrev pub grow_right : Kind → ℕ → ℕ → ℕ → ℕ → Body → List Change
grow_right kind node left right cut b = live_as node (grown_higher kind cut left right b) ∷ live_as left (split_linked cut right b) ∷ live_as right (with_link None (split_right cut b)) ∷ []

-- that of a node which gets an edge from the cut on
abbrev pub attach : ℕ → ℕ → ℕ → Body → List Change
attach node id cut b = live_as node (adopted cut id b) ∷ []
