-- The changes that each shape of a tree makes of bodies, and what it requires.
use Rattle.std.specs.Prelude.{ℕ, ◌≡◌, IsTrue, Some, None, is_some, List, [], ◌∷◌}
use Rattle.ks_keysets.specs.declared.Frame.{Frame}
use Rattle.ks_keysets.specs.declared.Kind.{Kind}
use Rattle.ks_keysets.specs.declared.Kind.TheVariants.{Directory}
use Rattle.ks_keysets.specs.declared.NodeState.{NodeState}
use Rattle.ks_keysets.specs.declared.Change.{Change}
use Rattle.ks_keysets.specs.Record.{LeadsTo}
use Rattle.ks_keysets.specs.Keyset.{record_at, InInset}
use Rattle.ks_node.specs.Body.{Body, is_branch, chained_of, only_child_of, right_child}
use Rattle.ks_node.specs.Edges.{record_of}
use Rattle.ks_node.specs.Effect.{split_left, split_right, reached, grown, adopted, absorbed, forgot, collapsed}
use Rattle.ks_node.specs.Asks.{CanSplitAt}
use Rattle.ks_bodies.specs.Stands.{Stands, live_as, free_as}

-- node, with body b, can be split at the cut, and node right is not live
pub record CanPart (g : ℕ → NodeState) (f : ℕ → Frame) (node right cut : ℕ) (b : Body) : Type 0 where
  pub stands : Stands g f node b
  pub fresh : record_at g right ≡ None
  pub inside : InInset g node cut
  pub splits : CanSplitAt b cut
  pub parts : b.kind ≡ Directory → ⊥

-- parent, with body u, is a branch and leads to node
pub record CanAdopt (g : ℕ → NodeState) (f : ℕ → Frame) (parent node : ℕ) (u : Body) : Type 0 where
  pub stands : Stands g f parent u
  pub branch : IsTrue (is_branch u)
  pub place : ℕ
  pub leads : LeadsTo (record_of u) place node

-- node, with body b, is no branch and itself leads to right, with body q; both are of one kind, and both have ranges or neither
pub record CanAbsorbOwn (g : ℕ → NodeState) (f : ℕ → Frame) (node right : ℕ) (b q : Body) : Type 0 where
  pub stands : Stands g f node b
  pub other : Stands g f right q
  pub chained : chained_of b ≡ Some right
  pub alike : b.kind ≡ q.kind
  pub ranged : is_some b.range ≡ is_some q.range

-- in the branch parent, with body u, the edge to right, with body q, follows that to node, with body b; node itself leads to
-- none, unless both are branches; both are of one kind, and both have ranges or neither
pub record CanAbsorbUnder (g : ℕ → NodeState) (f : ℕ → Frame) (parent node right : ℕ) (u b q : Body) : Type 0 where
  pub above : Stands g f parent u
  pub stands : Stands g f node b
  pub other : Stands g f right q
  pub branch : IsTrue (is_branch u)
  pub place : ℕ
  pub leads : LeadsTo (record_of u) place node
  pub next : right_child u place ≡ Some right
  pub unchained : chained_of b ≡ None
  pub alike : b.kind ≡ q.kind
  pub ranged : is_some b.range ≡ is_some q.range

-- node, with body b, is a branch all of whose edges lead to child, with body q
pub record CanCollapse (g : ℕ → NodeState) (f : ℕ → Frame) (node child : ℕ) (b q : Body) : Type 0 where
  pub stands : Stands g f node b
  pub below : Stands g f child q
  pub sole : only_child_of b ≡ Some child

-- what is left of a node that split, with the range it had before, which adopted what it split off
abbrev pub split_on : ℕ → ℕ → Body → Body
split_on cut right b = adopted cut right (reached (split_left cut b) (split_right cut b))

-- the changes of a split whose node itself leads to its right half
abbrev pub split_own : ℕ → ℕ → ℕ → Body → List Change
split_own node right cut b = live_as node (split_on cut right b) ∷ live_as right (split_right cut b) ∷ []

-- those of a split under a parent, which leads to both halves
abbrev pub split_under : ℕ → ℕ → ℕ → ℕ → Body → Body → List Change
split_under parent node right cut u b = live_as parent (adopted cut right u) ∷ live_as node (split_left cut b) ∷ live_as right (split_right cut b) ∷ []

-- those of a root that grows
abbrev pub grow : Kind → ℕ → ℕ → ℕ → ℕ → Body → List Change
grow kind node left right cut b = live_as node (grown kind cut left right b) ∷ live_as left (split_left cut b) ∷ live_as right (split_right cut b) ∷ []

-- those of a node that absorbs the one to which its own edge leads
abbrev pub absorb_own : ℕ → ℕ → Body → Body → List Change
absorb_own node right b q = live_as node (absorbed b q) ∷ free_as right ∷ []

-- those of a node that absorbs its right neighbour under a parent
abbrev pub absorb_under : ℕ → ℕ → ℕ → Body → Body → Body → List Change
absorb_under parent node right u b q = live_as parent (forgot right u) ∷ live_as node (absorbed b q) ∷ free_as right ∷ []

-- those of a root that takes over its only child
abbrev pub collapse : ℕ → ℕ → Body → Body → List Change
collapse node child b q = live_as node (collapsed b q) ∷ free_as child ∷ []
