-- What a call leaves unchanged: of what kind the events of its caller are between two moments.
use Rattle.std.specs.Prelude.{◌≡◌, ◌≢◌, ℕ, Bool, List, [], ◌∷◌, ◌++◌, Some, None, IsTrue, false}
use Rattle.ks_keysets.specs.declared.Change.{Change}
use Rattle.ks_keysets.specs.declared.Frame.{Frame}
use Rattle.ks_keysets.specs.declared.Kind.{Kind}
use Rattle.ks_keysets.specs.declared.NewState.TheVariants.{BecomesLive, BecomesFree}
use Rattle.ks_keysets.specs.declared.NodeState.TheVariants.{Live}
use Rattle.ks_keysets.specs.declared.Record.{Record}
use Rattle.ks_keysets.specs.Keyset.{IsLive}
use Rattle.ks_keysets.specs.Layout.{Layout}
use Rattle.ks_history.specs.declared.Event.{Event}
use Rattle.ks_history.specs.declared.Event.TheVariants.{Take, Give, Claim, Shape, Call, Twin}
use Rattle.ks_history.specs.Trace.{◌⊑◌, caller_of, graph_after, held, turn_after}
use Rattle.ks_history.specs.Frames.{frame_after}
use Rattle.ks_node.specs.Body.{Body, frame_of, is_branch, only_child_of, value_at}
use Rattle.ks_node.specs.Edges.{record_of}
use Rattle.ks_node.specs.Room.{is_full, is_low}
use Rattle.ks_bodies.specs.Shapes as Trees
use Rattle.ks_bodies.specs.Links as Linked
use Rattle.ks_arena.specs.declared.held.Pass.{Pass}
use Rattle.ks_arena.specs.Sound.{Sort, sort_of, blank_of}
use Rattle.ks_arena.specs.Clauses.{seen_of}

-- each of these events, which came after the trace s, if it is of c, is of the kind `may` after the trace before it
abbrev pub EachOwn : (List Event → Event → Type 0) → ℕ → List Event → List Event → Type 0
EachOwn may c s [] = Unit {0}
EachOwn may c s (e ∷ es) = (caller_of e ≡ c → may (es ++ s) e) × EachOwn may c s es

-- k continues h, and each event of c between is of the kind `may`
pub record DoesOnly (may : List Event → Event → Type 0) (c : ℕ) (h k : List Event) : Type 0 where
  pub grows : h ⊑ k
  pub each : EachOwn may c h grows.rest

-- what a search does, and a call at its end: it takes and releases nodes and decides; it claims none and makes no Shape
abbrev pub MaySearch : List Event → Event → Type 0
MaySearch h (Take c i) = Unit {0}
MaySearch h (Give c i) = Unit {0}
MaySearch h (Claim c i) = ⊥
MaySearch h (Shape c changes) = ⊥
MaySearch h (Call c i op reply) = Unit {0}
MaySearch h (Twin c i j op reply) = Unit {0}

-- node i has this body after h: its record and its frame are as the body shows
pub record HasBody (sort : Sort) (h : List Event) (i : ℕ) (b : Body) : Type 0 where
  pub state : graph_after h i ≡ Live (record_of b)
  pub frame : frame_after (blank_of sort) h i ≡ frame_of b

-- a node of this body is to be split for the place: it is full, and lacks the place, unless it is a branch
abbrev pub MustSplit : Layout → ℕ → Body → Type 0
MustSplit layout place b = IsTrue (is_full layout b) × (is_branch b ≡ false → value_at b.pairs place ≡ None)

-- after h the caller c holds a node that is to be split for the place
pub record HoldsToSplit (sort : Sort) (place : ℕ) (h : List Event) (c : ℕ) : Type 0 where
  pub node : ℕ
  pub body : Body
  pub holds : turn_after h node ≡ held c
  pub has : HasBody sort h node body
  pub must : MustSplit sort.layout place body

-- a Shape after h that makes room for the place: a node that is to be split is split, and itself leads to its right half, or
-- its parent does; or it grows; or, under links, it is split to the right, or grows; or a branch gets an edge to a node that
-- was split off
pub data MakesRoom (sort : Sort) (place : ℕ) (h : List Event) (changes : List Change) : Type 0 where
  by_own : (i j cut : ℕ) (b : Body) → HasBody sort h i b → MustSplit sort.layout place b → changes ≡ Trees.split_own i j cut b → MakesRoom sort place h changes
  by_parent : (u i j cut : ℕ) (v b : Body) → HasBody sort h u v → HasBody sort h i b → MustSplit sort.layout place b → changes ≡ Trees.split_under u i j cut v b → MakesRoom sort place h changes
  by_growth : (kind : Kind) (i j k cut : ℕ) (b : Body) → HasBody sort h i b → MustSplit sort.layout place b → changes ≡ Trees.grow kind i j k cut b → MakesRoom sort place h changes
  by_link : (i j cut : ℕ) (b : Body) → HasBody sort h i b → MustSplit sort.layout place b → changes ≡ Linked.split_to_right i j cut b → MakesRoom sort place h changes
  by_linked_growth : (kind : Kind) (i j k cut : ℕ) (b : Body) → HasBody sort h i b → MustSplit sort.layout place b → changes ≡ Linked.grow_right kind i j k cut b → MakesRoom sort place h changes
  by_attach : (i j cut : ℕ) (b : Body) → HasBody sort h i b → IsTrue (is_branch b) → changes ≡ Linked.attach i j cut b → MakesRoom sort place h changes

-- no node is made free
abbrev pub FreesNone : List Change → Type 0
FreesNone [] = Unit {0}
FreesNone (x ∷ xs) = (x.state ≢ BecomesFree) × FreesNone xs

-- each node that is made live was live after h
abbrev pub LivedBefore : List Event → List Change → Type 0
LivedBefore h [] = Unit {0}
LivedBefore h (x ∷ xs) = ((node : Record) (frame : Frame) → x.state ≡ BecomesLive node frame → IsLive (graph_after h) x.node) × LivedBefore h xs

-- what a put or an add at the place does: it searches and decides, claims nodes while it holds one that is to be split, and
-- makes room
abbrev pub MayFill : Sort → ℕ → List Event → Event → Type 0
MayFill sort place h (Take c i) = Unit {0}
MayFill sort place h (Give c i) = Unit {0}
MayFill sort place h (Claim c i) = HoldsToSplit sort place h c
MayFill sort place h (Shape c changes) = MakesRoom sort place h changes
MayFill sort place h (Call c i op reply) = Unit {0}
MayFill sort place h (Twin c i j op reply) = Unit {0}

-- a Shape after h that merges two nodes: a low one absorbs the node to which it itself leads, or the one after it under a
-- parent; or a branch takes over its only child
pub data Merges (sort : Sort) (h : List Event) (changes : List Change) : Type 0 where
  by_own : (i j : ℕ) (b q : Body) → HasBody sort h i b → HasBody sort h j q → IsTrue (is_low sort.layout b) → changes ≡ Trees.absorb_own i j b q → Merges sort h changes
  by_parent : (u i j : ℕ) (v b q : Body) → HasBody sort h u v → HasBody sort h i b → HasBody sort h j q → IsTrue (is_low sort.layout b) → changes ≡ Trees.absorb_under u i j v b q → Merges sort h changes
  by_collapse : (i j : ℕ) (b q : Body) → HasBody sort h i b → HasBody sort h j q → only_child_of b ≡ Some j → changes ≡ Trees.collapse i j b q → Merges sort h changes

-- what a del does: it searches and decides, and merges; it claims no node and splits none
abbrev pub MayDel : Sort → List Event → Event → Type 0
MayDel sort h (Take c i) = Unit {0}
MayDel sort h (Give c i) = Unit {0}
MayDel sort h (Claim c i) = ⊥
MayDel sort h (Shape c changes) = Merges sort h changes
MayDel sort h (Call c i op reply) = Unit {0}
MayDel sort h (Twin c i j op reply) = Unit {0}

module _ {N D : Type 0} where
  -- from p to q the caller only takes and releases nodes and decides: it makes no Shape and claims no node
  abbrev pub OnlySearches : Pass N D → Pass N D → Type 0
  OnlySearches p q = DoesOnly MaySearch p.caller (seen_of p) (seen_of q)

  -- the caller holds a node that is to be split for the place
  abbrev pub HasToSplit : Layout → Bool → ℕ → Pass N D → Type 0
  HasToSplit layout ranged place p = HoldsToSplit (sort_of layout ranged) place (seen_of p) p.caller

  -- from p to q the caller takes and releases nodes, decides, and makes room for the place: it splits only full nodes, one that
  -- is no branch only if that lacks the place, claims nodes only while it holds such a node, and merges none
  abbrev pub OnlyFills : Layout → Bool → ℕ → Pass N D → Pass N D → Type 0
  OnlyFills layout ranged place p q = DoesOnly (MayFill (sort_of layout ranged) place) p.caller (seen_of p) (seen_of q)

  -- from p to q the caller takes and releases nodes, decides, and merges: only low nodes, or a branch with its only child; it
  -- claims no node and splits none
  abbrev pub OnlyDels : Layout → Bool → Pass N D → Pass N D → Type 0
  OnlyDels layout ranged p q = DoesOnly (MayDel (sort_of layout ranged)) p.caller (seen_of p) (seen_of q)
