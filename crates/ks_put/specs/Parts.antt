-- What splits require and ensure.
use Rattle.std.proofs.Common.{◌≡◌, ℕ, Bool, List, false}
use Rattle.std.specs.Prelude.{IsTrue, Option, Some, None}
use Rattle.ks_keysets.specs.Layout.{Layout}
use Rattle.ks_node.specs.Room.{is_full}
use Rattle.ks_keysets.specs.Record.{LeadsTo}
use Rattle.ks_keysets.specs.Keyset.{InInset}
use Rattle.ks_history.specs.declared.Event.{Event}
use Rattle.ks_history.specs.Due.{NoneFree}
use Rattle.ks_history.specs.Trace.{graph_after}
use Rattle.ks_node.specs.Body.{Body, Content, content_of, is_branch}
use Rattle.ks_node.specs.Effect.{split_left}
use Rattle.ks_node.specs.Edges.{record_of}
use Rattle.ks_arena.specs.declared.held.Held.{Held as Hand}
use Rattle.ks_arena.specs.Sound.{Sort}
use Rattle.ks_shape.specs.declared.path.Path.{Path}
use Rattle.ks_put.specs.declared.halves.Part.{Part}
use Rattle.ks_put.specs.declared.halves.Part.TheVariants.{Split, Refused, Shut}
use Rattle.ks_shape.specs.OnPath.{IsOnPath}

-- a node of this body may grow, as its type says
abbrev pub Grows : (Content → Bool) → Body → Type 0
Grows can b = IsTrue (can (content_of b))

-- a test of the node type holds of this body at the cut; and the body is no branch, or is one
abbrev pub CanAt : (Content → ℕ → Bool) → Body → ℕ → Type 0
CanAt can b cut = IsTrue (can (content_of b) cut)

abbrev pub LeafCanAt : (Content → ℕ → Bool) → Body → ℕ → Type 0
LeafCanAt can b cut = (is_branch b ≡ false) × CanAt can b cut

abbrev pub BranchCanAt : (Content → ℕ → Bool) → Body → ℕ → Type 0
BranchCanAt can b cut = IsTrue (is_branch b) × CanAt can b cut

-- if it is no branch, and the test holds at the cut, so it does of its left part once it is split there
abbrev pub HalfAdopts : (Content → ℕ → Bool) → Body → ℕ → Type 0
HalfAdopts can b cut = is_branch b ≡ false → CanAt can b cut → CanAt can (split_left cut b) cut

-- there was no way to split the node
abbrev pub IsShut : {N : Type 0} → Part N → Type 0
IsShut (Split x) = ⊥
IsShut (Refused x) = ⊥
IsShut (Shut x) = Unit {0}

-- the second of the two sorts of types: each node grows, branches adopt, and neither half of a full node is full
abbrev pub GrowAll : {N : Type 0} → (Content → Bool) → (N → Body) → Bool → Bool → Type 0
GrowAll grows shows adopt halves = ((s : _) → IsTrue (grows (content_of (shows s)))) × IsTrue adopt × IsTrue halves

-- the half that is kept is not full
abbrev pub IsRoomy : {N : Type 0} → Layout → (N → Body) → Part N → Type 0
IsRoomy layout shows (Split x) = is_full layout (shows x.node.body) ≡ false
IsRoomy layout shows (Refused x) = Unit {0}
IsRoomy layout shows (Shut x) = Unit {0}

-- the parent, if there is one, is not full
abbrev pub HasRoomAbove : {N : Type 0} → Layout → (N → Body) → Option (Hand N) → Type 0
HasRoomAbove layout shows None = Unit {0}
HasRoomAbove layout shows (Some y) = is_full layout (shows y.body) ≡ false

-- if the node of the path is full, its parent, if there is one, is not
abbrev pub IsEased : {N : Type 0} → Layout → (N → Body) → Path N → Type 0
IsEased layout shows x = IsTrue (is_full layout (shows x.node.body)) → HasRoomAbove layout shows x.parent

module _ {N : Type 0} (sort : Sort) (shows : N → Body) where
  -- the place is in the inset of the node, and the other node leads to it
  abbrev pub IsPart : ℕ → List Event → Hand N → Hand N → Type 0
  IsPart place h above x = LeadsTo (record_of (shows above.body)) place x.node × InInset (graph_after h) x.node place

  -- the result of a try to split the node of a path: the path to the half that holds the place; or a path to the same node,
  -- since no node was free, or since there is no way to split it
  abbrev pub DidPart : ℕ → ℕ → ℕ → List Event → List Event → Path N → Part N → Type 0
  DidPart n c place h k path (Split x) = IsOnPath sort shows c place k x
  DidPart n c place h k path (Refused x) = (x.node ≡ path.node) × IsOnPath sort shows c place k x × NoneFree sort.layout n c place h k
  DidPart n c place h k path (Shut x) = (x.node ≡ path.node) × IsOnPath sort shows c place k x
