-- What calls and shapes require and ensure, for clauses that see an arena and a pass before and after.
use Rattle.std.specs.Prelude.{ℕ, ◌≡◌, List, [], ◌∷◌, Option, Result}
use Rattle.ks_keysets.specs.declared.Change.{Change}
use Rattle.ks_keysets.specs.declared.NodeState.{NodeState}
use Rattle.ks_keysets.specs.Record.{LeadsTo}
use Rattle.ks_node.specs.declared.node.Node.{Ghosts as NodeGhosts}
use Rattle.ks_node.below.ks_places.specs.declared.Placing.{Ghosts as PlacingGhosts}
use Rattle.ks_flow.specs.declared.discipline.Discipline.{Ghosts as DisciplineGhosts}
use Rattle.ks_history.specs.declared.Event.{Event}
use Rattle.ks_history.specs.declared.Op.{Op}
use Rattle.ks_history.specs.declared.Reply.{Reply}
use Rattle.ks_history.specs.declared.Reply.TheVariants.{Full}
use Rattle.ks_history.specs.Map.{Touches, told}
use Rattle.ks_history.specs.Trace.{graph_after}
use Rattle.ks_history.specs.Frames.{frame_after}
use Rattle.ks_history.specs.Done.{Template, Done, DoneAt}
use Rattle.ks_history.specs.Due.{NoneFree}
use Rattle.ks_history.specs.Stretch.{Stretch}
use Rattle.ks_history.specs.Underway.{Underway}
use Rattle.ks_node.specs.Body.{Body, frame_of}
use Rattle.ks_node.specs.Edges.{record_of}
use Rattle.ks_flow.specs.Link.{IsLed}
use Rattle.ks_bodies.specs.Shapes as Trees
use Rattle.ks_bodies.specs.Links as Linked
use Rattle.ks_arena.specs.declared.arena.Arena.{Arena}
use Rattle.ks_arena.specs.declared.held.Pass.{Pass}
use Rattle.ks_arena.specs.declared.held.Held.{Held as Hand}
use Rattle.ks_arena.specs.Sound.{sort_of, blank_of}
use Rattle.ks_arena.specs.Clauses.{hand_of, seen_of}
use Rattle.ks_arena.specs.Of.{IsEmptyPassOf, IsInside, SameCaller, SeesOn}
use Rattle.ks_shape.specs.Beside.{KeepsBeside}
use Rattle.ks_shape.specs.Claims.{DidClaimOne, DidClaimTwo}
use Rattle.ks_shape.specs.Hinted.{DoneWhere}
use Rattle.ks_shape.specs.InHand.{IsLive, IsFree, BecomesLive, BecomesFree}
use Rattle.ks_shape.specs.Makes.{MakesNone}
use Rattle.ks_shape.specs.OnWay.{IsOnWay}
use Rattle.ks_shape.specs.Places.{HasPlacesOf}
use Rattle.ks_shape.specs.SearchEnd.{IsEnd, HasRoom, IsCrowded}
use Rattle.ks_shape.specs.Stretches.{Stretches}
use Rattle.ks_shape.specs.Tries.{Tried, TriedPut}
use Rattle.ks_shape.specs.declared.answers.Numbered.{Numbered}
use Rattle.ks_shape.specs.declared.answers.NumberedAt.{NumberedAt}
use Rattle.ks_shape.specs.declared.answers.Later.{Later}
use Rattle.ks_shape.specs.declared.answers.PutLater.{PutLater}

module _ {N D : Type 0} where
  -- from p to q the caller made no call, and took and held nodes as any operation of the technique may that may hold three
  abbrev pub IsStretchBy : Template → Pass N D → Pass N D → Type 0
  IsStretchBy template p q = Stretch template p.caller (seen_of p) (seen_of q)

  -- the same for every technique
  abbrev pub IsStretch : Pass N D → Pass N D → Type 0
  IsStretch p q = Stretches p.caller (seen_of p) (seen_of q)

  -- a call that began at p is under way at q, whatever its operation
  abbrev pub IsUnderway : Template → Pass N D → Pass N D → Type 0
  IsUnderway template p q = (op : Op) → Underway template p.caller op (seen_of p) (seen_of q)

  -- a call that is under way at p, begun at any moment, still is at q
  abbrev pub StaysUnderway : Template → Pass N D → Pass N D → Type 0
  StaysUnderway template p q = (op : Op) (start : List Event) → Underway template p.caller op start (seen_of p) → Underway template p.caller op start (seen_of q)

  -- the same for every technique
  abbrev pub StaysUnderwayAny : Pass N D → Pass N D → Type 0
  StaysUnderwayAny p q = (template : Template) → StaysUnderway template p q

  -- the pass holds this node and no other
  abbrev pub HoldsOnly : Pass N D → Hand N → Type 0
  HoldsOnly p x = hand_of p ≡ x.node ∷ []

  -- if no other caller acts from p to q, this one makes no node live
  abbrev pub MakesNoneLive : Pass N D → Pass N D → Type 0
  MakesNoneLive p q = MakesNone p.caller (seen_of p) (seen_of q)

  -- from p to q `Same` holds at each node that the caller holds at both
  abbrev pub KeepsAside : (ℕ → (ℕ → NodeState) → (ℕ → NodeState) → Type 0) → Pass N D → Pass N D → Type 0
  KeepsAside Same p q = KeepsBeside Same p.caller (seen_of p) (seen_of q)

  -- at q node j has each place that node i had at p, in its inset and in its keyset
  abbrev pub HasPlaces : ℕ → ℕ → Pass N D → Pass N D → Type 0
  HasPlaces i j p q = HasPlacesOf (graph_after (seen_of p)) (graph_after (seen_of q)) i j

  -- a node with this body leads at the place to node i, whose inset has the place
  abbrev pub LeadsInto : Pass N D → Body → ℕ → ℕ → Type 0
  LeadsInto p b place i = LeadsTo (record_of b) place i × IsInside p i place

module _ {N D P : Type 0} {n : NodeGhosts N P} {q : PlacingGhosts P} {d : DisciplineGhosts D} where
  -- the pass holds the node, which is live, or is not, and whose body is current
  abbrev pub IsLiveInHand : Arena N D P n q d → Pass N D → Hand N → Type 0
  IsLiveInHand a p x = IsLive (sort_of n.layout n.ranged) n.body (hand_of p) (seen_of p) x

  abbrev pub IsFreeInHand : Arena N D P n q d → Pass N D → Hand N → Type 0
  IsFreeInHand a p x = IsFree (sort_of n.layout n.ranged) n.body (hand_of p) (seen_of p) x

  -- the node x has become y, live with this body; or free
  abbrev pub HasBecome : Arena N D P n q d → Pass N D → Body → Hand N → Hand N → Type 0
  HasBecome a p b x y = BecomesLive (sort_of n.layout n.ranged) n.body b (seen_of p) x y

  abbrev pub HasBecomeFree : Arena N D P n q d → Pass N D → Hand N → Hand N → Type 0
  HasBecomeFree a p x y = BecomesFree (sort_of n.layout n.ranged) n.body (seen_of p) x y

  -- caller c, which searches for the place, holds only this node, which is live, and the place is in its inset
  abbrev pub IsOnWayOf : Arena N D P n q d → ℕ → ℕ → Pass N D → Hand N → Type 0
  IsOnWayOf a c place p x = IsOnWay (sort_of n.layout n.ranged) n.body c place (seen_of p) x

  -- the search of the pass for the place has ended at this live node: it is the only one held, and no edge of it leads on
  abbrev pub SearchEndsAt : Arena N D P n q d → ℕ → Pass N D → Hand N → Type 0
  SearchEndsAt a place p x = IsEnd (sort_of n.layout n.ranged) n.body p.caller place (seen_of p) x

  -- the same, and the node has the place or room for it; or it is full, and lacks the place
  abbrev pub HasRoomAt : Arena N D P n q d → ℕ → Pass N D → Hand N → Type 0
  HasRoomAt a place p x = HasRoom (sort_of n.layout n.ranged) n.body p.caller place (seen_of p) x

  abbrev pub IsCrowdedAt : Arena N D P n q d → ℕ → Pass N D → Hand N → Type 0
  IsCrowdedAt a place p x = IsCrowded (sort_of n.layout n.ranged) n.body p.caller place (seen_of p) x

  -- since p the caller found each node not free, when it needed one for the place
  abbrev pub NoneWasFree : Arena N D P n q d → ℕ → Pass N D → Pass N D → Type 0
  NoneWasFree a place p p' = NoneFree n.layout a.nodes p.caller place (seen_of p) (seen_of p')

  -- between p and p' the caller made one call, of this operation, with this reply and number, and released all its nodes
  abbrev pub DoneOf : Arena N D P n q d → Template → Op → Pass N D → Pass N D → Reply → ℕ → Type 0
  DoneOf a template op p p' reply number = Done n.layout template a.nodes p.caller op (seen_of p) (seen_of p') reply number

  -- a non-blocking call is done between p and p', or put off, as its result says
  abbrev pub TriedOf : Arena N D P n q d → Template → Op → Pass N D → Pass N D → Result Numbered Later → Type 0
  TriedOf a template op p p' answer = Tried n.layout template a.nodes p.caller op (seen_of p) (seen_of p') answer

  -- the same for a put or an add, which may also be done with the reply Full
  abbrev pub TriedPutOf : Arena N D P n q d → Template → Op → Pass N D → Pass N D → Result Numbered PutLater → Type 0
  TriedPutOf a template op p p' answer = TriedPut n.layout template a.nodes p.caller op (seen_of p) (seen_of p') answer

  -- a call that was under way at p is over at p': the pass of its caller has seen what it had at p, and holds no node; and if no
  -- other caller acted between, no node was made live
  pub record IsOver (a : Arena N D P n q d) (p p' : Pass N D) : Type 0 where
    pub pass : IsEmptyPassOf a p'
    pub caller : SameCaller p p'
    pub begins : SeesOn p p'
    pub makes : MakesNoneLive p p'

  -- a call that is under way at p, of any technique and begun at any moment, is done at p'
  abbrev pub FinishesAny : Arena N D P n q d → Op → Pass N D → Pass N D → Reply → ℕ → Type 0
  FinishesAny a op p p' reply number = (template : Template) (start : List Event) → Underway template p.caller op start (seen_of p) → Done n.layout template a.nodes p.caller op start (seen_of p') reply number

  -- the same, and it was decided at the node x, which then had the frame of its body
  abbrev pub FinishesAt : Arena N D P n q d → Hand N → Op → Pass N D → Pass N D → Reply → ℕ → Type 0
  FinishesAt a x op p p' reply number = (template : Template) (start : List Event) → Underway template p.caller op start (seen_of p) → DoneAt n.layout template a.nodes p.caller op start (seen_of p') reply number x.node (blank_of (sort_of n.layout n.ranged)) (frame_of (n.body x.body))

  -- the same, if a reply Full is due: no node was free for its place since it began
  abbrev pub FinishesIfDue : Arena N D P n q d → Hand N → Op → Pass N D → Pass N D → Reply → ℕ → Type 0
  FinishesIfDue a x op p p' reply number = (template : Template) (start : List Event) → (reply ≡ Full → (place : ℕ) × Touches op place × NoneFree n.layout a.nodes p.caller place start (seen_of p)) → Underway template p.caller op start (seen_of p) → DoneAt n.layout template a.nodes p.caller op start (seen_of p') reply number x.node (blank_of (sort_of n.layout n.ranged)) (frame_of (n.body x.body))

  -- the same with the reply Full, if no node was free since it began
  abbrev pub FinishesFull : Arena N D P n q d → Hand N → Op → Pass N D → Pass N D → ℕ → Type 0
  FinishesFull a x op p p' number = (template : Template) (start : List Event) (place : ℕ) → Touches op place → NoneFree n.layout a.nodes p.caller place start (seen_of p) → Underway template p.caller op start (seen_of p) → DoneAt n.layout template a.nodes p.caller op start (seen_of p') Full number x.node (blank_of (sort_of n.layout n.ranged)) (frame_of (n.body x.body))

  -- the same with the reply Full, if no node was free for the place since it began
  abbrev pub FinishesCrowded : Arena N D P n q d → Op → ℕ → Pass N D → Pass N D → ℕ → Type 0
  FinishesCrowded a op place p p' number = (template : Template) (start : List Event) → Underway template p.caller op start (seen_of p) → NoneFree n.layout a.nodes p.caller place start (seen_of p) → Done n.layout template a.nodes p.caller op start (seen_of p') Full number

  -- a call that is under way at p, of any technique and begun at any moment, is done at p'; its result says at which node it
  -- was decided, and which range this node then had
  abbrev pub FinishesWhere : Arena N D P n q d → Op → Pass N D → Pass N D → NumberedAt → Type 0
  FinishesWhere a op p p' answer = (template : Template) (start : List Event) → Underway template p.caller op start (seen_of p) → DoneWhere n.layout template a.nodes p.caller op start (seen_of p') (told answer.found) answer.number answer.node answer.low answer.last (blank_of (sort_of n.layout n.ranged))

  -- the result of a claim of one node, and of two: they are held; or no node was free, if the caller held what a claim needs
  abbrev pub HasClaimedOne : Arena N D P n q d → Pass N D → Pass N D → Option (Hand N) → Type 0
  HasClaimedOne a p p' claimed = DidClaimOne (sort_of n.layout n.ranged) n.body a.nodes p.caller (seen_of p) (seen_of p') claimed

  abbrev pub HasClaimedTwo : Arena N D P n q d → Pass N D → Pass N D → Option (Hand N × Hand N) → Type 0
  HasClaimedTwo a p p' claimed = DidClaimTwo (sort_of n.layout n.ranged) n.body a.nodes p.caller (seen_of p) (seen_of p') claimed

  -- an edge of a live node one level above leads to node i
  abbrev pub IsLedTo : Arena N D P n q d → Pass N D → ℕ → Type 0
  IsLedTo a p i = IsLed (graph_after (seen_of p)) (frame_after (blank_of (sort_of n.layout n.ranged)) (seen_of p)) i

  -- node i is live, one level below this one, and begins at the cut
  abbrev pub StandsUnderAt : Arena N D P n q d → Pass N D → ℕ → ℕ → ℕ → Type 0
  StandsUnderAt a p i level cut = Linked.StandsUnder (graph_after (seen_of p)) (frame_after (blank_of (sort_of n.layout n.ranged)) (seen_of p)) i level cut

  -- the changes of each shape of trees, from the held nodes before it: x is split at the cut, and y gets what is from there
  -- on, x or u leading to it; the root x grows, and y and z get its halves; x absorbs y; x gets all of its only child y
  abbrev pub splits_own : Arena N D P n q d → Hand N → Hand N → ℕ → List Change
  splits_own a x y cut = Trees.split_own x.node y.node cut (n.body x.body)

  abbrev pub splits_under : Arena N D P n q d → Hand N → Hand N → Hand N → ℕ → List Change
  splits_under a u x y cut = Trees.split_under u.node x.node y.node cut (n.body u.body) (n.body x.body)

  abbrev pub grows_to : Arena N D P n q d → Hand N → Hand N → Hand N → ℕ → List Change
  grows_to a x y z cut = Trees.grow n.branch_kind x.node y.node z.node cut (n.body x.body)

  abbrev pub absorbs_own : Arena N D P n q d → Hand N → Hand N → List Change
  absorbs_own a x y = Trees.absorb_own x.node y.node (n.body x.body) (n.body y.body)

  abbrev pub absorbs_under : Arena N D P n q d → Hand N → Hand N → Hand N → List Change
  absorbs_under a u x y = Trees.absorb_under u.node x.node y.node (n.body u.body) (n.body x.body) (n.body y.body)

  abbrev pub collapses_to : Arena N D P n q d → Hand N → Hand N → List Change
  collapses_to a x y = Trees.collapse x.node y.node (n.body x.body) (n.body y.body)

  -- those of the shapes under links: x is split at the cut to the right, into y; the root x grows; x gets an edge from the
  -- cut on to node i
  abbrev pub splits_right : Arena N D P n q d → Hand N → Hand N → ℕ → List Change
  splits_right a x y cut = Linked.split_to_right x.node y.node cut (n.body x.body)

  abbrev pub grows_right : Arena N D P n q d → Hand N → Hand N → Hand N → ℕ → List Change
  grows_right a x y z cut = Linked.grow_right n.branch_kind x.node y.node z.node cut (n.body x.body)

  abbrev pub attaches_to : Arena N D P n q d → Hand N → ℕ → ℕ → List Change
  attaches_to a x i cut = Linked.attach x.node i cut (n.body x.body)
