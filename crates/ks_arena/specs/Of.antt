-- What calls require of a pass of an arena and of held nodes, and what they ensure of the pass before and after: the
-- arena's type has the type of its nodes and their discipline.
use Rattle.std.specs.Prelude.{ℕ, ◌≡◌, ◌<◌, List, [], ◌∷◌, Option, true}
use denote.Bor.{Bor}
use Rattle.ks_keysets.specs.declared.Change.{Change}
use Rattle.ks_keysets.specs.declared.Pair.{Pair}
use Rattle.ks_keysets.specs.Keyset.{InInset}
use Rattle.ks_node.specs.declared.node.Node.{Ghosts as NodeGhosts}
use Rattle.ks_node.below.ks_places.specs.declared.Placing.{Ghosts as PlacingGhosts}
use Rattle.ks_flow.specs.declared.discipline.Discipline.{Ghosts as DisciplineGhosts}
use Rattle.ks_history.specs.declared.Event.{Event}
use Rattle.ks_history.specs.declared.Event.TheVariants.{Call, Shape}
use Rattle.ks_history.specs.declared.Op.{Op}
use Rattle.ks_history.specs.declared.Reply.{Reply}
use Rattle.ks_history.specs.Alone.{ActsAlone, HoldsAlone}
use Rattle.ks_history.specs.Due.{NoneFree, IsFullFor}
use Rattle.ks_history.specs.Passes.{Has, NoCallBy, GrowsByOthers, GrowsWith}
use Rattle.ks_history.specs.Trace.{◌⊑◌, graph_after}
use Rattle.ks_node.specs.Effect.{with_pairs}
use Rattle.ks_arena.specs.declared.arena.Arena.{Arena}
use Rattle.ks_arena.specs.declared.held.Pass.{Pass}
use Rattle.ks_arena.specs.declared.held.Note.{Note}
use Rattle.ks_arena.specs.declared.held.Taken.{Taken}
use Rattle.ks_arena.specs.declared.held.Held.{Held as Hand}
use Rattle.ks_arena.specs.declared.view.Mark.{Mark}
use Rattle.ks_arena.specs.Sound.{sort_of, Sound}
use Rattle.ks_arena.specs.Plays.{TellsFree}
use Rattle.ks_arena.specs.Clauses.{AreShaped, Numbered, IsPass, IsPassWith, IsNote, IsNewCrew, IsCrew, IsReady, Matches, MayShape, Kept, KeptBut, KeptBesides, StillMatch, StillMatchBut, StillMatchBesides, HasLooked, TryTook, Took, TryClaimed, DidClaimIn, DidClaim, hand_of, mine_of, seen_of}

module _ {N D : Type 0} where
  -- the caller of a pass; and that two passes are of one caller
  abbrev pub caller_of : Pass N D → ℕ
  caller_of p = p.caller

  abbrev pub SameCaller : Pass N D → Pass N D → Type 0
  SameCaller p q = caller_of q ≡ caller_of p

  -- how many steps on words its caller has made
  abbrev pub steps_of : Pass N D → ℕ
  steps_of p = p.steps.made

  -- the pass holds the node
  abbrev pub Holds : Pass N D → ℕ → Type 0
  Holds p i = Has (hand_of p) i

  -- the place is in the inset of the node, as far as the pass has seen
  abbrev pub IsInside : Pass N D → ℕ → ℕ → Type 0
  IsInside p i place = InInset (graph_after (seen_of p)) i place

  -- the pass has seen what it had before, and perhaps more
  abbrev pub SeesOn : Pass N D → Pass N D → Type 0
  SeesOn p q = seen_of p ⊑ seen_of q

  -- the pass has seen this event of its caller, and before it events of others
  abbrev pub Adds : Event → Pass N D → Pass N D → Type 0
  Adds e p q = GrowsWith p.caller e (seen_of p) (seen_of q)

  -- the same, and the event is a call with this number
  abbrev pub AddsCall : Event → Pass N D → Pass N D → ℕ → Type 0
  AddsCall e p q number = Numbered p.caller e (seen_of p) (seen_of q) number

  -- it has seen more, and its caller has done nothing
  abbrev pub Looks : Pass N D → Pass N D → Type 0
  Looks p q = HasLooked p.caller (seen_of p) (seen_of q)

  -- what it holds stays as it is: all of it; all but node i; all but what the changes name
  abbrev pub Keeps : Pass N D → Pass N D → Type 0
  Keeps p q = Kept p.caller (seen_of p) (seen_of q)

  abbrev pub KeepsBut : ℕ → Pass N D → Pass N D → Type 0
  KeepsBut i p q = KeptBut i p.caller (seen_of p) (seen_of q)

  abbrev pub KeepsBesides : List Change → Pass N D → Pass N D → Type 0
  KeepsBesides changes p q = KeptBesides changes p.caller (seen_of p) (seen_of q)

  -- no other caller did anything meanwhile; and none held a node before
  abbrev pub WasAlone : Pass N D → Pass N D → Type 0
  WasAlone p q = ActsAlone p.caller (seen_of p) (seen_of q)

  abbrev pub HeldAlone : Pass N D → Type 0
  HeldAlone p = HoldsAlone p.caller (seen_of p)

module _ {N D P : Type 0} {n : NodeGhosts N P} {q : PlacingGhosts P} {d : DisciplineGhosts D} where
  -- how many nodes the arena has, and how many callers; and node i is one of its nodes
  abbrev pub nodes_of : Arena N D P n q d → ℕ
  nodes_of a = a.nodes

  abbrev pub callers_of : Arena N D P n q d → ℕ
  callers_of a = a.callers

  abbrev pub IsNodeOf : Arena N D P n q d → ℕ → Type 0
  IsNodeOf a i = i < nodes_of a

  -- a pass of the arena, as it is between two calls
  abbrev pub IsPassOf : Arena N D P n q d → Pass N D → Type 0
  IsPassOf a p = IsPass (sort_of n.layout n.ranged) d.begins d.step a.table.shared.table_id a.callers p

  -- one that holds no node
  abbrev pub IsEmptyPassOf : Arena N D P n q d → Pass N D → Type 0
  IsEmptyPassOf a p = IsPassOf a p × (hand_of p ≡ [])

  -- one that is about to change the bit of a node
  abbrev pub IsMarkedPassOf : Arena N D P n q d → Mark → Pass N D → Type 0
  IsMarkedPassOf a mark p = IsPassWith (sort_of n.layout n.ranged) d.begins d.step mark a.table.shared.table_id a.callers p

  -- the passes that a start returns
  abbrev pub AreNewPassesOf : Arena N D P n q d → List (Pass N D) → Type 0
  AreNewPassesOf a ps = IsNewCrew (sort_of n.layout n.ranged) d.begins d.step a.table.shared.table_id a.callers ps

  -- a start makes an arena of this many nodes, and a pass for each of this many callers
  abbrev pub IsStart : Arena N D P n q d → ℕ → ℕ → List (Pass N D) → Type 0
  IsStart a nodes callers ps = (nodes_of a ≡ nodes) × (callers_of a ≡ callers) × AreNewPassesOf a ps

  -- all passes of the arena, none of which holds a node
  abbrev pub AreAllPassesOf : Arena N D P n q d → List (Pass N D) → Type 0
  AreAllPassesOf a ps = IsCrew (sort_of n.layout n.ranged) d.begins d.step a.table.shared.table_id a.callers ps

  -- a note of what a pass of the arena had seen
  abbrev pub IsNoteFrom : Arena N D P n q d → Note N D → Type 0
  IsNoteFrom a x = IsNote a.table.shared.table_id x

  -- the held body is that of its node, as far as the pass has seen; and the node is live
  abbrev pub IsCurrent : Arena N D P n q d → Pass N D → Hand N → Type 0
  IsCurrent a p x = Matches (sort_of n.layout n.ranged) n.body (seen_of p) x

  abbrev pub IsLiveAndCurrent : Arena N D P n q d → Pass N D → Hand N → Type 0
  IsLiveAndCurrent a p x = (x.live ≡ true) × IsCurrent a p x

  -- held bodies that were current still are: all; all but that of node i; all but those of nodes that the changes name
  abbrev pub StayCurrent : Arena N D P n q d → Pass N D → Pass N D → Type 0
  StayCurrent a p p' = StillMatch (sort_of n.layout n.ranged) n.body (hand_of p) (seen_of p) (seen_of p')

  abbrev pub StayCurrentBut : Arena N D P n q d → ℕ → Pass N D → Pass N D → Type 0
  StayCurrentBut a i p p' = StillMatchBut (sort_of n.layout n.ranged) n.body i (hand_of p) (seen_of p) (seen_of p')

  abbrev pub StayCurrentBesides : Arena N D P n q d → List Change → Pass N D → Pass N D → Type 0
  StayCurrentBesides a changes p p' = StillMatchBesides (sort_of n.layout n.ranged) n.body changes (hand_of p) (seen_of p) (seen_of p')

  -- the rest is as it was: what the pass holds stays, and held bodies that were current still are; all but node i
  pub record RestStays (a : Arena N D P n q d) (p p' : Pass N D) : Type 0 where
    pub kept : Keeps p p'
    pub still : StayCurrent a p p'

  pub record RestStaysBut (a : Arena N D P n q d) (i : ℕ) (p p' : Pass N D) : Type 0 where
    pub kept : KeepsBut i p p'
    pub still : StayCurrentBut a i p p'

  -- the result of a try to take node i; that of a take, which waits; and that of a claim
  abbrev pub TriedToTake : Arena N D P n q d → ℕ → Pass N D → Pass N D → Taken N → Type 0
  TriedToTake a i p p' taken = TryTook (sort_of n.layout n.ranged) n.body p.caller i (seen_of p) (seen_of p') taken

  abbrev pub HasTakenFrom : Arena N D P n q d → ℕ → Pass N D → Pass N D → Option (Hand N) → Type 0
  HasTakenFrom a i p p' taken = Took (sort_of n.layout n.ranged) n.body p.caller i (seen_of p) (seen_of p') taken

  abbrev pub HasClaimedFrom : Arena N D P n q d → Pass N D → Pass N D → Option (Hand N) → Type 0
  HasClaimedFrom a p p' claimed = DidClaim (sort_of n.layout n.ranged) n.body a.nodes p.caller (seen_of p) (seen_of p') claimed

  -- the result of a try to claim node i; that of a claim among the nodes of free word w; and what free word w says
  abbrev pub TriedToClaim : Arena N D P n q d → ℕ → Pass N D → Pass N D → Option (Hand N) → Type 0
  TriedToClaim a i p p' claimed = TryClaimed (sort_of n.layout n.ranged) n.body p.caller i (seen_of p) (seen_of p') claimed

  abbrev pub HasClaimedIn : Arena N D P n q d → ℕ → Pass N D → Pass N D → Option (Hand N) → Type 0
  HasClaimedIn a w p p' claimed = DidClaimIn (sort_of n.layout n.ranged) n.body a.nodes w p.caller (seen_of p) (seen_of p') claimed

  abbrev pub TellsFreeOf : Arena N D P n q d → ℕ → Pass N D → Pass N D → ℕ → Type 0
  TellsFreeOf a w p p' word = TellsFree a.nodes w p.caller (seen_of p') word

  -- between p and p' the caller decided the operation at the node x, with this reply and number, and did nothing else; it
  -- holds what it held, and the rest is as it was
  pub record HasDecided (a : Arena N D P n q d) (x : Hand N) (op : Op) (reply : Reply) (p p' : Pass N D) (number : ℕ) : Type 0 where
    pub adds : AddsCall (Call p.caller x.node op reply) p p' number
    pub hand : hand_of p' ≡ hand_of p
    pub mine : mine_of p' ≡ Call p.caller x.node op reply ∷ mine_of p
    pub kept : KeepsBut x.node p p'
    pub still : StayCurrentBut a x.node p p'

  -- between p and p' the caller made these changes one event, and did nothing else; it holds what it held, and the rest is as
  -- it was
  pub record HasShaped (a : Arena N D P n q d) (changes : List Change) (p p' : Pass N D) : Type 0 where
    pub adds : Adds (Shape p.caller changes) p p'
    pub hand : hand_of p' ≡ hand_of p
    pub mine : mine_of p' ≡ Shape p.caller changes ∷ mine_of p
    pub kept : KeepsBesides changes p p'
    pub still : StayCurrentBesides a changes p p'

  -- the operation may be decided at the node, whose body it has changed, with this reply
  abbrev pub IsReadyAt : Arena N D P n q d → Pass N D → Hand N → Op → Reply → Type 0
  IsReadyAt a p x op reply = IsReady (sort_of n.layout n.ranged) n.body a.nodes p.caller (seen_of p) x op reply

  -- it may be decided at the node once this has these pairs in place of its own
  abbrev pub IsReadyOnce : Arena N D P n q d → Pass N D → Hand N → List Pair → Op → Reply → Type 0
  IsReadyOnce a p x pairs op reply = (y : Hand N) → y.node ≡ x.node → y.live ≡ true → n.body y.body ≡ with_pairs (n.body x.body) pairs → IsReadyAt a p y op reply

  -- no node was free for the place since some moment, and the caller made no call since
  abbrev pub WasRefusedAt : Arena N D P n q d → Pass N D → ℕ → Type 0
  WasRefusedAt a p place = (start : List Event) × (since : start ⊑ seen_of p) × NoCallBy p.caller since.rest × NoneFree n.layout a.nodes p.caller place start (seen_of p)

  -- whatever others do, node i stays full for the place
  abbrev pub StaysFullFor : Arena N D P n q d → Pass N D → ℕ → ℕ → Type 0
  StaysFullFor a p i place = (h : List Event) → GrowsByOthers p.caller (seen_of p) h → Sound (sort_of n.layout n.ranged) d.begins d.step a.table.shared.table_id.slots h → IsFullFor n.layout (graph_after h) i place

  -- what the held bodies are after a Shape
  abbrev pub AreCurrent : Arena N D P n q d → Pass N D → Hand N → Option (Bor (Hand N)) → Option (Bor (Hand N)) → Type 0
  AreCurrent a p x y z = AreShaped (sort_of n.layout n.ranged) n.body (seen_of p) x y z

  -- whatever others do before it, the discipline allows a Shape of these changes
  abbrev pub MayBecome : Arena N D P n q d → Pass N D → List Change → Type 0
  MayBecome a p changes = MayShape (sort_of n.layout n.ranged) d.begins d.step a.nodes p.caller (seen_of p) changes
