-- What the calls of the arena require and what they ensure.
use Rattle.std.specs.Prelude.{map, length, slice_index, ◌≡◌, ◌≢◌, ℕ, ◌+◌, ◌*◌, ◌/◌, ◌^◌, ◌<◌, ◌≤◌, ◌==◌, if◌then◌else◌, List, [], ◌∷◌, ◌++◌, Option, Some, None, Bool, true, false}
use mathlib.Core.Option.{some}
use lib.ListN.{get_elem?}
use denote.Bor.{Bor}
use Rattle.atomic_table.specs.Seated.{TableId}
use Rattle.ks_keysets.specs.declared.NodeState.{NodeState}
use Rattle.ks_keysets.specs.declared.NodeState.TheVariants.{Free, Claimed, Live}
use Rattle.ks_keysets.specs.declared.NewState.{NewState}
use Rattle.ks_keysets.specs.declared.NewState.TheVariants.{BecomesLive, BecomesFree}
use Rattle.ks_keysets.specs.declared.Frame.{Frame}
use Rattle.ks_keysets.specs.declared.Change.{Change}
use Rattle.ks_keysets.specs.Keyset.{live_record}
use Rattle.ks_history.specs.declared.Op.{Op}
use Rattle.ks_history.specs.declared.Reply.{Reply}
use Rattle.ks_history.specs.declared.Event.{Event}
use Rattle.ks_history.specs.declared.Event.TheVariants.{Take, Claim, Call}
use Rattle.ks_history.specs.Own.{mine, hand}
use Rattle.ks_history.specs.Trace.{free, held, graph_after, turn_after, number_after, state_with}
use Rattle.ks_history.specs.Frames.{frame_after}
use Rattle.ks_history.specs.Write.{written}
use Rattle.ks_history.specs.Lawful.{Meets, Lawful, GoodThroughout}
use Rattle.ks_history.specs.Due.{IsDue, FullsDue}
use Rattle.ks_history.specs.Refusals.{Sometime}
use Rattle.ks_history.specs.Passes.{Has, GrowsByOthers, GrowsWith}
use Rattle.ks_history.specs.Callers.{CallersBelow}
use Rattle.ks_history.specs.Stays.{StaysHeld}
use Rattle.ks_arena.specs.declared.held.Held.{Held as Hand}
use Rattle.std.specs.Slots.{slots_items}
use Rattle.ks_arena.specs.declared.run.Run.{Run}
use Rattle.ks_arena.specs.declared.held.Note.{Note}
use Rattle.ks_arena.specs.declared.held.Pass.{Pass}
use Rattle.ks_arena.specs.declared.held.Taken.{Taken}
use Rattle.ks_arena.specs.declared.held.Taken.TheVariants.{Held, Busy, Gone}
use Rattle.ks_arena.specs.declared.view.Mark.{Mark}
use Rattle.ks_arena.specs.declared.view.Mark.TheVariants.{Quiet, Claiming, Freeing}
use Rattle.ks_arena.specs.declared.view.View.{View}
use Rattle.ks_node.specs.Body.{Body, frame_of, blank_body}
use Rattle.ks_node.specs.Edges.{record_of}
use Rattle.ks_arena.specs.Sound.{Sort, blank_of, Sound}
use Rattle.ks_arena.specs.Spots.{calls_at, turn_at, free_words}
use Rattle.ks_arena.specs.Rule.{turn_word, Ends}
use Rattle.ks_arena.specs.Plays.{Carries}
use Rattle.ks_arena.specs.Named.{AllNamedBelow}

-- what is known of a pass: its caller, what it has seen of the trace, and the bit that it is about to change
abbrev pub view_of : {N D : Type 0} → Pass N D → View
view_of p = p.seat.me.0

-- what a pass has seen of the trace: a beginning of it, the newest event first
abbrev pub seen_of : {N D : Type 0} → Pass N D → List Event
seen_of p = p.seat.me.0.seen

-- the events of a pass, the newest first
abbrev pub mine_of : {N D : Type 0} → Pass N D → List Event
mine_of p = mine p.caller (seen_of p)

-- the nodes that a pass holds, the last taken first
abbrev pub hand_of : {N D : Type 0} → Pass N D → List ℕ
hand_of p = hand p.caller (seen_of p)

module _ (sort : Sort) (begins : Frame → Type 0) (asks : (ℕ → NodeState) → (ℕ → Frame) → List Change → Type 0) where
  -- a pass of the arena with that table and number of callers, one of which is its own: what it has seen is sound, its slots
  -- are those of the nodes that it holds, and this is its mark
  pub record IsPassWith {N D : Type 0} (k : Mark) (t : TableId) (callers : ℕ) (p : Pass N D) : Type 0 where
    pub table : p.seat.table_id ≡ t
    pub bare : (view_of p).absorbed ≡ []
    pub few : p.caller < 2 ^ 32
    pub low : p.caller < callers
    pub own : (view_of p).callers ≡ p.caller ∷ []
    pub carries : Carries t.slots (seen_of p) p.caller p.seat.me.1
    pub made : (view_of p).made ≡ (if p.caller == 0 then callers else 0)
    pub known : (view_of p).made ≢ 0 → CallersBelow (view_of p).made (seen_of p)
    pub slots : map (λ x. x.0) p.seat.me.1 ≡ hand_of p
    pub mark : (view_of p).mark ≡ k
    pub sound : Sound sort begins asks t.slots (seen_of p)

  -- a pass as it is between two calls: it is about to change no bit
  abbrev pub IsPass : {N D : Type 0} → TableId → ℕ → Pass N D → Type 0
  IsPass t callers p = IsPassWith Quiet t callers p

-- what a note has seen
abbrev pub noted : {N D : Type 0} → Note N D → List Event
noted x = x.seat.me.0.seen

-- a note of the arena with that table
pub record IsNote {N D : Type 0} (t : TableId) (x : Note N D) : Type 0 where
  pub table : x.seat.table_id ≡ t
  pub own : x.seat.me.0.callers ≡ []
  pub bare : x.seat.me.0.absorbed ≡ []
  pub made : x.seat.me.0.made ≡ 0
  pub slots : x.seat.me.1 ≡ []
  pub quiet : x.seat.me.0.mark ≡ Quiet

-- what c holds after h stays: all of it; all but node i; all but what a list of changes names
abbrev pub Kept : ℕ → List Event → List Event → Type 0
Kept c h k = (j : ℕ) → turn_after h j ≡ held c → StaysHeld c j h k

abbrev pub KeptBut : ℕ → ℕ → List Event → List Event → Type 0
KeptBut i c h k = (j : ℕ) → j ≢ i → turn_after h j ≡ held c → StaysHeld c j h k

abbrev pub NamesNot : List Change → ℕ → Type 0
NamesNot [] j = Unit {0}
NamesNot (x ∷ xs) j = (j ≢ x.node) × NamesNot xs j

abbrev pub KeptBesides : List Change → ℕ → List Event → List Event → Type 0
KeptBesides changes c h k = (j : ℕ) → NamesNot changes j → turn_after h j ≡ held c → StaysHeld c j h k

-- c has seen more of the trace, and has done nothing
pub record HasLooked (c : ℕ) (h k : List Event) : Type 0 where
  pub grows : GrowsByOthers c h k
  pub hand : hand c k ≡ hand c h
  pub mine : mine c k ≡ mine c h

-- node j was not free at some moment between
abbrev pub WasTaken : List Event → List Event → ℕ → Type 0
WasTaken h k j = Sometime h k (λ m. turn_after m j ≢ free)

-- a call with its number: how many calls are before it
pub record Numbered (c : ℕ) (e : Event) (h k : List Event) (n : ℕ) : Type 0 where
  pub grows : GrowsWith c e h k
  pub number : n ≡ number_after (grows.rest ++ h)

-- the bit of a node that is released as free is set before
abbrev pub give_mark : Bool → ℕ → Mark
give_mark true i = Quiet
give_mark false i = Freeing i

-- how many steps it takes to release a node: one brings its slot to the front, and one stores its turn; a node that is not live
-- has its bit set before
abbrev pub give_steps : Bool → ℕ
give_steps true = 2
give_steps false = 3

module _ {N : Type 0} where
  -- the bit of a node just claimed is still set
  abbrev pub claim_mark : Option (Hand N) → Mark
  claim_mark None = Quiet
  claim_mark (Some x) = Claiming x.node

  -- how many steps a try to claim a node takes: it takes the turn and clears the bit, or finds the turn taken
  abbrev pub try_steps : Option (Hand N) → ℕ
  try_steps None = 1
  try_steps (Some x) = 2

  -- how many steps a claim in a free word takes while no other caller acts: it loads the word, takes a turn and clears a bit
  abbrev pub word_steps : Option (Hand N) → ℕ
  word_steps None = 1
  word_steps (Some x) = 3

  -- how many steps a claim takes while no other caller acts: it loads the free words up to that of the node, takes the
  -- turn and clears the bit
  abbrev pub steps_alone : ℕ → Option (Hand N) → ℕ
  steps_alone nodes None = free_words nodes
  steps_alone nodes (Some x) = x.node / 64 + 3

module _ {N : Type 0} (sort : Sort) (shows : N → Body) where
  -- a held node that is live has its record and frame after h; one that is not is blank
  abbrev pub MatchesIf : Bool → NodeState → Frame → N → Type 0
  MatchesIf true s f b = (s ≡ Live (record_of (shows b))) × (f ≡ frame_of (shows b))
  MatchesIf false s f b = (live_record s ≡ None) × (shows b ≡ blank_body sort.ranged)

  pub record Matches (h : List Event) (x : Hand N) : Type 0 where
    pub is : MatchesIf x.live (graph_after h x.node) (frame_after (blank_of sort) h x.node) x.body

  -- a held body that shows its node still does: each; each but that of node i; each but those that the changes name
  abbrev pub StillMatch : List ℕ → List Event → List Event → Type 0
  StillMatch hs h k = (x : Hand N) → Has hs x.node → Matches h x → Matches k x

  abbrev pub StillMatchBut : ℕ → List ℕ → List Event → List Event → Type 0
  StillMatchBut i hs h k = (x : Hand N) → x.node ≢ i → Has hs x.node → Matches h x → Matches k x

  abbrev pub StillMatchBesides : List Change → List ℕ → List Event → List Event → Type 0
  StillMatchBesides changes hs h k = (x : Hand N) → NamesNot changes x.node → Has hs x.node → Matches h x → Matches k x

  -- c took node i, and holds it
  pub record HasTaken (c i : ℕ) (h k : List Event) (x : Hand N) : Type 0 where
    pub node : x.node ≡ i
    pub live : x.live ≡ true
    pub matches : Matches k x
    pub grows : GrowsWith c (Take c i) h k
    pub fresh : ¬ Has (hand c h) i
    pub hand : hand c k ≡ i ∷ hand c h
    pub mine : mine c k ≡ Take c i ∷ mine c h

  -- the result of a try to take node i: c has it, another caller has it, or it is free
  abbrev pub TryTook : ℕ → ℕ → List Event → List Event → Taken N → Type 0
  TryTook c i h k (Held x) = HasTaken c i h k x
  TryTook c i h k (Busy d) = HasLooked c h k × (turn_after k i ≡ held d) × (d ≢ c)
  TryTook c i h k Gone = HasLooked c h k × (turn_after k i ≡ free)

  -- the result of a take of node i, which waits while others hold it
  abbrev pub Took : ℕ → ℕ → List Event → List Event → Option (Hand N) → Type 0
  Took c i h k None = HasLooked c h k × (turn_after k i ≡ free)
  Took c i h k (Some x) = HasTaken c i h k x

  -- c claimed this node, which is blank
  pub record HasClaimed (c : ℕ) (h k : List Event) (x : Hand N) : Type 0 where
    pub live : x.live ≡ false
    pub blank : shows x.body ≡ blank_body sort.ranged
    pub matches : Matches k x
    pub state : graph_after k x.node ≡ Claimed c
    -- just after the event
    pub moment : List Event
    pub grows : GrowsWith c (Claim c x.node) h moment
    pub since : GrowsByOthers c moment k
    pub fresh : ¬ Has (hand c h) x.node
    pub hand : hand c k ≡ x.node ∷ hand c h
    pub mine : mine c k ≡ Claim c x.node ∷ mine c h

  abbrev pub TryClaimed : ℕ → ℕ → List Event → List Event → Option (Hand N) → Type 0
  TryClaimed c i h k None = HasLooked c h k × (turn_after k i ≢ free)
  TryClaimed c i h k (Some x) = (x.node ≡ i) × HasClaimed c h k x

  -- the result of a claim among the nodes of free word w: the first that it found free; or each was at some moment not free
  abbrev pub DidClaimIn : ℕ → ℕ → ℕ → List Event → List Event → Option (Hand N) → Type 0
  DidClaimIn nodes w c h k None = HasLooked c h k × ((b : ℕ) → b < 64 → 64 * w + b < nodes → WasTaken h k (64 * w + b))
  DidClaimIn nodes w c h k (Some x) = HasClaimed c h k x × (x.node < nodes) × ((b : ℕ) × (b < 64) × (x.node ≡ 64 * w + b) × ((a : ℕ) → a < b → WasTaken h k (64 * w + a)))

  -- the result of a claim: the first node that it found free; or each node was at some moment not free
  abbrev pub DidClaim : ℕ → ℕ → List Event → List Event → Option (Hand N) → Type 0
  DidClaim nodes c h k None = HasLooked c h k × ((j : ℕ) → j < nodes → WasTaken h k j)
  DidClaim nodes c h k (Some x) = HasClaimed c h k x × (0 < x.node) × (x.node < nodes) × ((j : ℕ) → 0 < j → j < x.node → WasTaken h k j)

  -- the operation is lawful at the node after h, a Full is due, and the body is the node after the operation
  pub record IsReady (nodes c : ℕ) (h : List Event) (x : Hand N) (op : Op) (reply : Reply) : Type 0 where
    pub live : x.live ≡ true
    pub meets : Meets h (Call c x.node op reply)
    pub due : IsDue sort.layout nodes h (Call c x.node op reply)
    pub state : state_with (written op reply) (graph_after h x.node) ≡ Live (record_of (shows x.body))
    pub frame : frame_after (blank_of sort) h x.node ≡ frame_of (shows x.body)

-- the passes that a start returns: numbered from 0, they have seen nothing and hold nothing
module _ (sort : Sort) (begins : Frame → Type 0) (asks : (ℕ → NodeState) → (ℕ → Frame) → List Change → Type 0) where
  pub record IsNewPass {N D : Type 0} (t : TableId) (callers c : ℕ) (p : Pass N D) : Type 0 where
    pub pass : IsPass sort begins asks t callers p
    pub caller : p.caller ≡ c
    pub seen : seen_of p ≡ []

  pub record IsNewCrew {N D : Type 0} (t : TableId) (callers : ℕ) (ps : List (Pass N D)) : Type 0 where
    pub long : length ps ≡ callers
    pub each : (j : ℕ) (p : Pass N D) → get_elem? ps j ≡ some p → IsNewPass t callers j p

  -- all passes of an arena, none of which holds a node
  pub record IsCrew {N D : Type 0} (t : TableId) (callers : ℕ) (ps : List (Pass N D)) : Type 0 where
    pub each : (j : ℕ) (p : Pass N D) → get_elem? ps j ≡ some p → IsPass sort begins asks t callers p × (hand_of p ≡ [])
    pub all : (c : ℕ) → c < callers → (j : ℕ) × (p : Pass N D) × (get_elem? ps j ≡ some p) × (p.caller ≡ c)

-- h continues what each pass has seen, and has no more events of its caller
abbrev pub EndsAll : {N D : Type 0} → List Event → List (Pass N D) → Type 0
EndsAll {N} {D} h ps = (j : ℕ) (p : Pass N D) → get_elem? ps j ≡ some p → GrowsByOthers p.caller (seen_of p) h

module _ {N : Type 0} (shows : N → Body) where
  -- the state that a change sets for a node of this body: live with its record and frame, or free
  abbrev pub new_state_of : Bool → N → NewState
  new_state_of true b = BecomesLive (record_of (shows b)) (frame_of (shows b))
  new_state_of false b = BecomesFree

  -- the change that a shape makes of a held node
  abbrev pub change_of : Hand N → Change
  change_of x = record { node = x.node; state = new_state_of x.live x.body }

  abbrev pub and_change : Option (Bor (Hand N)) → List Change → List Change
  and_change None xs = xs
  and_change (Some x) xs = change_of x.now ∷ xs

  abbrev pub changes_of : Hand N → Option (Bor (Hand N)) → Option (Bor (Hand N)) → List Change
  changes_of x y z = change_of x ∷ and_change y (and_change z [])

module _ {N : Type 0} (sort : Sort) (shows : N → Body) where
  -- the node is what its body shows, if the body of a node that is not live is blank
  abbrev pub IsShaped : List Event → Hand N → Type 0
  IsShaped h x = (x.live ≡ false → shows x.body ≡ blank_body sort.ranged) → Matches sort shows h x

  abbrev pub MaybeShaped : List Event → Option (Bor (Hand N)) → Type 0
  MaybeShaped h None = Unit {0}
  MaybeShaped h (Some x) = IsShaped h x.now

  abbrev pub AreShaped : List Event → Hand N → Option (Bor (Hand N)) → Option (Bor (Hand N)) → Type 0
  AreShaped h x y z = IsShaped h x × MaybeShaped h y × MaybeShaped h z

-- each named node is among these
abbrev pub AllAmong : List ℕ → List Change → Type 0
AllAmong hs [] = Unit {0}
AllAmong hs (x ∷ xs) = Has hs x.node × AllAmong hs xs

-- no node is named twice
abbrev pub EachOnce : List Change → Type 0
EachOnce [] = Unit {0}
EachOnce (x ∷ xs) = NamesNot xs x.node × EachOnce xs

-- whatever others do before the shape is made, the discipline allows it
module _ (sort : Sort) (begins : Frame → Type 0) (asks : (ℕ → NodeState) → (ℕ → Frame) → List Change → Type 0) where
  abbrev pub MayShape : ℕ → ℕ → List Event → List Change → Type 0
  MayShape nodes c seen changes = (h : List Event) → GrowsByOthers c seen h → Sound sort begins asks nodes h → asks (graph_after h) (frame_after (blank_of sort) h) changes

-- the trace of a run that has ended, the newest event first
abbrev pub trace_of : {N : Type 0} → Run N → List Event
trace_of r = r.trace

-- how many nodes a run that has ended is over
abbrev pub nodes_in : {N : Type 0} → Run N → ℕ
nodes_in r = length (slots_items r.remains.closed.slots)

-- a run over this many nodes that has ended: its trace is lawful, with a good graph throughout, each Full was due, the
-- words and bodies are those after the trace, and no other node was ever named or used
module _ {N : Type 0} (sort : Sort) (shows : N → Body) where
  pub record IsRun (nodes : ℕ) (r : Run N) : Type 0 where
    pub lawful : Lawful (trace_of r)
    pub good : GoodThroughout (trace_of r)
    pub due : FullsDue sort.layout nodes (trace_of r)
    pub sized : length (slots_items r.remains.closed.slots) ≡ nodes
    pub count : slice_index (slots_items r.remains.closed.words) calls_at ≡ number_after (trace_of r)
    pub turns : (i : ℕ) → i < nodes → slice_index (slots_items r.remains.closed.words) (turn_at i) ≡ turn_word (turn_after (trace_of r) i)
    pub ends : (i : ℕ) → i < nodes → Ends sort shows (graph_after (trace_of r) i) (frame_after (blank_of sort) (trace_of r) i) (turn_after (trace_of r) i) (get_elem? (slots_items r.remains.closed.slots) i)
    pub named : AllNamedBelow nodes (trace_of r)
    pub beyond : (i : ℕ) → nodes ≤ i → graph_after (trace_of r) i ≡ Free
