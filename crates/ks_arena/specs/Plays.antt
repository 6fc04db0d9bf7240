-- What each step shows the seat that makes it.
use Rattle.std.specs.Prelude.{◌≡◌, ◌≢◌, ℕ, ◌+◌, ◌*◌, ◌/◌, ◌%◌, ◌^◌, ◌<◌, ◌⊎◌, ◌==◌, if◌then◌else◌, List, [], ◌∷◌, ◌++◌, Option, Some, None}
use Rattle.std.specs.Int.{bit_at}
use Rattle.atomic_table.specs.Table.{Me, Step}
use Rattle.ks_keysets.specs.declared.NodeState.{NodeState}
use Rattle.ks_keysets.specs.declared.NodeState.TheVariants.{Free, Claimed, Live}
use Rattle.ks_keysets.specs.declared.Frame.{Frame}
use Rattle.ks_keysets.specs.declared.Change.{Change}
use Rattle.ks_history.specs.declared.Event.{Event}
use Rattle.ks_history.specs.declared.Event.TheVariants.{Take, Give, Claim}
use Rattle.ks_history.specs.Trace.{free, held, graph_after, turn_after, number_after}
use Rattle.ks_history.specs.Frames.{frame_after}
use Rattle.ks_history.specs.Passes.{NoneOf}
use Rattle.ks_history.specs.Callers.{CallersBelow}
use Rattle.ks_arena.specs.declared.view.Mark.{Mark}
use Rattle.ks_arena.specs.declared.view.Mark.TheVariants.{Quiet, Claiming, Freeing}
use Rattle.ks_arena.specs.declared.view.View.{View}
use Rattle.ks_node.specs.Body.{Body, frame_of, blank_body}
use Rattle.ks_node.specs.Edges.{record_of}
use Rattle.ks_arena.specs.Sound.{Sort, blank_of, Sound}
use Rattle.ks_arena.specs.Spots.{turn_at, free_at}
use Rattle.ks_arena.specs.Rule.{Fits, FitsAll, all_callers, turn_word}

-- the view once it has seen the trace h
abbrev pub with_seen : View → List Event → View
with_seen v h = record { callers = v.callers; seen = h; absorbed = []; made = v.made; mark = v.mark }

-- the view with another mark
abbrev pub marked : Mark → View → View
marked k v = record { callers = v.callers; seen = v.seen; absorbed = v.absorbed; made = v.made; mark = k }

-- the slots without the first of node i
abbrev pub drop_slot : {S : Type 0} → ℕ → List (ℕ × S) → List (ℕ × S)
drop_slot i [] = []
drop_slot i (x ∷ xs) = if x.0 == i then xs else x ∷ drop_slot i xs

-- the slot of node i is held
abbrev pub InHand : {S : Type 0} → List (ℕ × S) → ℕ → Type 0
InHand [] i = ⊥
InHand (x ∷ xs) i = (x.0 ≡ i) ⊎ InHand xs i

-- what the slot of node i has, if it is held
abbrev pub slot_in : {N : Type 0} → ℕ → List (ℕ × Option N) → Option N
slot_in i [] = None
slot_in i (x ∷ xs) = if x.0 == i then x.1 else slot_in i xs

-- the held slots are those of nodes below n that c holds, each once
abbrev pub HasSlots : {N : Type 0} → ℕ → List Event → ℕ → List (ℕ × Option N) → Type 0
HasSlots n h c [] = Unit {0}
HasSlots n h c (x ∷ xs) = (x.0 < n) × (turn_after h x.0 ≡ held c) × (¬ InHand xs x.0) × HasSlots n h c xs

-- and of all that it holds
pub record Carries {N : Type 0} (n : ℕ) (h : List Event) (c : ℕ) (slots : List (ℕ × Option N)) : Type 0 where
  pub hands : HasSlots n h c slots
  pub all : (i : ℕ) → turn_after h i ≡ held c → InHand slots i

-- what free word w says to caller c, which is about to change no bit: a set bit is that of a node that is free or that
-- another caller holds, and the node of a clear bit is not free
pub record TellsFree (n w c : ℕ) (h : List Event) (word : ℕ) : Type 0 where
  pub sets : (b : ℕ) → b < 64 → bit_at word b ≡ 1 → (64 * w + b < n) × ((turn_after h (64 * w + b) ≡ free) ⊎ ((d : ℕ) × (d ≢ c) × (turn_after h (64 * w + b) ≡ held d)))
  pub clears : (b : ℕ) → b < 64 → 64 * w + b < n → bit_at word b ≡ 0 → turn_after h (64 * w + b) ≢ free

-- a pass as a step finds or leaves it: what is known of it, and the slots that it holds
abbrev pub Seated : Type 0 → Type 0
Seated N = Me (Option N) View

module _ (P : List Event → Type 0) where
  -- no event: the view has become the whole trace
  pub record Looks (v w : View) : Type 0 where
    pub rest : List Event
    pub is : w ≡ with_seen v (rest ++ v.seen)
    pub others : NoneOf v.callers rest
    pub sound : P w.seen
    -- the view that counts the passes knows that nobody else acts
    pub known : v.made ≢ 0 → CallersBelow v.made w.seen

  -- the one event e: the view has become the whole trace, which ends with e
  pub record Makes (e : Event) (v w : View) : Type 0 where
    pub rest : List Event
    pub is : w ≡ with_seen v (e ∷ (rest ++ v.seen))
    pub others : NoneOf v.callers rest
    pub sound : P w.seen
    pub known : v.made ≢ 0 → CallersBelow v.made w.seen

module _ {N : Type 0} (sort : Sort) (begins : Frame → Type 0) (asks : (ℕ → NodeState) → (ℕ → Frame) → List Change → Type 0) (shows : N → Body) where
  -- the body shows what the node, with this state and frame, is
  abbrev pub Shows : NodeState → Frame → N → Type 0
  Shows Free f b = shows b ≡ blank_body sort.ranged
  Shows (Claimed c) f b = shows b ≡ blank_body sort.ranged
  Shows (Live r) f b = (r ≡ record_of (shows b)) × (f ≡ frame_of (shows b))

  -- caller c tried to take node i, whose turn word was r
  abbrev pub TookAt : ℕ → ℕ → ℕ → Seated N → ℕ → Seated N → Type 0
  TookAt n c i m r m' =
      (r ≡ 1 → Makes (Sound sort begins asks n) (Take c i) m.0 m'.0 × ((b : N) × (m'.1 ≡ (i, Some b) ∷ m.1) × (graph_after m'.0.seen i ≡ Live (record_of (shows b))) × (frame_after (blank_of sort) m'.0.seen i ≡ frame_of (shows b))))
      × (r ≢ 1 → Looks (Sound sort begins asks n) m.0 m'.0 × (m'.1 ≡ m.1) × (r ≡ turn_word (turn_after m'.0.seen i)) × (r < 2 ^ 32 + 2))

  abbrev pub took : Step (Option N) → Seated N → ℕ → Seated N → Type 0
  took st m r m' = (c i : ℕ) → m.0.callers ≡ c ∷ [] → st.word ≡ turn_at i → TookAt st.slots c i m r m'

  -- caller c tried to claim node i, whose turn word was r
  abbrev pub ClaimedAt : ℕ → ℕ → ℕ → Seated N → ℕ → Seated N → Type 0
  ClaimedAt n c i m r m' =
      (r ≡ 0 → Makes (Sound sort begins asks n) (Claim c i) (marked (Claiming i) m.0) m'.0 × ((b : N) × (m'.1 ≡ (i, Some b) ∷ m.1) × (shows b ≡ blank_body sort.ranged)))
      × (r ≢ 0 → Looks (Sound sort begins asks n) m.0 m'.0 × (m'.1 ≡ m.1) × (turn_after m'.0.seen i ≢ free))

  abbrev pub claimed : Step (Option N) → Seated N → ℕ → Seated N → Type 0
  claimed st m r m' = (c i : ℕ) → m.0.callers ≡ c ∷ [] → st.word ≡ turn_at i → ClaimedAt st.slots c i m r m'

  abbrev pub gave : Step (Option N) → Seated N → ℕ → Seated N → Type 0
  gave st m r m' = (c i : ℕ) (x : Option N) (others : List (ℕ × Option N)) → m.0.callers ≡ c ∷ [] → st.word ≡ turn_at i → m.1 ≡ (i, x) ∷ others
      → Makes (Sound sort begins asks st.slots) (Give c i) (marked Quiet m.0) m'.0 × (m'.1 ≡ others)

  abbrev pub brought : Step (Option N) → Seated N → ℕ → Seated N → Type 0
  brought st m r m' = (i : ℕ) → st.word ≡ turn_at i → Looks (Sound sort begins asks st.slots) m.0 m'.0 × (m'.1 ≡ (i, slot_in i m.1) ∷ drop_slot i m.1)

  -- the bit of node i was set; the bit of the marked node was cleared
  abbrev pub bit_was_set : Step (Option N) → Seated N → Seated N → Type 0
  bit_was_set st m m' = (i : ℕ) → st.word ≡ free_at st.slots (i / 64) → st.first ≡ 2 ^ (i % 64) → Looks (Sound sort begins asks st.slots) (marked (Freeing i) m.0) m'.0 × (m'.1 ≡ m.1)

  abbrev pub bit_was_cleared : Step (Option N) → Seated N → Seated N → Type 0
  bit_was_cleared st m m' = Looks (Sound sort begins asks st.slots) (marked Quiet m.0) m'.0 × (m'.1 ≡ m.1)

  -- caller c read free word w
  abbrev pub scanned : Step (Option N) → Seated N → ℕ → Seated N → Type 0
  scanned st m r m' = (c w : ℕ) → m.0.callers ≡ c ∷ [] → m.0.mark ≡ Quiet → st.word ≡ free_at st.slots w → Looks (Sound sort begins asks st.slots) m.0 m'.0 × (m'.1 ≡ m.1) × TellsFree st.slots w c m'.0.seen r

  abbrev pub decided : Step (Option N) → Event → Seated N → ℕ → Seated N → Type 0
  decided st e m r m' = (x : Makes (Sound sort begins asks st.slots) e m.0 m'.0) × (m'.1 ≡ m.1) × (r ≡ number_after (x.rest ++ m.0.seen))

  abbrev pub formed : Step (Option N) → Event → Seated N → Seated N → Type 0
  formed st e m m' = Makes (Sound sort begins asks st.slots) e m.0 m'.0 × (m'.1 ≡ m.1)

  -- the view has become the whole trace and is of all callers that it took in. What each had seen was a beginning of it, and
  -- it has all events of each
  abbrev pub gathered : Step (Option N) → Seated N → Seated N → Type 0
  gathered st m m' = (m'.1 ≡ m.1) × (m'.0 ≡ record { callers = all_callers m.0; seen = m'.0.seen; absorbed = []; made = m.0.made; mark = m.0.mark })
      × Fits m'.0.seen m.0.callers m.0.seen × FitsAll m'.0.seen m.0.absorbed × Sound sort begins asks st.slots m'.0.seen × (m.0.made ≢ 0 → CallersBelow m.0.made m'.0.seen)
