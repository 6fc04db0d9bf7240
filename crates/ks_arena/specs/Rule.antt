-- The running rule: what holds of the words, the bodies at home and the views between any two steps.
use Rattle.std.specs.Prelude.{ℕ, ◌≡◌, ◌≢◌, ◌+◌, ◌*◌, ◌%◌, ◌^◌, ◌<◌, ◌⊎◌, max, List, [], ◌∷◌, ◌++◌, length, slice_index, Option, Some}
use Rattle.std.specs.Int.{bit_at}
use mathlib.Core.Option.{none, some}
use mathlib.Core.Option as maybe
use lib.ListN.{get_elem?}
use Rattle.atomic_table.specs.Table.{State}
use Rattle.ks_keysets.specs.declared.Frame.{Frame}
use Rattle.ks_keysets.specs.declared.NodeState.{NodeState}
use Rattle.ks_keysets.specs.declared.NodeState.TheVariants.{Live}
use Rattle.ks_keysets.specs.declared.Change.{Change}
use Rattle.ks_history.specs.declared.Event.{Event}
use Rattle.ks_history.specs.Trace.{Turn, free, idle, held, graph_after, turn_after, number_after}
use Rattle.ks_history.specs.Frames.{frame_after}
use Rattle.ks_history.specs.Own.{shapes_in}
use Rattle.ks_history.specs.Passes.{Has, NoneOf}
use Rattle.ks_history.specs.Callers.{CallersBelow}
use Rattle.ks_arena.specs.declared.view.Mark.{Mark}
use Rattle.ks_arena.specs.declared.view.Mark.TheVariants.{Quiet, Claiming, Freeing}
use Rattle.ks_arena.specs.declared.view.Part.{Part}
use Rattle.ks_arena.specs.declared.view.View.{View}
use Rattle.ks_node.specs.Body.{Body, frame_of, blank_body}
use Rattle.ks_node.specs.Edges.{record_of}
use Rattle.ks_arena.specs.Sound.{Sort, blank_of, Sound}
use Rattle.ks_arena.specs.Spots.{calls_at, shapes_at, turn_at, free_at, words_for}

-- h continues what a seat had seen by events of others than its callers
pub record Fits (h : List Event) (callers : List ℕ) (seen : List Event) : Type 0 where
  pub rest : List Event
  pub is : h ≡ rest ++ seen
  pub others : NoneOf callers rest

abbrev pub FitsAll : List Event → List Part → Type 0
FitsAll h [] = Unit {0}
FitsAll h (p ∷ ps) = Fits h p.callers p.seen × FitsAll h ps

-- the callers of the parts, and of a view with its parts
abbrev pub callers_in : List Part → List ℕ
callers_in [] = []
callers_in (p ∷ ps) = p.callers ++ callers_in ps

abbrev pub all_callers : View → List ℕ
all_callers v = v.callers ++ callers_in v.absorbed

-- a caller is among them: so it is with the callers of a pass, and not with those of a note
abbrev pub SomeCaller : List ℕ → Type 0
SomeCaller cs = (c : ℕ) × Has cs c

-- one of the parts is of a caller and has seen all
abbrev pub SomeWhole : List Event → List Part → Type 0
SomeWhole h [] = ⊥
SomeWhole h (p ∷ ps) = ((p.seen ≡ h) × SomeCaller p.callers) ⊎ SomeWhole h ps

-- so is the view, or a part of it
abbrev pub IsWhole : List Event → View → Type 0
IsWhole h v = ((v.seen ≡ h) × SomeCaller v.callers) ⊎ SomeWhole h v.absorbed

abbrev pub AllBelow : ℕ → List ℕ → Type 0
AllBelow n cs = (c : ℕ) → Has cs c → c < n

-- what any pass or note has seen is a beginning of h, and some caller has seen all of it; each view has all events of its
-- own callers, no caller has two views, and one view, that of caller 0, counts the passes
pub record Views (h : List Event) (vs : List View) : Type 0 where
  pub each : (j : ℕ) (v : View) → get_elem? vs j ≡ some v → Fits h v.callers v.seen
  pub parts : (j : ℕ) (v : View) → get_elem? vs j ≡ some v → FitsAll h v.absorbed
  pub longest : (j : ℕ) × (v : View) × (get_elem? vs j ≡ some v) × IsWhole h v
  pub apart : (j k c : ℕ) (v w : View) → get_elem? vs j ≡ some v → get_elem? vs k ≡ some w → Has (all_callers v) c → Has (all_callers w) c → j ≡ k
  pub maker : (j k : ℕ) (v w : View) → get_elem? vs j ≡ some v → get_elem? vs k ≡ some w → v.made ≢ 0 → AllBelow v.made (all_callers w) × (w.made ≢ 0 → j ≡ k)
  pub first : (j : ℕ) (v : View) → get_elem? vs j ≡ some v → v.made ≢ 0 → Has (all_callers v) 0
  pub known : (j : ℕ) (v : View) → get_elem? vs j ≡ some v → v.made ≢ 0 → CallersBelow v.made h

-- the word of a turn
abbrev pub turn_word : Turn → ℕ
turn_word free = 0
turn_word idle = 1
turn_word (held c) = c + 2

-- bit b of free word w: that of node 64 w + b
abbrev pub free_bit : ℕ → List ℕ → ℕ → ℕ → ℕ
free_bit n words w b = bit_at (slice_index words (free_at n w)) b

-- the mark says that the caller is about to clear the bit of node i, or has set it and is about to release the node as free
abbrev pub Marks : Mark → ℕ → Type 0
Marks Quiet i = ⊥
Marks (Claiming j) i = j ≡ i
Marks (Freeing j) i = j ≡ i

abbrev pub SomeMarks : List View → ℕ → Type 0
SomeMarks vs i = (j : ℕ) × (v : View) × (get_elem? vs j ≡ some v) × Marks v.mark i

-- the bit of a node is set if and only if the node is free or a mark of its holder names it; bits of no node are clear; and
-- a mark is of a node that a caller of its view holds
pub record FreeBits (h : List Event) (vs : List View) (n : ℕ) (words : List ℕ) : Type 0 where
  pub sets : (w b : ℕ) → b < 64 → free_bit n words w b ≡ 1 → (64 * w + b < n) × ((turn_after h (64 * w + b) ≡ free) ⊎ SomeMarks vs (64 * w + b))
  pub clears : (w b : ℕ) → b < 64 → 64 * w + b < n → free_bit n words w b ≡ 0 → (turn_after h (64 * w + b) ≢ free) × (¬ SomeMarks vs (64 * w + b))
  pub marks : (j i : ℕ) (v : View) → get_elem? vs j ≡ some v → Marks v.mark i → (c : ℕ) × Has v.callers c × (turn_after h i ≡ held c)

-- the bits of the nodes from 1 to m are set, that of node m not, and all others clear
pub record FirstBits (n m : ℕ) (words : List ℕ) : Type 0 where
  pub sets : (w b : ℕ) → b < 64 → free_bit n words w b ≡ 1 → (0 < 64 * w + b) × (64 * w + b < m)
  pub clears : (w b : ℕ) → b < 64 → free_bit n words w b ≡ 0 → 64 * w + b < m → 64 * w + b ≡ 0

module _ {N : Type 0} (sort : Sort) (shows : N → Body) where
  -- what a slot has while the turn of its node, with this state and frame, is free, idle or held
  abbrev pub Rests : NodeState → Frame → Turn → maybe.Option (maybe.Option (Option N)) → Type 0
  Rests s f free x = (b : N) × (x ≡ some (some (Some b))) × (shows b ≡ blank_body sort.ranged)
  Rests s f idle x = (b : N) × (x ≡ some (some (Some b))) × (s ≡ Live (record_of (shows b))) × (f ≡ frame_of (shows b))
  Rests s f (held c) x = x ≡ some none

-- the rule
module _ {N : Type 0} (sort : Sort) (begins : Frame → Type 0) (asks : (ℕ → NodeState) → (ℕ → Frame) → List Change → Type 0) (shows : N → Body) where
  pub record Running (s : State (Option N) View) : Type 0 where
    pub trace : List Event
    pub views : Views trace s.views
    pub sound : Sound sort begins asks (length s.homes) trace
    pub few : CallersBelow (2 ^ 32) trace
    -- the words of the counts, of the turns and of the free bits
    pub wide : length s.words ≡ words_for (length s.homes)
    pub call_count : slice_index s.words calls_at ≡ number_after trace
    pub shape_count : slice_index s.words shapes_at ≡ shapes_in trace % 2 ^ 64
    pub turns : (i : ℕ) → i < length s.homes → slice_index s.words (turn_at i) ≡ turn_word (turn_after trace i)
    pub bits : FreeBits trace s.views (length s.homes) s.words
    -- the bodies at home
    pub homes : (i : ℕ) → i < length s.homes → Rests sort shows (graph_after trace i) (frame_after (blank_of sort) trace i) (turn_after trace i) (get_elem? s.homes i)

-- the view of the first pass
abbrev pub first_view : View
first_view = record { callers = 0 ∷ []; seen = []; absorbed = []; made = 1; mark = Quiet }

-- the view of the next pass, and the maker's after it
abbrev pub next_view : View → View
next_view v = record { callers = v.made ∷ []; seen = v.seen; absorbed = []; made = 0; mark = Quiet }

abbrev pub maker_view : View → View
maker_view v = record { callers = v.callers; seen = v.seen; absorbed = v.absorbed; made = v.made + 1; mark = v.mark }

-- a view of what v has seen, which is of no caller
abbrev pub note_view : View → View
note_view v = record { callers = []; seen = v.seen; absorbed = []; made = 0; mark = Quiet }

-- a view that takes another in, and what is left of the other
abbrev pub part_of : View → Part
part_of v = record { callers = v.callers; seen = v.seen }

abbrev pub both_views : View → View → View
both_views v w = record { callers = v.callers; seen = v.seen; absorbed = v.absorbed ++ (part_of w ∷ w.absorbed); made = max v.made w.made; mark = v.mark }

abbrev pub spent_view : View
spent_view = record { callers = []; seen = []; absorbed = []; made = 0; mark = Quiet }

-- what the first of the views has seen
abbrev pub seen_first : List View → List Event
seen_first [] = []
seen_first (v ∷ vs) = v.seen

module _ {N : Type 0} (sort : Sort) (shows : N → Body) where
  -- what the slot of a node has once nobody holds it
  abbrev pub Ends : NodeState → Frame → Turn → maybe.Option (Option N) → Type 0
  Ends s f free x = (b : N) × (x ≡ some (Some b)) × (shows b ≡ blank_body sort.ranged)
  Ends s f idle x = (b : N) × (x ≡ some (Some b)) × (s ≡ Live (record_of (shows b))) × (f ≡ frame_of (shows b))
  Ends s f (held c) x = ⊥

  abbrev pub AllBlank : List (Option N) → Type 0
  AllBlank xs = (i : ℕ) → i < length xs → (b : N) × (get_elem? xs i ≡ some (Some b)) × (shows b ≡ blank_body sort.ranged)

module _ {N : Type 0} (sort : Sort) (begins : Frame → Type 0) (asks : (ℕ → NodeState) → (ℕ → Frame) → List Change → Type 0) (shows : N → Body) where
  -- the words and slots of a table that is no longer in use, whose trace is h
  pub record Closes (h : List Event) (ws : List ℕ) (xs : List (Option N)) : Type 0 where
    pub sound : Sound sort begins asks (length xs) h
    pub count : slice_index ws calls_at ≡ number_after h
    pub turns : (i : ℕ) → i < length xs → slice_index ws (turn_at i) ≡ turn_word (turn_after h i)
    pub ends : (i : ℕ) → i < length xs → Ends sort shows (graph_after h i) (frame_after (blank_of sort) h i) (turn_after h i) (get_elem? xs i)
