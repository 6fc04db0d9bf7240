-- Calls that may begin at a hint: at which node such a call was decided, the range of that node, and where the call began.
use Rattle.std.specs.Prelude.{◌≡◌, ℕ, ◌<◌, ◌≤◌, List, ◌∷◌, ◌++◌, Option, Some, None, IfSome, IsTrue, cond}
use Rattle.std.specs.Option.{option_map}
use Rattle.ks_keysets.specs.declared.Frame.{Frame}
use Rattle.ks_keysets.specs.Keyset.{IsLive}
use Rattle.ks_keysets.specs.Layout.{Layout}
use Rattle.ks_history.specs.declared.Event.{Event}
use Rattle.ks_history.specs.declared.Event.TheVariants.{Take}
use Rattle.ks_history.specs.declared.Op.{Op}
use Rattle.ks_history.specs.declared.Reply.{Reply}
use Rattle.ks_history.specs.Alone.{ActsAlone}
use Rattle.ks_history.specs.Done.{Template, DoneAt}
use Rattle.ks_history.specs.Frames.{frame_after}
use Rattle.ks_history.specs.Map.{told}
use Rattle.ks_history.specs.Trace.{◌⊑◌, idle, graph_after, turn_after}
use Rattle.ks_node.specs.Body.{Body, is_branch, is_branch_kind}
use Rattle.ks_arena.specs.declared.held.Pass.{Pass}
use Rattle.ks_arena.specs.Sound.{Sort, blank_of}
use Rattle.ks_arena.specs.Clauses.{seen_of}
use Rattle.ks_shape.specs.declared.answers.Above.{Above}
use Rattle.ks_shape.specs.declared.answers.NumberedAt.{NumberedAt}
use Rattle.ks_shape.specs.Idle.{Site}

-- the call of c between s0 and s1 is done, and was decided only at this node, whose range then was from low to last; blank is
-- the frame of a blank body
pub record DoneWhere (layout : Layout) (template : Template) (n c : ℕ) (op : Op) (s0 s1 : List Event) (reply : Reply) (number node low last : ℕ) (blank : Frame) : Type 0 where
  pub frame : Frame
  pub at : DoneAt layout template n c op s0 s1 reply number node blank frame
  pub range : frame.range ≡ Some (record { low = low; last = last })

-- the same between two passes: the caller made one call, and its result says at which node it was decided, and with which range
abbrev pub IsDoneWhere : {N D : Type 0} → Layout → Template → Site → Op → Pass N D → Pass N D → NumberedAt → Type 0
IsDoneWhere layout technique a op p q answer = DoneWhere layout technique a.nodes p.caller op (seen_of p) (seen_of q) (told answer.found) answer.number answer.node answer.low answer.last (blank_of a.sort)

-- the place is in the range that the result says
abbrev pub IsWhere : ℕ → NumberedAt → Type 0
IsWhere place answer = (answer.low ≤ place) × (place ≤ answer.last)

-- if only c acts from s0 to s1, and node i, one of n, was idle, then the first event after s0 is that c takes it
abbrev pub BeginsAt : ℕ → ℕ → ℕ → List Event → List Event → Type 0
BeginsAt n c i s0 s1 = i < n → turn_after s0 i ≡ idle → ActsAlone c s0 s1 → (rest : List Event) × (s1 ≡ rest ++ Take c i ∷ s0)

-- a call between two passes begins at the hinted node, one of n, if it has a hint
abbrev pub BeginsAtHint : {N D : Type 0} → ℕ → Option ℕ → Pass N D → Pass N D → Type 0
BeginsAtHint n hint p q = IfSome hint (λ i. BeginsAt n p.caller i (seen_of p) (seen_of q))

-- after h the node of this branch is live, a branch, and has this range
pub record IsAbove (sort : Sort) (h : List Event) (above : Above) : Type 0 where
  pub live : IsLive (graph_after h) above.node
  pub branch : IsTrue (is_branch_kind (frame_after (blank_of sort) h above.node).kind)
  pub range : (frame_after (blank_of sort) h above.node).range ≡ Some (record { low = above.low; last = above.last })

-- at some moment from h to k the node of this branch was live, a branch, and had this range, which has the place
pub record WasAbove (sort : Sort) (place : ℕ) (h k : List Event) (above : Above) : Type 0 where
  pub moment : List Event
  pub since : h ⊑ moment
  pub later : moment ⊑ k
  pub is : IsAbove sort moment above
  pub within : (above.low ≤ place) × (place ≤ above.last)

-- the same between two passes
abbrev pub HasPassed : {N D : Type 0} → Sort → ℕ → Pass N D → Pass N D → Above → Type 0
HasPassed sort place p q above = WasAbove sort place (seen_of p) (seen_of q) above

-- a node of this body as a branch with its range; none if it is no branch, or has no range
abbrev pub above_in : ℕ → Body → Option Above
above_in node b = cond (is_branch b) (option_map (λ r. record { node = node; low = r.low; last = r.last }) b.range) None
