-- What a step of a non-blocking search ensures, from the step down that it made.
use Rattle.std.proofs.Common.{◌≡◌, ◌⊎◌, ℕ, suc, ◌<◌, ◌≤◌, Bool, true, false, List, sym, ap, ◌∙◌, subst, inl, inr, arith}
use Rattle.std.specs.Prelude.{Option, Some, None, IsTrue, Result, Ok, Err, length}
use Rattle.ks_keysets.specs.declared.Frame.{Frame}
use Rattle.ks_keysets.specs.declared.Span.{Span}
use Rattle.ks_keysets.specs.Record.{top, LeadsTo}
use Rattle.ks_history.specs.Trace.{graph_after}
use Rattle.ks_history.specs.Frames.{frame_after}
use Rattle.ks_flow.specs.Tree.{Tree}
use Rattle.ks_node.specs.declared.start.Next.TheVariants.{Here}
use Rattle.ks_node.specs.Sound.{Sound as InOrder}
use Rattle.ks_arena.specs.Sound.{Sort, blank_of}
use Rattle.ks_arena.specs.Clauses.{seen_of}
use Rattle.ks_arena.specs.declared.held.Pass.{Pass}
use Rattle.ks_history.specs.Descent.{TookSince}
use Rattle.ks_history.specs.Due.{NoneFree}
use Rattle.ks_shape.specs.Stretches.{Stretches}
use Rattle.ks_shape.specs.Does.{DoesOnly, MayFill}
use Rattle.ks_put.specs.Deeper.{IsDownPath}
use Rattle.ks_arena.specs.Laws.Writes.{ends_at_no_branch}
use Rattle.ks_shape.specs.Laws.Single.{shown, record_is}
use Rattle.ks_shape.specs.OnPath.{IsOnPath}
use Rattle.ks_keysets.specs.Layout.{Layout}
use Rattle.ks_node.specs.Body.{Body, content_of, first_of, is_branch, last_of, next_at}
use Rattle.ks_node.specs.Edges.{record_of, edges_of}
use Rattle.ks_arena.specs.declared.held.Held.{Held as Hand}
use Rattle.ks_history.specs.declared.Event.{Event}
use Rattle.ks_history.specs.declared.Op.{Op}
use Rattle.ks_history.specs.Done.{Template, coupling, Left}
use Rattle.ks_shape.specs.declared.answers.Later.{Later}
use Rattle.ks_shape.specs.declared.answers.Later.TheVariants.{Busy, Moved, Far}
use Rattle.ks_shape.specs.Tries.{FindsFar, IsCause, IsPutOff}
use Rattle.ks_shape.specs.declared.path.Path.{Path}
use Rattle.ks_put.specs.declared.try_room.Step.{Step}
use Rattle.ks_put.specs.Parts.{HasRoomAbove}
use Rattle.ks_put.specs.Tries.{WentDown, WasRefused, IsEasedBut, IsEasedStep, IsNearer}

pub refused_not : {N : Type 0} (x : Hand N) (depth : ℕ) (None_free : Type 0) (result : Result (Step N) Later) → WentDown x depth false result → WasRefused None_free result
refused_not x depth None_free (Ok step) went = λ t. absurd (let q : true ≡ false = sym t ∙ went.2 in let z : ⊥ = cc in z)
refused_not x depth None_free (Err later) went = tt

pub refused_now : {N : Type 0} (None_free : Type 0) (result : Result (Step N) Later) → None_free → WasRefused None_free result
refused_now None_free (Ok step) none = λ t. none
refused_now None_free (Err later) none = tt

module _ {N : Type 0} (layout : Layout) (shows : N → Body) where
  pub eased_down : (x : Hand N) (depth : ℕ) (refused : Bool) (Grow : Type 0) (result : Result (Step N) Later) → WentDown x depth refused result → (refused ≡ false → Grow → HasRoomAbove layout shows (Some x)) → IsEasedStep layout shows Grow result
  eased_down x depth refused Grow (Ok step) went room = λ r grow full. subst (λ (o : Option (Hand N)). HasRoomAbove layout shows o) (sym went.0) (room (sym went.2 ∙ r) grow)
  eased_down x depth refused Grow (Err later) went room = tt

  -- the parent of a search that went down has room, if the node that it left has
  pub room_above : (o p : Option (Hand N)) → (o ≡ None) ⊎ (o ≡ p) → HasRoomAbove layout shows p → HasRoomAbove layout shows o
  room_above o p (inl none) room = subst (λ (z : Option (Hand N)). HasRoomAbove layout shows z) (sym none) tt
  room_above o p (inr same) room = subst (λ (z : Option (Hand N)). HasRoomAbove layout shows z) (sym same) room

  pub nearer_down : (place : ℕ) (x : Hand N) (depth : ℕ) (refused : Bool) (path : Path N) (result : Result (Step N) Later) → WentDown x depth refused result → IsNearer layout shows place depth path result
  nearer_down place x depth refused path (Ok step) went = inl went.1
  nearer_down place x depth refused path (Err later) went = tt

-- a node that leads on has an edge to start, so it is a branch, if only branches have edges
pub no_leaf : (b : Body) (p m : ℕ) → LeadsTo (record_of b) p m → length (edges_of b) ≡ length b.starts → length b.starts ≡ 0 → ⊥
no_leaf b p m to same none = let some = to.1 in omega (arith, some, same, none)

-- a cause that puts an operation off by coupling puts it off by any technique that may report Far

pub off_later : (template : Template) (n c : ℕ) (op : Op) (s h : List Event) (later : Later) → FindsFar template → Left template c op s h → IsCause coupling n c op s h later → IsPutOff template n c op s h later
off_later template n c op s h (Busy node holder) finds left so = record { left = left; cause = so }
off_later template n c op s h (Moved node) finds left so = absurd so.0
off_later template n c op s h Far finds left so = record { left = left; cause = (finds, so.1) }

-- the node of a path at which the search ends is no branch
module _ {N : Type 0} (sort : Sort) (shows : N → Body) (c p : ℕ) (h : List Event) (x : Path N) (path : IsOnPath sort shows c p h x) (facts : Tree (graph_after h) (frame_after (blank_of sort) h)) (place : p ≤ top) where
  held_in : (o : Option Span) → (frame_after (blank_of sort) h x.node.node).range ≡ o → (first_of o ≤ p) × (p ≤ last_of o)
  held_in None e = (omega arith, omega (arith, place))
  held_in (Some r) e = (facts.range x.node.node r (record_of (shows x.node.body), record_is sort shows h x.node path.live path.matches) e).forth p path.inside

  ranged : (first_of (shows x.node.body).range ≤ p) × (p ≤ last_of (shows x.node.body).range)
  ranged = held_in (shows x.node.body).range (ap (λ (f : Frame). f.range) (shown sort shows h x.node path.live path.matches).1)

  pub path_leaf : InOrder (content_of (shows x.node.body)) → next_at (shows x.node.body) p ≡ Here → is_branch (shows x.node.body) ≡ false
  path_leaf order here = ends_at_no_branch (shows x.node.body) p order ranged.0 ranged.1 here

-- where a search is at the start of a turn
module _ {N D : Type 0} (sort : Sort) (shows : N → Body) (Grow : Type 0) (Fit : Pass N D → Type 0) (nodes me place : ℕ) (s : List Event) where
  abbrev pub TurnAt : Pass N D → Path N → ℕ → Bool → Type 0
  TurnAt p x d r =
      Fit p
      × (p.caller ≡ me)
      × IsOnPath sort shows p.caller place (seen_of p) x
      × Stretches p.caller s (seen_of p)
      × (IsTrue r → NoneFree sort.layout nodes p.caller place s (seen_of p))
      × ((start : List Event) → TookSince p.caller start s 0 1 → IsDownPath nodes p.caller start (seen_of p) (suc d) 2 d x)
      × (d < nodes)
      × IsEasedBut sort.layout shows Grow r x
      × DoesOnly (MayFill sort place) p.caller s (seen_of p)
