-- Calls that are decided at a node, and go on.
use Rattle.std.specs.Prelude.{ℕ, ◌≡◌, List, [], ◌∷◌, ◌++◌}
use Rattle.ks_keysets.specs.declared.Frame.{Frame}
use Rattle.ks_keysets.specs.Layout.{Layout}
use Rattle.ks_node.specs.declared.node.Node.{Ghosts as NodeGhosts}
use Rattle.ks_node.below.ks_places.specs.declared.Placing.{Ghosts as PlacingGhosts}
use Rattle.ks_flow.specs.declared.discipline.Discipline.{Ghosts as DisciplineGhosts}
use Rattle.ks_history.specs.declared.Event.{Event}
use Rattle.ks_history.specs.declared.Op.{Op}
use Rattle.ks_history.specs.declared.Reply.{Reply}
use Rattle.ks_history.specs.Done.{Template}
use Rattle.ks_history.specs.Frames.{frame_after}
use Rattle.ks_history.specs.Own.{decided_at}
use Rattle.ks_history.specs.Underway.{Decided, Underway}
use Rattle.ks_node.specs.Body.{frame_of}
use Rattle.ks_arena.specs.declared.arena.Arena.{Arena}
use Rattle.ks_arena.specs.declared.held.Pass.{Pass}
use Rattle.ks_arena.specs.declared.held.Held.{Held as Hand}
use Rattle.ks_arena.specs.Sound.{blank_of, sort_of}
use Rattle.ks_arena.specs.Clauses.{seen_of}

-- the call of c has made its Call, only at this node, which then had this frame; blank is the frame of a blank body
pub record DecidedAt (layout : Layout) (template : Template) (n c : ℕ) (op : Op) (s0 s1 : List Event) (reply : Reply) (number node : ℕ) (blank frame : Frame) : Type 0 where
  pub decided : Decided layout template n c op s0 s1 reply number
  pub at : decided_at decided.event ≡ node ∷ []
  pub framed : frame_after blank (decided.before ++ s0) node ≡ frame

module _ {N D P : Type 0} {n : NodeGhosts N P} {q : PlacingGhosts P} {d : DisciplineGhosts D} where
  -- a call that is under way at p, of any technique and begun at any moment, is decided at p', at the node x, which then had the
  -- frame of its body
  abbrev pub DecidesAt : Arena N D P n q d → Hand N → Op → Pass N D → Pass N D → Reply → ℕ → Type 0
  DecidesAt a x op p p' reply number = (template : Template) (start : List Event) → Underway template p.caller op start (seen_of p) → DecidedAt n.layout template a.nodes p.caller op start (seen_of p') reply number x.node (blank_of (sort_of n.layout n.ranged)) (frame_of (n.body x.body))
