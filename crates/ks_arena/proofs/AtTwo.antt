-- What the bodies of a call at two nodes are after it.
use Rattle.std.proofs.Common.{◌≡◌, ℕ, List, ◌∷◌, refl, sym, ap, ◌∙◌, true}
use Rattle.std.specs.Prelude.{Option, Some, None}
use denote.Bor.{Bor}
use Rattle.ks_keysets.specs.declared.NodeState.{NodeState}
use Rattle.ks_history.specs.declared.Op.{Op}
use Rattle.ks_history.specs.declared.Reply.{Reply}
use Rattle.ks_history.specs.declared.Event.{Event}
use Rattle.ks_history.specs.declared.Event.TheVariants.{Twin}
use Rattle.ks_history.specs.Trace.{graph_after, state_with, written_at}
use Rattle.ks_history.specs.Frames.{frame_after}
use Rattle.ks_history.specs.Write.{Write, written, taken_out, put_in}
use Rattle.ks_history.specs.Stays.{StaysHeld}
use Rattle.ks_history.specs.Laws.Stays.{cond_here, written_else}
use Rattle.ks_node.specs.Body.{Body, frame_of}
use Rattle.ks_arena.specs.declared.held.Held.{Held as Hand}
use Rattle.ks_arena.specs.Sound.{Sort, blank_of}
use Rattle.ks_arena.specs.Clauses.{Matches}
use Rattle.ks_arena.specs.AtTwo.{second_of, AreWritten, SecondMatches}
use Rattle.ks_arena.proofs.After.{matches_live}

written_here : (w : Write) (j : ℕ) (g : ℕ → NodeState) → written_at w j g j ≡ state_with w (g j)
written_here w j g = cond_here j j (state_with w (g j)) (g j) refl

module _ {N : Type 0} (sort : Sort) (shows : N → Body) (c : ℕ) (op : Op) (reply : Reply) (s h : List Event) where
  abbrev out : Write
  out = taken_out (written op reply)

  abbrev in' : Write
  in' = put_in (written op reply)

  pub first_is : (x : Hand N) (y : Option (Bor (Hand N))) → x.live ≡ true → frame_after (blank_of sort) s x.node ≡ frame_of (shows x.body) → AreWritten sort shows s x y (written op reply) → StaysHeld c x.node s h
      → Matches sort shows (Twin c x.node (second_of x y) op reply ∷ h) x
  first_is x None live frame so stays = record {
    is = matches_live sort shows x.live _ _ x.body live
        (written_here in' x.node (written_at out x.node (graph_after h)) ∙ ap (state_with in') (written_here out x.node (graph_after h) ∙ ap (state_with out) stays.state) ∙ so)
        (stays.frame (blank_of sort) ∙ frame);
  }
  first_is x (Some y) live frame so stays = record {
    is = matches_live sort shows x.live _ _ x.body live
        (written_else in' y.now.node (written_at out x.node (graph_after h)) x.node (λ e. so.0 (sym e)) ∙ written_here out x.node (graph_after h) ∙ ap (state_with out) stays.state ∙ so.2)
        (stays.frame (blank_of sort) ∙ frame);
  }

  pub second_is : (x : Hand N) (y : Option (Bor (Hand N))) → AreWritten sort shows s x y (written op reply) → StaysHeld c (second_of x y) s h → SecondMatches sort shows (Twin c x.node (second_of x y) op reply ∷ h) y
  second_is x None so stays = tt
  second_is x (Some y) so stays = record {
    is = matches_live sort shows y.now.live _ _ y.now.body so.1
        (written_here in' y.now.node (written_at out x.node (graph_after h)) ∙ ap (state_with in') (written_else out x.node (graph_after h) y.now.node so.0 ∙ stays.state) ∙ so.3)
        (stays.frame (blank_of sort) ∙ so.4);
  }
