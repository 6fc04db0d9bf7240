-- Where the search for a second place ends too, under trees: the range of a live node is its inset.
use Rattle.std.proofs.Common.{◌≡◌, ℕ, ◌≤◌, true, List, ap, sym, inl, inr}
use Rattle.std.specs.Prelude.{Option, Some, None, IsTrue, is_some}
use Rattle.ks_keysets.specs.declared.Frame.{Frame}
use Rattle.ks_keysets.specs.declared.Span.{Span}
use Rattle.ks_keysets.specs.Keyset.{InInset}
use Rattle.ks_history.specs.declared.Event.{Event}
use Rattle.ks_history.specs.Frames.{frame_after}
use Rattle.ks_history.specs.Trace.{graph_after}
use Rattle.ks_flow.specs.Tree.{Tree}
use Rattle.ks_node.specs.Body.{Body, first_of, last_of}
use Rattle.ks_node.specs.Edges.{record_of}
use Rattle.ks_arena.specs.declared.held.Held.{Held as Hand}
use Rattle.ks_arena.specs.Sound.{Sort, blank_of}
use Rattle.ks_arena.specs.Clauses.{Matches}
use Rattle.ks_shape.specs.Laws.Single.{shown, record_is}
use Rattle.ks_shape.specs.SearchEnd.{IsEnd}
use Rattle.ks_pair.specs.declared.pair.Pair.{Pair}
use Rattle.ks_pair.specs.declared.pair.Pair.TheVariants.{One, Two}
use Rattle.ks_pair.specs.Both.{Admits, EndsIn, HoldsPair, HoldsTwo, turn}

-- two held nodes in the other order
pub other_first : (c i j : ℕ) (h : List Event) → HoldsTwo c h i j → HoldsTwo c h j i
other_first c i j h (apart, inl is) = ((λ e. apart (sym e)), inr is)
other_first c i j h (apart, inr is) = ((λ e. apart (sym e)), inl is)

module _ {N : Type 0} (sort : Sort) (shows : N → Body) where
  -- under trees a range is the inset
  inside : (p : ℕ) (h : List Event) (x : Hand N) (o : Option Span) → Tree (graph_after h) (frame_after (blank_of sort) h) → x.live ≡ true → Matches sort shows h x → (frame_after (blank_of sort) h x.node).range ≡ o → IsTrue (is_some o) → first_of o ≤ p → p ≤ last_of o → InInset (graph_after h) x.node p
  inside p h x None facts live m e some first last = absurd (let q : ⊥ = cc in q)
  inside p h x (Some r) facts live m e some first last = (facts.range x.node r (record_of (shows x.body), record_is sort shows h x live m) e).back p first last

  -- so the search for a place ends at a live node whose range has it, if no edge leads on
  pub admits : (p : ℕ) (h : List Event) (x : Hand N) → Tree (graph_after h) (frame_after (blank_of sort) h) → x.live ≡ true → Matches sort shows h x → IsTrue (is_some (shows x.body).range) → EndsIn (shows x.body) p → Admits sort shows p h x
  admits p h x facts live m some ends = record {
    live = live;
    matches = m;
    inside = inside p h x (shows x.body).range facts live m (ap (λ (f : Frame). f.range) (shown sort shows h x live m).1) some ends.0 ends.1;
    ends = ends;
  }

  pub admitted : (c p : ℕ) (h : List Event) (x : Hand N) → IsEnd sort shows c p h x → Admits sort shows p h x
  admitted c p h x at = record { live = at.live; matches = at.matches; inside = at.inside; ends = (at.within.0, at.within.1, at.here) }

  -- and at the one node that c holds, whose search for another place has ended there
  pub ends_too : (c p q : ℕ) (h : List Event) (x : Hand N) → Tree (graph_after h) (frame_after (blank_of sort) h) → IsTrue (is_some (shows x.body).range) → IsEnd sort shows c p h x → EndsIn (shows x.body) q → IsEnd sort shows c q h x
  ends_too c p q h x facts some at ends = let so = admits q h x facts at.live at.matches some ends in
      record { alone = at.alone; live = at.live; matches = at.matches; inside = so.inside; within = (ends.0, ends.1); here = ends.2 }

  -- the nodes of two places are those of the same places in the other order
  pub turned_holds : (c first second : ℕ) (h : List Event) (pair : Pair N) → HoldsPair sort shows c first second h pair → HoldsPair sort shows c second first h (turn pair)
  turned_holds c first second h (One x) so = (so.1, so.0)
  turned_holds c first second h (Two x y) so = (other_first c x.node y.node h so.0, so.2, so.1)
