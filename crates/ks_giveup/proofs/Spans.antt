-- The places of a part of a scan, and where it ends: the range of a node is its inset, and only branches have edges.
use Rattle.std.proofs.Common.{◌≡◌, ◌≤◌, ◌<◌, ◌⊎◌, ℕ, suc, true, false, List, [], ◌∷◌, ◌++◌, length, refl, sym, ap, ◌∙◌, append_assoc, inl, inr, arith}
use Rattle.std.specs.Prelude.{Some, min, nat_le}
use Rattle.std.proofs.lemmas.Bool.{le-leb, cases_lt}
use Rattle.ks_keysets.specs.declared.Frame.{Frame}
use Rattle.ks_keysets.specs.declared.NodeState.{NodeState}
use Rattle.ks_keysets.specs.declared.Span.{Span}
use Rattle.ks_keysets.specs.Keyset.{InKeyset}
use Rattle.ks_keysets.specs.Layout.{Layout}
use Rattle.ks_keysets.specs.Laws.Found.{reached_live}
use Rattle.ks_history.specs.declared.Event.{Event}
use Rattle.ks_history.specs.declared.Op.{Op}
use Rattle.ks_history.specs.declared.Reply.{Reply}
use Rattle.ks_history.specs.Done.{Template, DoneAt}
use Rattle.ks_history.specs.Frames.{frame_after}
use Rattle.ks_history.specs.Trace.{◌⊑◌, graph_after}
use Rattle.ks_flow.specs.Tree.{Tree}
use Rattle.ks_node.specs.declared.start.Next.TheVariants.{Here}
use Rattle.ks_node.specs.declared.start.Start.{Start}
use Rattle.ks_node.specs.Body.{Body, content_of, first_of, is_branch, last_of, next_at}
use Rattle.ks_node.specs.Edges.{record_of}
use Rattle.ks_node.specs.Sound.{Sound as InOrder}
use Rattle.ks_arena.specs.declared.held.Held.{Held as Hand}
use Rattle.ks_arena.specs.Sound.{Sort, blank_of}
use Rattle.ks_shape.specs.Laws.SearchEnd.{unbranched}
use Rattle.ks_shape.specs.Laws.Single.{shown, record_is}
use Rattle.ks_shape.specs.SearchEnd.{IsEnd}

none_of : (ss : List Start) → length ss ≡ 0 → ss ≡ []
none_of [] e = refl
none_of (s ∷ ss) e = absurd (omega (arith, e))

-- a search for a place of the range ends at a node with no edge
bare_here : (b : Body) (p : ℕ) → length b.starts ≡ 0 → first_of b.range ≤ p → p ≤ last_of b.range → next_at b p ≡ Here
bare_here b p none from to =
    let a : nat_le (first_of b.range) p ≡ true = le-leb _ _ from in
    let c : nat_le p (last_of b.range) ≡ true = le-leb _ _ to in
    let s : b.starts ≡ [] = none_of b.starts none in
    rw (a, c, s) refl

-- where the search for a place has ended, those for the places from there to the end of the range end too
module _ {N : Type 0} (sort : Sort) (shows : N → Body) (c low : ℕ) (h : List Event) (x : Hand N) (at : IsEnd sort shows c low h x) (facts : Tree (graph_after h) (frame_after (blank_of sort) h)) (order : InOrder (content_of (shows x.body))) (bare : is_branch (shows x.body) ≡ false → length (shows x.body).starts ≡ 0) (s : Span) (is : (shows x.body).range ≡ Some s) where
  pub span_ends : (p : ℕ) → low ≤ p → p ≤ s.last → IsEnd sort shows c p h x
  span_ends p from to =
      let framed : (frame_after (blank_of sort) h x.node).range ≡ Some s = ap (λ (f : Frame). f.range) (shown sort shows h x at.live at.matches).1 ∙ is in
      let first : first_of (shows x.body).range ≡ s.low = ap first_of is in
      let end : last_of (shows x.body).range ≡ s.last = ap last_of is in
      let low_in : first_of (shows x.body).range ≤ p = omega (arith, at.within.0, from) in
      let last_in : p ≤ last_of (shows x.body).range = omega (arith, to, end) in
      record {
        alone = at.alone;
        live = at.live;
        matches = at.matches;
        inside = (facts.range x.node s (record_of (shows x.body), record_is sort shows h x at.live at.matches) framed).back p (omega (arith, low_in, first)) to;
        within = (low_in, last_in);
        here = bare_here (shows x.body) p (bare (unbranched sort shows c low h x at order)) low_in last_in;
      }

  -- the range reaches the place
  pub reaches_low : low ≤ s.last
  reaches_low = omega (arith, at.within.1, ap last_of is)

-- past its range nothing is in the keyset of a node
pub past_range : (g : ℕ → NodeState) (f : ℕ → Frame) (n : ℕ) (s : Span) (p : ℕ) → Tree g f → (f n).range ≡ Some s → s.last < p → ¬ InKeyset g n p
past_range g f n s p facts is past = λ in_keyset.
    let upto = ((facts.range n s (reached_live in_keyset.0.1) is).forth p in_keyset.0).1 in
    omega (arith, upto, past)

-- the trace just before the call was decided is a beginning of the trace after it
pub before_it : {layout : Layout} {template : Template} {n c : ℕ} {op : Op} {s0 s1 : List Event} {reply : Reply} {number node : ℕ} {blank frame : Frame} → (at : DoneAt layout template n c op s0 s1 reply number node blank frame) → at.done.before ++ s0 ⊑ s1
before_it {s0} at = let d = at.done in record { rest = d.after ++ d.event ∷ []; is = d.is ∙ sym (append_assoc d.after (d.event ∷ []) (d.before ++ s0)) }

-- the part ends at the scan's last place or at the end of the range
pub lesser : (last reach end : ℕ) (P : Type 0) → end ≡ min last reach → (reach < suc end → P) → (end ≡ last) ⊎ P
lesser last reach end P e past = elim (cases_lt reach last) [ inl less ↦ inr (past (omega (arith, e, less))) | inr whole ↦ inl (omega (arith, e, whole)) ]
