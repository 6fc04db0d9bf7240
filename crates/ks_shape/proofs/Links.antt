-- What a caller that holds nodes knows of a graph with links, at what its pass has seen and whatever others do next.
use Rattle.std.proofs.Common.{◌≡◌, ℕ, suc, Some, List, ap, ◌∙◌, true, arith, inl, inr}
use Rattle.std.specs.Prelude.{is_some, nat_lt}
use Rattle.std.specs.Option.{ForSome}
use Rattle.ks_keysets.specs.Keyset.{live_record}
use Rattle.std.proofs.lemmas.Bool.Decides.{eqb_tells}
use Rattle.ks_keysets.specs.declared.Frame.{Frame}
use Rattle.ks_keysets.specs.declared.NodeState.{NodeState}
use Rattle.ks_node.specs.Edges.{record_of}
use Rattle.ks_flow.specs.Link.{Link, LastsUnderLink, IsLed}
use Rattle.ks_keysets.specs.Record.{LeadsTo, top}
use Rattle.ks_arena.specs.Clauses.{Matches}
use Rattle.ks_flow.specs.Discipline.{BeginsLink, LinkStep}
use Rattle.ks_history.specs.declared.Event.{Event}
use Rattle.ks_history.specs.Own.{hand}
use Rattle.ks_history.specs.Trace.{graph_after}
use Rattle.ks_history.specs.Frames.{frame_after}
use Rattle.ks_history.specs.Lawful.{Lawful}
use Rattle.ks_history.specs.Passes.{Has, GrowsByOthers}
use Rattle.ks_history.specs.Laws.Hand.{is_hand}
use Rattle.ks_history.specs.Laws.Begins.{by_others_keeps}
use Rattle.ks_history.specs.Stays.{StaysHeld}
use Rattle.ks_history.specs.Laws.Stays.{lawful_in_turn}
use Rattle.ks_node.specs.Body.{Body, content_of, last_of}
use Rattle.ks_node.specs.Sound.{Sound as InOrder, Framed}
use Rattle.ks_bodies.specs.Links.{IsLinked, StandsLinked, StandsUnder}
use Rattle.ks_arena.specs.declared.held.Held.{Held as Hand}
use Rattle.ks_arena.specs.Sound.{Sort, blank_of, Sound}
use Rattle.ks_shape.specs.InHand.{IsLive}
use Rattle.ks_shape.proofs.Standing.{live_if}

pub linked : (b : Body) → InOrder (content_of b) → is_some b.range ≡ true → ForSome b.range (λ r. Framed r b) → is_some b.link ≡ nat_lt (last_of b.range) top → IsLinked b
linked b sound ranged framed link_where = record { sound = sound; ranged = ranged; framed = framed; link_where = link_where }

-- a live node that is held is as its body shows
pub stands_linked : {N : Type 0} (sort : Sort) (shows : N → Body) (hs : List ℕ) (seen h : List Event) (c : ℕ) (x : Hand N) → IsLive sort shows hs seen x → IsLinked (shows x.body) → StaysHeld c x.node seen h →
    StandsLinked (graph_after h) (frame_after (blank_of sort) h) x.node (shows x.body)
stands_linked sort shows hs seen h c x is linked so = let t = live_if sort shows x.live (graph_after seen x.node) (frame_after (blank_of sort) seen x.node) x.body is.live is.matches.is in record {
  has = ap live_record (so.state ∙ t.0);
  frame = so.frame (blank_of sort) ∙ t.1;
  linked = linked;
}

-- what a caller holds stays, whatever others do
pub stays_linked : (sort : Sort) (n c : ℕ) (seen h : List Event) → ((h : List Event) → Sound sort BeginsLink LinkStep n h → Lawful h) → GrowsByOthers c seen h → Sound sort BeginsLink LinkStep n seen → Sound sort BeginsLink LinkStep n h →
    (i : ℕ) → Has (hand c seen) i → StaysHeld c i seen h
stays_linked sort n c seen h lawful grows before so i has = by_others_keeps c i seen h grows (lawful_in_turn h (lawful h so)) ((is_hand seen c (lawful_in_turn seen (lawful seen before))).held i has)

-- a node that is one level below a node and begins at the cut still does, whatever others do
pub under_later : (g k : ℕ → NodeState) (f h : ℕ → Frame) (node id cut : ℕ) (b : Body) → Link g f → LastsUnderLink g f k h → StandsLinked g f node b → StandsUnder g f id b.level cut → StandsUnder k h id b.level cut
under_later g k f h node id cut b link lasts stands under = record {
  live = lasts.live id under.live;
  level = omega (arith, under.level, lasts.level id under.live no_root);
  low = lasts.low id under.live ∙ under.low;
}
  where
    no_root : id ≡ 0 → ⊥
    no_root e = elim (eqb_tells node 0) [
      | inl same ↦ omega (arith, ap (λ (z : Frame). z.level) stands.frame, under.level, ap (λ (n : ℕ). (f n).level) e, ap (λ (n : ℕ). (f n).level) same.1)
      | inr other ↦ omega (arith, ap (λ (z : Frame). z.level) stands.frame, under.level, ap (λ (n : ℕ). (f n).level) e, link.highest node (record_of b, stands.has) other.1)
    ]

-- what leads to a node one level below leads to it
module _ {N : Type 0} (sort : Sort) (shows : N → Body) (h : List Event) where
  pub shown_led : (x : Hand N) (b : Body) (i p : ℕ) → x.live ≡ true → shows x.body ≡ b → Matches sort shows h x → LeadsTo (record_of b) p i → b.level ≡ suc (frame_after (blank_of sort) h i).level → IsLed (graph_after h) (frame_after (blank_of sort) h) i
  shown_led x b i p live is matches to up = let t = live_if sort shows x.live (graph_after h x.node) (frame_after (blank_of sort) h x.node) x.body live matches.is in record {
    above = x.node;
    node = record_of b;
    place = p;
    is = ap live_record t.0 ∙ ap (λ (z : Body). Some (record_of z)) is;
    leads = to;
    level = ap (λ (z : Frame). z.level) t.1 ∙ ap (λ (z : Body). z.level) is ∙ up;
  }

  pub shown_level : (x : Hand N) (b : Body) → x.live ≡ true → shows x.body ≡ b → Matches sort shows h x → (frame_after (blank_of sort) h x.node).level ≡ b.level
  shown_level x b live is matches = let t = live_if sort shows x.live (graph_after h x.node) (frame_after (blank_of sort) h x.node) x.body live matches.is in ap (λ (z : Frame). z.level) t.1 ∙ ap (λ (z : Body). z.level) is
