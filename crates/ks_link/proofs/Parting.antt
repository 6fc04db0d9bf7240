-- What holds of a node that is to be split, and of what it was split into.
use Rattle.ks_node.specs.Effect.{ends_at, begins_at}
use Rattle.std.proofs.Common.{◌≡◌, ◌≢◌, ℕ, true, false, List, [], ◌∷◌, sym, refl, ap, ◌∙◌, subst, ◌-◌, ◌<◌, ◌≤◌, arith}
use Rattle.std.specs.Prelude.{Some, None, Option}
use Rattle.ks_keysets.specs.declared.Span.{Span}
use Rattle.ks_keysets.specs.declared.Frame.{Frame}
use Rattle.ks_keysets.specs.declared.NodeState.{NodeState}
use Rattle.ks_keysets.specs.Keyset.{live_record, record_at, IsLive, Good}
use Rattle.ks_history.specs.declared.Event.{Event}
use Rattle.ks_history.specs.Own.{drop_one}
use Rattle.ks_history.specs.Trace.{graph_after}
use Rattle.ks_history.specs.Frames.{frame_after}
use Rattle.ks_history.specs.Laws.Stays.{cond_here, cond_else}
use Rattle.ks_flow.specs.Link.{LastsUnderLink}
use Rattle.ks_node.specs.Body.{Body, all_places, last_of}
use Rattle.ks_node.specs.Asks.{Suits}
use Rattle.ks_node.specs.Edges.{record_of}
use Rattle.ks_bodies.specs.Links.{IsLinked, StandsLinked}
use Rattle.ks_arena.specs.declared.held.Held.{Held as Hand}
use Rattle.ks_arena.specs.Sound.{Sort, blank_of}
use Rattle.ks_arena.specs.Clauses.{Matches, MatchesIf}
use Rattle.ks_shape.specs.Laws.Single.{shown, record_is}
use Rattle.ks_link.specs.declared.parts.Waiting.{Waiting}
use Rattle.ks_link.specs.Parts.{IsSplitOff}

-- a third node is dropped from a hand
pub drop_third : (i r l : ℕ) → r ≢ i → l ≢ i → drop_one i (r ∷ l ∷ i ∷ []) ≡ r ∷ l ∷ []
drop_third i r l other other' =
    cond_else r i (l ∷ i ∷ []) (r ∷ drop_one i (l ∷ i ∷ [])) other
    ∙ ap (λ (z : List ℕ). r ∷ z) (cond_else l i (i ∷ []) (l ∷ drop_one i (i ∷ [])) other' ∙ ap (λ (z : List ℕ). l ∷ z) (cond_here i i [] (i ∷ drop_one i []) refl))

-- the span that suits a body whose range is all places
pub suits_all : (b : Body) → b.range ≡ Some all_places → ((range : Span) × (b.range ≡ Some range) × Suits b range) → Suits b all_places
suits_all b all so = let same : Some so.0 ≡ Some all_places = sym so.1 ∙ all in let is : so.0 ≡ all_places = cc in subst (Suits b) is so.2

-- the place is at the end of the range of a half or below
pub ends_left : (o : Option Span) (place cut : ℕ) → place ≤ last_of o → place < cut → place ≤ last_of (ends_at (cut - 1) o)
ends_left None place cut le lt = le
ends_left (Some s) place cut le lt = omega (arith, lt)

pub ends_right : (o : Option Span) (place cut : ℕ) → place ≤ last_of o → place ≤ last_of (begins_at cut o)
ends_right None place cut le = le
ends_right (Some s) place cut le = le

module _ {N : Type 0} (sort : Sort) (shows : N → Body) where
  pub live_in : (h : List Event) (x : Hand N) → x.live ≡ true → Matches sort shows h x → IsLive (graph_after h) x.node
  live_in h x live matches = (record_of (shows x.body), record_is sort shows h x live matches)

  -- graph and frame have a live node that is held as its body shows it
  pub stands_now : (h : List Event) (x : Hand N) → x.live ≡ true → Matches sort shows h x → IsLinked (shows x.body) → StandsLinked (graph_after h) (frame_after (blank_of sort) h) x.node (shows x.body)
  stands_now h x live matches linked = record { has = record_is sort shows h x live matches; frame = (shown sort shows h x live matches).1; linked = linked }

  blank_if : (live : _) (s : NodeState) (f : Frame) (b : N) → live ≡ false → MatchesIf sort shows live s f b → live_record s ≡ None
  blank_if true s f b e so = absurd (let q : ⊥ = cc in q)
  blank_if false s f b e so = so.0

  -- a node that is not live is not the root
  pub spare_no_root : (h : List Event) (x : Hand N) → x.live ≡ false → Matches sort shows h x → Good (graph_after h) → x.node ≢ 0
  spare_no_root h x spare matches good same =
      let none = blank_if x.live (graph_after h x.node) (frame_after (blank_of sort) h x.node) x.body spare matches.is in
      let root : record_at (graph_after h) 0 ≡ Some good.root.0 = good.root.1 in
      let is : None ≡ Some good.root.0 = sym (subst (λ (i : ℕ). record_at (graph_after h) i ≡ None) same none) ∙ root in
      cc

  -- a live node that is held and not the root counts as split off at its low, on its level
  pub split_off : (h : List Event) (x : Hand N) (cut level : ℕ) → x.live ≡ true → Matches sort shows h x → x.node ≢ 0 → (shows x.body).low ≡ cut → (shows x.body).level ≡ level → IsSplitOff sort h (record { cut = cut; node = x.node; level = level })
  split_off h x cut level live matches no_root low at = record {
    live = live_in h x live matches;
    no_root = no_root;
    low = ap (λ (f : Frame). f.low) (shown sort shows h x live matches).1 ∙ low;
    level = ap (λ (f : Frame). f.level) (shown sort shows h x live matches).1 ∙ at;
  }

-- what was split off stays so
pub split_off_later : (sort : Sort) (h k : List Event) (w : Waiting) → LastsUnderLink (graph_after h) (frame_after (blank_of sort) h) (graph_after k) (frame_after (blank_of sort) k) → IsSplitOff sort h w → IsSplitOff sort k w
split_off_later sort h k w lasts so = record {
  live = lasts.live w.node so.live;
  no_root = so.no_root;
  low = lasts.low w.node so.live ∙ so.low;
  level = lasts.level w.node so.live so.no_root ∙ so.level;
}
