-- What a caller that holds nodes knows of the graph, at what its pass has seen and whatever others do next.
use Rattle.std.proofs.Common.{◌≡◌, ℕ, Bool, List, [], ◌∷◌, ap, ◌∙◌, subst, true, false}
use Rattle.std.specs.Prelude.{None, IsTrue}
use Rattle.std.specs.Option.{ForSome}
use Rattle.ks_keysets.specs.declared.Frame.{Frame}
use Rattle.ks_keysets.specs.declared.NodeState.{NodeState}
use Rattle.ks_keysets.specs.declared.NodeState.TheVariants.{Live}
use Rattle.ks_keysets.specs.declared.Kind.{Kind}
use Rattle.ks_keysets.specs.declared.Kind.TheVariants.{Directory}
use Rattle.ks_keysets.specs.Keyset.{live_record, record_at}
use Rattle.ks_keysets.specs.Layout.{Layout}
use Rattle.ks_keysets.specs.Tight.{capacity}
use Rattle.ks_flow.specs.Discipline.{BeginsTree, TreeStep}
use Rattle.ks_history.specs.declared.Event.{Event}
use Rattle.ks_history.specs.Own.{hand}
use Rattle.ks_history.specs.Trace.{graph_after}
use Rattle.ks_history.specs.Frames.{frame_after}
use Rattle.ks_history.specs.Lawful.{Lawful}
use Rattle.ks_history.specs.Passes.{Has, GrowsByOthers}
use Rattle.ks_history.specs.Laws.Hand.{is_hand}
use Rattle.ks_history.specs.Laws.Begins.{by_others_keeps}
use Rattle.ks_history.specs.Stays.{StaysHeld}
use Rattle.ks_history.specs.Laws.Stays.{lawful_in_turn}
use Rattle.ks_node.specs.Body.{Body, content_of, frame_of, blank_body}
use Rattle.ks_node.specs.Edges.{record_of}
use Rattle.ks_node.specs.Sound.{Sound as InOrder, Framed}
use Rattle.ks_node.specs.Room.{is_full, is_full_at, load}
use Rattle.ks_bodies.specs.Stands.{IsPlain, Stands, live_as}
use Rattle.ks_arena.specs.declared.held.Held.{Held as Hand}
use Rattle.ks_arena.specs.Sound.{Sort, blank_of, Sound}
use Rattle.ks_shape.specs.InHand.{IsLive, IsFree}
use Rattle.ks_arena.specs.Clauses.{MatchesIf, new_state_of, change_of}

pub plain : (b : Body) → InOrder (content_of b) → ForSome b.range (λ r. Framed r b) → b.link ≡ None → IsPlain b
plain b sound framed no_link = record { sound = sound; framed = framed; no_link = no_link }

module _ {N : Type 0} (sort : Sort) (shows : N → Body) where
  pub live_if : (live : _) (s : NodeState) (f : Frame) (b : N) → live ≡ true → MatchesIf sort shows live s f b → (s ≡ Live (record_of (shows b))) × (f ≡ frame_of (shows b))
  live_if true s f b e so = so
  live_if false s f b e so = absurd (let q : ⊥ = cc in q)

  blank_if : (live : _) (s : NodeState) (f : Frame) (b : N) → live ≡ false → MatchesIf sort shows live s f b → (live_record s ≡ None) × (shows b ≡ blank_body sort.ranged)
  blank_if true s f b e so = absurd (let q : ⊥ = cc in q)
  blank_if false s f b e so = so

  -- a live node that is held is as its body shows, and one that is not live has no record
  pub stands : (hs : List ℕ) (seen h : List Event) (c : ℕ) (x : Hand N) → IsLive sort shows hs seen x → IsPlain (shows x.body) → StaysHeld c x.node seen h → Stands (graph_after h) (frame_after (blank_of sort) h) x.node (shows x.body)
  stands hs seen h c x is plain so = let t = live_if x.live (graph_after seen x.node) (frame_after (blank_of sort) seen x.node) x.body is.live is.matches.is in record {
    has = ap live_record (so.state ∙ t.0);
    frame = so.frame (blank_of sort) ∙ t.1;
    plain = plain;
  }

  pub no_record : (hs : List ℕ) (seen h : List Event) (c : ℕ) (x : Hand N) → IsFree sort shows hs seen x → StaysHeld c x.node seen h → record_at (graph_after h) x.node ≡ None
  no_record hs seen h c x is so = let t = blank_if x.live (graph_after seen x.node) (frame_after (blank_of sort) seen x.node) x.body is.free is.matches.is in ap live_record so.state ∙ t.0

  -- the change of a live node that is held is to what its body shows
  pub changed_to : (x : Hand N) (b : Body) → x.live ≡ true → shows x.body ≡ b → change_of shows x ≡ live_as x.node b
  changed_to x b live same = ap (λ (z : Bool). record { node = x.node; state = new_state_of shows z x.body }) live ∙ ap (λ (z : Body). live_as x.node z) same

  pub changed_two : (x y : Hand N) (a b : Body) → x.live ≡ true → y.live ≡ true → shows x.body ≡ a → shows y.body ≡ b → (change_of shows x ∷ change_of shows y ∷ []) ≡ (live_as x.node a ∷ live_as y.node b ∷ [])
  changed_two x y a b lx ly sx sy = λ k. changed_to x a lx sx k ∷ changed_to y b ly sy k ∷ []

  pub changed_three : (x y z : Hand N) (a b d : Body) → x.live ≡ true → y.live ≡ true → z.live ≡ true → shows x.body ≡ a → shows y.body ≡ b → shows z.body ≡ d → (change_of shows x ∷ change_of shows y ∷ change_of shows z ∷ []) ≡ (live_as x.node a ∷ live_as y.node b ∷ live_as z.node d ∷ [])
  changed_three x y z a b d lx ly lz sx sy sz = λ k. changed_to x a lx sx k ∷ changed_to y b ly sy k ∷ changed_to z d lz sz k ∷ []

-- a full body is no directory
pub no_directory : (layout : Layout) (b : Body) → IsTrue (is_full layout b) → b.kind ≡ Directory → ⊥
no_directory layout b full e = let never : IsTrue (is_full_at (capacity layout Directory) (load b)) = subst (λ (k : Kind). IsTrue (is_full_at (capacity layout k) (load b))) e full in cc

-- what remains whatever others do, from the laws of sound traces
module _ (sort : Sort) (n c : ℕ) (seen h : List Event) (lawful : (h : List Event) → Sound sort BeginsTree TreeStep n h → Lawful h) (grows : GrowsByOthers c seen h) (before : Sound sort BeginsTree TreeStep n seen) (so : Sound sort BeginsTree TreeStep n h) where
  pub stays : (i : ℕ) → Has (hand c seen) i → StaysHeld c i seen h
  stays i has = by_others_keeps c i seen h grows (lawful_in_turn h (lawful h so)) ((is_hand seen c (lawful_in_turn seen (lawful seen before))).held i has)
