-- Calls that hold one node at a time, and what is known of a live node that is held.
use Rattle.std.proofs.Common.{◌≡◌, ℕ, ◌<◌, ◌≤◌, Bool, true, false, List, [], ◌∷◌, ◌++◌, length, sym, refl, ap, ◌∙◌, subst, ⊎_elim, arith}
use Rattle.std.specs.Prelude.{Some, None}
use Rattle.std.proofs.lemmas.Bool.{cases_lt}
use Rattle.ks_keysets.specs.declared.Edge.{Edge}
use Rattle.ks_keysets.specs.declared.Frame.{Frame}
use Rattle.ks_keysets.specs.declared.NodeState.{NodeState}
use Rattle.ks_keysets.specs.declared.NodeState.TheVariants.{Live}
use Rattle.ks_keysets.specs.declared.Record.{Record}
use Rattle.ks_keysets.specs.Record.{LeadsTo}
use Rattle.ks_keysets.specs.Keyset.{live_record, record_at, IsLive, Good}
use Rattle.ks_history.specs.declared.Event.{Event}
use Rattle.ks_history.specs.declared.Event.TheVariants.{Take, Give}
use Rattle.ks_history.specs.declared.Op.{Op}
use Rattle.ks_history.specs.declared.Op.TheVariants.{Get, Put, Del, Add, Swap, Part, Move}
use Rattle.ks_history.specs.Own.{hand, drop_one}
use Rattle.ks_history.specs.Trace.{graph_after}
use Rattle.ks_history.specs.Frames.{frame_after}
use Rattle.ks_history.specs.Passes.{GrowsWith}
use Rattle.ks_history.specs.Laws.Stays.{cond_here}
use Rattle.ks_history.specs.Laws.Begins.{by_others_hand, with_others}
use Rattle.ks_history.specs.Done.{Template, coupling, give_up, link_move, MayTake, most_held}
use Rattle.ks_history.specs.Underway.{Underway}
use Rattle.ks_history.specs.Laws.Underway.{underway_with}
use Rattle.ks_node.specs.Body.{Body, frame_of}
use Rattle.ks_node.specs.Edges.{record_of}
use Rattle.ks_arena.specs.declared.held.Held.{Held as Hand}
use Rattle.ks_arena.specs.Sound.{Sort, blank_of, Sound}
use Rattle.ks_arena.specs.Laws.Beyond.{free_beyond}
use Rattle.ks_arena.specs.Clauses.{Matches, MatchesIf, HasTaken}

-- a call may hold a node
pub one_may : (template : Template) (op : Op) → 1 ≤ most_held template op
one_may coupling (Get p) = omega arith
one_may coupling (Put p v) = omega arith
one_may coupling (Del p) = omega arith
one_may coupling (Add p v) = omega arith
one_may coupling (Swap p old new) = omega arith
one_may coupling (Part low last) = omega arith
one_may coupling (Move from to) = omega arith
one_may give_up (Get p) = omega arith
one_may give_up (Put p v) = omega arith
one_may give_up (Del p) = omega arith
one_may give_up (Add p v) = omega arith
one_may give_up (Swap p old new) = omega arith
one_may give_up (Part low last) = omega arith
one_may give_up (Move from to) = omega arith
one_may link_move (Get p) = omega arith
one_may link_move (Put p v) = omega arith
one_may link_move (Del p) = omega arith
one_may link_move (Add p v) = omega arith
one_may link_move (Swap p old new) = omega arith
one_may link_move (Part low last) = omega arith
one_may link_move (Move from to) = omega arith

-- a live node is a node of the arena
pub is_near : (sort : Sort) (begins : Frame → Type 0) (asks : _) (nodes : ℕ) (h : List Event) (i : ℕ) → 0 < nodes → Sound sort begins asks nodes h → IsLive (graph_after h) i → i < nodes
is_near sort begins asks nodes h i some so live = ⊎_elim (λ (x : i < nodes). x) (λ (far : nodes ≤ i). let is : None ≡ Some live.0 = sym (ap live_record (free_beyond sort begins asks nodes some h so i far)) ∙ live.1 in absurd (let q : ⊥ = cc in q)) (cases_lt i nodes)

-- an edge leads to a live node
pub led_live : (g : ℕ → NodeState) (n p m : ℕ) (r : Record) → Good g → record_at g n ≡ Some r → LeadsTo r p m → IsLive g m
led_live g n p m r good is to = subst (IsLive g) (ap (λ (e : Edge). e.node) to.3 ∙ to.4.1) (good.leads n r is to.0 to.1 to.2)

module _ {N : Type 0} (sort : Sort) (shows : N → Body) where
  live_if : (live : Bool) (s : NodeState) (f : Frame) (b : N) → live ≡ true → MatchesIf sort shows live s f b → (s ≡ Live (record_of (shows b))) × (f ≡ frame_of (shows b))
  live_if true s f b e so = so
  live_if false s f b e so = absurd (let q : ⊥ = cc in q)

  -- the node and the frame of a live node that is held
  pub shown : (h : List Event) (x : Hand N) → x.live ≡ true → Matches sort shows h x → (graph_after h x.node ≡ Live (record_of (shows x.body))) × (frame_after (blank_of sort) h x.node ≡ frame_of (shows x.body))
  shown h x live m = live_if x.live (graph_after h x.node) (frame_after (blank_of sort) h x.node) x.body live m.is

  pub record_is : (h : List Event) (x : Hand N) → x.live ≡ true → Matches sort shows h x → record_at (graph_after h) x.node ≡ Some (record_of (shows x.body))
  record_is h x live m = ap live_record (shown h x live m).0

  -- a call that holds nothing takes a node as it may
  pub takes : (template : Template) (c i : ℕ) (op : Op) (s0 h k : List Event) (x : Hand N) → ((g : List Event) → hand c g ≡ [] → MayTake template op g c i) → hand c h ≡ [] → HasTaken sort shows c i h k x → Underway template c op s0 h → Underway template c op s0 k
  takes template c i op s0 h k x may empty took under = underway_with template c op (Take c i) s0 h k tt took.grows
      (λ same. may (took.grows.rest ++ h) (by_others_hand c h (took.grows.rest ++ h) (with_others c (Take c i) h k took.grows) ∙ empty))
      (omega (arith, ap length (took.hand ∙ ap (λ (z : List ℕ). i ∷ z) empty), one_may template op))
      under

-- a call releases the one node that it holds
pub gives : (template : Template) (c i : ℕ) (op : Op) (s0 h k : List Event) → hand c k ≡ [] → GrowsWith c (Give c i) h k → Underway template c op s0 h → Underway template c op s0 k
gives template c i op s0 h k empty gave under = underway_with template c op (Give c i) s0 h k tt gave tt (omega (arith, ap length empty, one_may template op)) under

pub gave_last : (c i : ℕ) (h k : List Event) → hand c h ≡ i ∷ [] → hand c k ≡ drop_one i (hand c h) → hand c k ≡ []
gave_last c i h k alone hands = hands ∙ ap (drop_one i) alone ∙ cond_here i i [] (i ∷ []) refl
