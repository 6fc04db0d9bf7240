use Rattle.std.proofs.Common.{◌≡◌, ◌≤◌, ◌≢◌, ℕ, ◌<◌, List, [], ◌∷◌, inl, inr, sym, refl, ap, ◌∙◌, subst, length, arith}
use Rattle.std.specs.Prelude.{Some}
use Rattle.ks_history.specs.declared.Event.TheVariants.{Give}
use Rattle.ks_history.specs.Trace.{◌⊑◌, graph_after}
use Rattle.ks_history.specs.Own.{hand, drop_one}
use Rattle.ks_history.specs.Frames.{frame_after}
use Rattle.ks_history.specs.Passes.{Has, GrowsWith}
use Rattle.ks_keysets.specs.Keyset.{IsLive as IsLiveIn}
use Rattle.ks_history.specs.Laws.Begins.{begins_both, good_now, with_begins}
use Rattle.ks_history.specs.Laws.Alone.{alone_first, alone_then}
use Rattle.ks_flow.specs.Discipline.{BeginsLink, LinkStep}
use Rattle.ks_node.specs.Body.{Body, all_places, last_of}
use Rattle.ks_node.specs.Asks.{Suits}
use Rattle.ks_bodies.specs.Links.{IsLinked, StandsLinked, grow_right}
use Rattle.ks_arena.specs.declared.held.Held.{Held as Hand}
use Rattle.ks_arena.specs.Sound.{sort_of, blank_of}
use Rattle.ks_arena.specs.Clauses.{hand_of, seen_of}
use Rattle.ks_shape.specs.InHand.{IsLive, BecomesLive}
use Rattle.ks_shape.specs.Laws.Single.{is_near}
use Rattle.ks_node.specs.Room.{is_full}
use Rattle.ks_shape.specs.Makes.{MakesNone}
use Rattle.ks_shape.specs.Laws.Makes.{makes_both, makes_with}
use Rattle.ks_link.specs.Leads.{IsLedAfter}
use Rattle.ks_link.specs.Parts.{reach_of}
use Rattle.ks_link.proofs.Narrowing.{left_less, right_less}
use Rattle.ks_link.proofs.Leading.{shape_live}
use Rattle.ks_link.specs.Descent.{IsOnWay}
use Rattle.ks_history.specs.Done.{link_move}
use Rattle.ks_history.specs.Stretch.{Stretch}
use Rattle.ks_history.specs.Laws.Stretch.{stretch_begins, stretch_both, stretch_give, stretch_shape}
use Rattle.ks_link.proofs.Parting.{live_in, ends_left, ends_right, drop_third, suits_all, stands_now}
use Rattle.ks_shape.specs.Does.{MaySearch}
use Rattle.ks_shape.specs.Laws.Does.{does_on, fills_search, searches_give}
use Rattle.ks_link.proofs.parts.grow.Given.{Over}
use Rattle.ks_link.proofs.parts.grow.Goals as goal
use Rattle.ks_link.proofs.parts.grow.Goals.{After-node_law, After-give}

is_linked : (g : Over) (c : After-node_law g) → IsLinked (g.N.Node.body c.args.root.body)
is_linked g c = record {
  sound = c.node_law.ensures.sound;
  ranged = c.node_law.ensures.has_range ∙ c.linked_law.ensures.is_ranged;
  framed = c.node_law.ensures.framed;
  link_where = c.linked_law.ensures.link_where c.args.root.body;
}

stands : (g : Over) (c : After-node_law g) → StandsLinked (graph_after (seen_of c.args.pass.now)) (frame_after (blank_of (sort_of g.N.Node.layout g.N.Node.ranged)) (seen_of c.args.pass.now)) 0 (g.N.Node.body c.args.root.body)
stands g c = let sort = sort_of g.N.Node.layout g.N.Node.ranged in let h = seen_of c.args.pass.now in
    subst (λ (i : ℕ). StandsLinked (graph_after h) (frame_after (blank_of sort) h) i (g.N.Node.body c.args.root.body)) c.requires.root (stands_now sort g.N.Node.body h c.args.root c.requires.node.live c.requires.node.matches (is_linked g c))

suits : (g : Over) (c : After-node_law g) → Suits (g.N.Node.body c.args.root.body) all_places
suits g c = let sort = sort_of g.N.Node.layout g.N.Node.ranged in let n : ℕ = c.args.arena.now.table.shared.table_id.slots in let h = seen_of c.args.pass.now in let b : Body = g.N.Node.body c.args.root.body in
    let facts = c.sound_law.ensures.facts sort n h c.requires.pass.sound in
    suits_all b (c.link_asks_law.ensures.root (graph_after h) (frame_after (blank_of sort) h) b facts (stands g c))
    (c.link_asks_law.ensures.suits (graph_after h) (frame_after (blank_of sort) h) 0 b (good_now (c.sound_law.ensures.good sort n h c.requires.pass.sound)) facts (stands g c))

pub grow_right-requires-clause-cut : goal.grow_right-requires-clause-cut
grow_right-requires-clause-cut g c = let at = (goal.at.grow_right-requires-clause-cut g c).After-node_law in
    (c.cut-cut.ensures.good all_places (suits g at) (λ r e. let same : Some all_places ≡ Some r = e in cc)).splits

pub grow_right-requires-clause-grows : goal.grow_right-requires-clause-grows
grow_right-requires-clause-grows g c = let at = (goal.at.grow_right-requires-clause-grows g c).After-node_law in
    (c.requires.grows, c.cut-cut.ensures.grows all_places (suits g at) (λ r e. let same : Some all_places ≡ Some r = e in cc) c.requires.grows (λ none. refl))

pub grow_right-requires-clause-level : goal.grow_right-requires-clause-level
grow_right-requires-clause-level g c = let at = (goal.at.grow_right-requires-clause-level g c).After-node_law in let sort = sort_of g.N.Node.layout g.N.Node.ranged in let n : ℕ = c.args.arena.now.table.shared.table_id.slots in let h = seen_of c.args.pass.now in let b : Body = g.N.Node.body c.args.root.body in
    let few : n < 4294967296 = omega (arith, c.nodes-nodes.type_inv, c.nodes-nodes.ensures) in
    c.link_asks_law.ensures.level (graph_after h) (frame_after (blank_of sort) h) b 4294967295 (good_now (c.sound_law.ensures.good sort n h c.requires.pass.sound)) (c.sound_law.ensures.facts sort n h c.requires.pass.sound) (stands g at)
    (λ i live. let near : i < n = is_near sort BeginsLink LinkStep n h i (omega arith) c.requires.pass.sound live in omega (arith, near, few))

module _ (g : Over) (c : After-give g) where
  -- the hand once the root was released
  hand_is : hand_of c.give.new.pass ≡ c.args.right.node ∷ c.args.left.node ∷ []
  hand_is = let root : ℕ = c.args.root.node in
      c.give.ensures.hand ∙ ap (λ (i : ℕ). drop_one i (hand_of c.grow_right.new.pass)) c.grow_right.ensures.node.node ∙ ap (drop_one root) (c.grow_right.ensures.shaped.hand ∙ c.requires.hand.0)
      ∙ drop_third root c.args.right.node c.args.left.node c.requires.hand.2 c.requires.hand.1

  stays : (x y : Hand g.row.N.Denot) (b : Body) → BecomesLive (sort_of g.N.Node.layout g.N.Node.ranged) g.N.Node.body b (seen_of c.grow_right.new.pass) x y → x.node ≢ c.args.root.node → Has (c.args.right.node ∷ c.args.left.node ∷ c.args.root.node ∷ []) x.node → Has (c.args.right.node ∷ c.args.left.node ∷ []) x.node
      → IsLive (sort_of g.N.Node.layout g.N.Node.ranged) g.N.Node.body (hand_of c.give.new.pass) (seen_of c.give.new.pass) y
  stays x y b is other has has' = record {
    has = subst (λ (z : ℕ). Has (hand_of c.give.new.pass) z) (sym is.node) (subst (λ (z : List ℕ). Has z x.node) (sym hand_is) has');
    live = is.live;
    matches = c.give.ensures.rest.still y (λ e. other (sym is.node ∙ e ∙ c.grow_right.ensures.node.node)) (subst (λ (z : ℕ). Has (hand_of c.grow_right.new.pass) z) (sym is.node) (subst (λ (z : List ℕ). Has z x.node) (sym (c.grow_right.ensures.shaped.hand ∙ c.requires.hand.0)) has)) is.matches;
  }

pub keep_half-half-requires-clause-left : goal.keep_half-half-requires-clause-left
keep_half-half-requires-clause-left g c = let at = (goal.at.keep_half-half-requires-clause-left g c).After-give in
    stays g at c.args.left c.grow_right.new.left _ c.grow_right.ensures.left c.requires.hand.1 (inr (inl refl)) (inr (inl refl))

pub keep_half-half-requires-clause-right : goal.keep_half-half-requires-clause-right
keep_half-half-requires-clause-right g c = let at = (goal.at.keep_half-half-requires-clause-right g c).After-give in
    stays g at c.args.right c.grow_right.new.right _ c.grow_right.ensures.right c.requires.hand.2 (inl refl) (inl refl)

pub keep_half-half-requires-clause-hand : goal.keep_half-half-requires-clause-hand
keep_half-half-requires-clause-hand g c = let at = (goal.at.keep_half-half-requires-clause-hand g c).After-give in let left = c.grow_right.ensures.left.node in let right = c.grow_right.ensures.right.node in
    (hand_is g at ∙ ap (λ (i : ℕ). i ∷ c.args.left.node ∷ []) (sym right) ∙ ap (λ (i : ℕ). c.grow_right.new.right.node ∷ i ∷ []) (sym left), (λ e. c.requires.hand.3 (sym right ∙ e ∙ left)))

pub returns-clause-parted : goal.returns-clause-parted
returns-clause-parted g c = let sort = sort_of g.N.Node.layout g.N.Node.ranged in let shows = g.N.Node.body in let l = seen_of c.keep_half-half.new.pass in let b : Body = shows c.args.root.body in let e = c.keep_half-half.ensures in
    let left = c.grow_right.ensures.left in let right = c.grow_right.ensures.right in let half : Hand g.row.N.Denot = c.keep_half-half.result in
    let way = subst (λ (z : ℕ). IsOnWay sort shows z c.args.place l half) (c.give.ensures.caller ∙ c.grow_right.ensures.caller) e.way in
    let level : (shows half.body).level ≡ b.level = elim e.half [ inl is ↦ ap (λ (x : Hand g.row.N.Denot). (shows x.body).level) is.0 ∙ ap (λ (z : Body). z.level) left.body | inr is ↦ ap (λ (x : Hand g.row.N.Denot). (shows x.body).level) is ∙ ap (λ (z : Body). z.level) right.body ] in
    let ends : c.args.place ≤ last_of b.range → c.args.place ≤ last_of (shows half.body).range = λ le. elim e.half [
      | inl is ↦ subst (λ (x : Hand g.row.N.Denot). c.args.place ≤ last_of (shows x.body).range) (sym is.0) (subst (λ (z : Body). c.args.place ≤ last_of z.range) (sym left.body) (ends_left b.range c.args.place c.cut-cut.result le is.1))
      | inr is ↦ subst (λ (x : Hand g.row.N.Denot). c.args.place ≤ last_of (shows x.body).range) (sym is) (subst (λ (z : Body). c.args.place ≤ last_of z.range) (sym right.body) (ends_right b.range c.args.place c.cut-cut.result le))
    ] in
    (way, level, (λ w is. absurd (let q : ⊥ = cc in q)), ends)

pub returns-clause-stretch : goal.returns-clause-stretch
returns-clause-stretch g c = let me : ℕ = c.args.pass.now.caller in let h = seen_of c.args.pass.now in let k = seen_of c.grow_right.new.pass in let l = seen_of c.give.new.pass in let m = seen_of c.keep_half-half.new.pass in
    let few = ap length c.requires.hand.0 in let caller = c.grow_right.ensures.caller in
    let same = subst (λ (z : ℕ). hand z k ≡ hand_of c.args.pass.now) caller c.grow_right.ensures.shaped.hand in
    let gave = subst (λ (z : ℕ). GrowsWith z (Give z c.grow_right.new.node.node) k l) caller c.give.ensures.gave in
    let kept = subst (λ (z : ℕ). Stretch link_move z l m) (c.give.ensures.caller ∙ caller) c.keep_half-half.ensures.stretch in
    stretch_both link_move me h k m (stretch_shape link_move me h k (grow_right g.N.Node.branch_kind c.args.root.node c.args.left.node c.args.right.node c.cut-cut.result (g.N.Node.body c.args.root.body)) (omega (arith, few)) (omega (arith, few, ap length same)) c.grow_right.ensures.shaped.adds)
    (stretch_both link_move me k l m (stretch_give link_move me k l c.grow_right.new.node.node (omega (arith, few, ap length same)) gave) kept)

pub returns-clause-room : goal.returns-clause-room
returns-clause-room g c = λ promise. let halves = c.cut-cut.ensures.halves promise in let shows = g.N.Node.body in let layout = g.N.Node.layout in elim c.keep_half-half.ensures.half [
  | inl is ↦ ap (λ (x : Hand g.row.N.Denot). is_full layout (shows x.body)) is.0 ∙ ap (is_full layout) c.grow_right.ensures.left.body ∙ halves.0
  | inr is ↦ ap (λ (x : Hand g.row.N.Denot). is_full layout (shows x.body)) is ∙ ap (is_full layout) c.grow_right.ensures.right.body ∙ halves.1
]

pub returns-clause-led : goal.returns-clause-led
returns-clause-led g c = λ alone i live. let me : ℕ = c.args.pass.now.caller in let sort = sort_of g.N.Node.layout g.N.Node.ranged in let n : ℕ = c.args.arena.now.table.shared.table_id.slots in let h = seen_of c.args.pass.now in let k = seen_of c.grow_right.new.pass in let l = seen_of c.give.new.pass in let m = seen_of c.keep_half-half.new.pass in let e = c.grow_right.ensures in
    let gave = subst (λ (z : ℕ). GrowsWith z (Give z c.grow_right.new.node.node) k l) e.caller c.give.ensures.gave in
    let kept = subst (λ (z : ℕ). MakesNone z l m) (c.give.ensures.caller ∙ e.caller) c.keep_half-half.ensures.makes in
    let stretch = subst (λ (z : ℕ). Stretch link_move z l m) (c.give.ensures.caller ∙ e.caller) c.keep_half-half.ensures.stretch in
    let till : h ⊑ k = with_begins me _ h k e.shaped.adds in let then : k ⊑ l = with_begins me _ k l gave in let on : l ⊑ m = stretch_begins link_move me l m stretch in let after = begins_both k l m then on in
    let before = makes_both me k l m then on (makes_with me _ k l tt gave) kept (alone_then me h k m till after alone) i live in
    let lasts = c.sound_law.ensures.lasts sort n k m after c.keep_half-half.ensures.pass.sound in
    elim (shape_live me (grow_right g.N.Node.branch_kind c.args.root.node c.args.left.node c.args.right.node c.cut-cut.result (g.N.Node.body c.args.root.body)) h k e.shaped.adds (alone_first me h k m till after alone) i before) [
      | inl named ↦ elim named [
        | inl node ↦ inl (subst (IsLiveIn (graph_after h)) node (live_in sort g.N.Node.body h c.args.root c.requires.node.live c.requires.node.matches))
        | inr rest ↦ elim rest [
          | inl left ↦ inr (inl (lasts.led i (subst (IsLedAfter sort k) left e.led.0)))
          | inr last ↦ elim last [ inl right ↦ inr (inl (lasts.led i (subst (IsLedAfter sort k) right e.led.1))) | inr none ↦ absurd none ]
        ]
      ]
      | inr was ↦ inl was
    ]

-- both halves reach less far
pub returns-clause-narrower : goal.returns-clause-narrower
returns-clause-narrower g c = let at = (goal.at.returns-clause-narrower g c).After-node_law in let shows = g.N.Node.body in let b : Body = shows c.args.root.body in let cut : ℕ = c.cut-cut.result in
    let splits = (c.cut-cut.ensures.good all_places (suits g at) (λ r e. let same : Some all_places ≡ Some r = e in cc)).splits in
    elim c.keep_half-half.ensures.half [
      | inl is ↦ subst (λ (x : Hand g.row.N.Denot). reach_of (shows x.body) < reach_of b) (sym is.0) (subst (λ (z : Body). reach_of z < reach_of b) (sym c.grow_right.ensures.left.body) (left_less b.range b.low cut (is_linked g at).ranged splits.0.0 splits.0.1))
      | inr is ↦ subst (λ (x : Hand g.row.N.Denot). reach_of (shows x.body) < reach_of b) (sym is) (subst (λ (z : Body). reach_of z < reach_of b) (sym c.grow_right.ensures.right.body) (right_less b.range b.low cut (is_linked g at).ranged splits.0.0 splits.0.1))
    ]

-- the kinds of its events

pub returns-clause-fills : goal.returns-clause-fills
returns-clause-fills g c = λ at must. let me : ℕ = c.args.pass.now.caller in let h = seen_of c.args.pass.now in let k = seen_of c.grow_right.new.pass in let l = seen_of c.give.new.pass in let m = seen_of c.keep_half-half.new.pass in let own : ℕ = c.grow_right.new.pass.caller in
    fills_search (sort_of g.N.Node.layout g.N.Node.ranged) at me own h k m c.grow_right.ensures.caller (c.grow_right.ensures.fills at must)
    (does_on MaySearch own c.give.new.pass.caller k l m c.give.ensures.caller (searches_give own c.grow_right.new.node.node k l c.give.ensures.gave) c.keep_half-half.ensures.leaves)
