use Rattle.std.proofs.Common.{◌≡◌, ◌<◌, ◌≤◌, ℕ, inl, inr, sym, ap, ◌∙◌, subst, length, arith}
use Rattle.std.specs.Prelude.{Some, None}
use Rattle.ks_history.specs.Trace.{◌⊑◌, graph_after}
use Rattle.ks_history.specs.Own.{hand}
use Rattle.ks_history.specs.Frames.{frame_after}
use Rattle.ks_keysets.specs.Keyset.{IsLive as IsLiveIn}
use Rattle.ks_history.specs.Laws.Begins.{good_now, with_begins}
use Rattle.ks_history.specs.Laws.Alone.{alone_first, alone_then}
use Rattle.ks_node.specs.Body.{Body, last_of}
use Rattle.ks_bodies.specs.Links.{IsLinked, split_to_right}
use Rattle.ks_arena.specs.declared.held.Held.{Held as Hand}
use Rattle.ks_arena.specs.Sound.{sort_of, blank_of}
use Rattle.ks_arena.specs.Clauses.{hand_of, seen_of}
use Rattle.ks_link.specs.declared.parts.Waiting.{Waiting}
use Rattle.ks_node.specs.Room.{is_full}
use Rattle.ks_shape.specs.Makes.{MakesNone}
use Rattle.ks_link.specs.Parts.{reach_of}
use Rattle.ks_link.proofs.Narrowing.{left_less, right_less}
use Rattle.ks_link.proofs.Leading.{shape_live}
use Rattle.ks_link.specs.Descent.{IsOnWay}
use Rattle.ks_link.specs.Parts.{IsSplitOff}
use Rattle.ks_history.specs.Done.{link_move}
use Rattle.ks_history.specs.Stretch.{Stretch}
use Rattle.ks_history.specs.Laws.Stretch.{stretch_both, stretch_shape, stretch_begins}
use Rattle.ks_link.proofs.Parting.{live_in, ends_left, ends_right, stands_now, spare_no_root, split_off, split_off_later}
use Rattle.ks_shape.specs.Laws.Does.{fills_search}
use Rattle.ks_link.proofs.parts.split.Given.{Over}
use Rattle.ks_link.proofs.parts.split.Goals as goal
use Rattle.ks_link.proofs.parts.split.Goals.{After-node_law}

is_linked : (g : Over) (c : After-node_law g) → IsLinked (g.N.Node.body c.args.held.body)
is_linked g c = record {
  sound = c.node_law.ensures.sound;
  ranged = c.node_law.ensures.has_range ∙ c.linked_law.ensures.is_ranged;
  framed = c.node_law.ensures.framed;
  link_where = c.linked_law.ensures.link_where c.args.held.body;
}

pub split_right-requires-clause-cut : goal.split_right-requires-clause-cut
split_right-requires-clause-cut g c = let at = (goal.at.split_right-requires-clause-cut g c).After-node_law in let sort = sort_of g.N.Node.layout g.N.Node.ranged in let n : ℕ = c.args.arena.now.table.shared.table_id.slots in let h = seen_of c.args.pass.now in
    let b : Body = g.N.Node.body c.args.held.body in
    let suits = c.link_asks_law.ensures.suits (graph_after h) (frame_after (blank_of sort) h) c.args.held.node b (good_now (c.sound_law.ensures.good sort n h c.requires.pass.sound)) (c.sound_law.ensures.facts sort n h c.requires.pass.sound)
    (stands_now sort g.N.Node.body h c.args.held c.requires.node.live c.requires.node.matches (is_linked g at)) in
    (c.cut-cut.ensures.good suits.0 suits.2 (λ r e. let none : None ≡ Some r = e in cc)).splits

pub returns-clause-parted : goal.returns-clause-parted
returns-clause-parted g c = let sort = sort_of g.N.Node.layout g.N.Node.ranged in let n : ℕ = c.args.arena.now.table.shared.table_id.slots in let me : ℕ = c.args.pass.now.caller in let shows = g.N.Node.body in
    let h = seen_of c.args.pass.now in let k = seen_of c.split_right.new.pass in let l = seen_of c.keep_half-half.new.pass in let b : Body = shows c.args.held.body in let e = c.keep_half-half.ensures in
    let node = c.split_right.ensures.node in let right = c.split_right.ensures.right in let half : Hand g.row.N.Denot = c.keep_half-half.result in let cut : ℕ = c.cut-cut.result in
    let way = subst (λ (z : ℕ). IsOnWay sort shows z c.args.place l half) c.split_right.ensures.caller e.way in
    let level : (shows half.body).level ≡ b.level = elim e.half [ inl is ↦ ap (λ (x : Hand g.row.N.Denot). (shows x.body).level) is.0 ∙ ap (λ (z : Body). z.level) node.body | inr is ↦ ap (λ (x : Hand g.row.N.Denot). (shows x.body).level) is ∙ ap (λ (z : Body). z.level) right.body ] in
    let at : c.level.result ≡ b.level = c.level.ensures ∙ ap (λ (z : Body). z.level) right.body in
    let no_root = spare_no_root sort shows h c.args.right c.requires.right.free c.requires.right.matches (good_now (c.sound_law.ensures.good sort n h c.requires.pass.sound)) in
    let off = split_off sort shows k c.split_right.new.right cut c.level.result right.live right.matches (λ same. no_root (sym right.node ∙ same)) (ap (λ (z : Body). z.low) right.body) (sym c.level.ensures) in
    let stretch = subst (λ (z : ℕ). Stretch link_move z k l) c.split_right.ensures.caller e.stretch in
    let later = split_off_later sort k l (record { cut = cut; node = c.split_right.new.right.node; level = c.level.result }) (c.sound_law.ensures.lasts sort n k l (stretch_begins link_move me k l stretch) e.pass.sound) off in
    let ends : c.args.place ≤ last_of b.range → c.args.place ≤ last_of (shows half.body).range = λ le. elim e.half [
      | inl is ↦ subst (λ (x : Hand g.row.N.Denot). c.args.place ≤ last_of (shows x.body).range) (sym is.0) (subst (λ (z : Body). c.args.place ≤ last_of z.range) (sym node.body) (ends_left b.range c.args.place c.cut-cut.result le is.1))
      | inr is ↦ subst (λ (x : Hand g.row.N.Denot). c.args.place ≤ last_of (shows x.body).range) (sym is) (subst (λ (z : Body). c.args.place ≤ last_of z.range) (sym right.body) (ends_right b.range c.args.place c.cut-cut.result le))
    ] in
    (way, level, (λ w is. let same : record { cut = cut; node = c.split_right.new.right.node; level = c.level.result } ≡ w = cc in (subst (IsSplitOff sort l) same later, ap (λ (z : Waiting). z.level) (sym same) ∙ at)), ends)

pub returns-clause-stretch : goal.returns-clause-stretch
returns-clause-stretch g c = let me : ℕ = c.args.pass.now.caller in let h = seen_of c.args.pass.now in let k = seen_of c.split_right.new.pass in let l = seen_of c.keep_half-half.new.pass in
    let few = ap length c.requires.hand.0 in
    let same = subst (λ (z : ℕ). hand z k ≡ hand_of c.args.pass.now) c.split_right.ensures.caller c.split_right.ensures.shaped.hand in
    stretch_both link_move me h k l (stretch_shape link_move me h k (split_to_right c.args.held.node c.args.right.node c.cut-cut.result (g.N.Node.body c.args.held.body)) (omega (arith, few)) (omega (arith, few, ap length same)) c.split_right.ensures.shaped.adds) (subst (λ (z : ℕ). Stretch link_move z k l) c.split_right.ensures.caller c.keep_half-half.ensures.stretch)

pub returns-clause-room : goal.returns-clause-room
returns-clause-room g c = λ promise. let halves = c.cut-cut.ensures.halves promise in let shows = g.N.Node.body in let layout = g.N.Node.layout in elim c.keep_half-half.ensures.half [
  | inl is ↦ ap (λ (x : Hand g.row.N.Denot). is_full layout (shows x.body)) is.0 ∙ ap (is_full layout) c.split_right.ensures.node.body ∙ halves.0
  | inr is ↦ ap (λ (x : Hand g.row.N.Denot). is_full layout (shows x.body)) is ∙ ap (is_full layout) c.split_right.ensures.right.body ∙ halves.1
]

pub returns-clause-led : goal.returns-clause-led
returns-clause-led g c = λ alone i live. let me : ℕ = c.args.pass.now.caller in let sort = sort_of g.N.Node.layout g.N.Node.ranged in let h = seen_of c.args.pass.now in let k = seen_of c.split_right.new.pass in let l = seen_of c.keep_half-half.new.pass in let e = c.split_right.ensures in
    let stretch = subst (λ (z : ℕ). Stretch link_move z k l) e.caller c.keep_half-half.ensures.stretch in
    let till : h ⊑ k = with_begins me _ h k e.shaped.adds in let on : k ⊑ l = stretch_begins link_move me k l stretch in
    let before = subst (λ (z : ℕ). MakesNone z k l) e.caller c.keep_half-half.ensures.makes (alone_then me h k l till on alone) i live in
    elim (shape_live me (split_to_right c.args.held.node c.args.right.node c.cut-cut.result (g.N.Node.body c.args.held.body)) h k e.shaped.adds (alone_first me h k l till on alone) i before) [
      | inl named ↦ elim named [
        | inl node ↦ inl (subst (IsLiveIn (graph_after h)) node (live_in sort g.N.Node.body h c.args.held c.requires.node.live c.requires.node.matches))
        | inr rest ↦ elim rest [ inl right ↦ inr (inr (inl (e.right.node ∙ right))) | inr none ↦ absurd none ]
      ]
      | inr was ↦ inl was
    ]

-- both halves reach less far
pub returns-clause-narrower : goal.returns-clause-narrower
returns-clause-narrower g c = let at = (goal.at.returns-clause-narrower g c).After-node_law in let sort = sort_of g.N.Node.layout g.N.Node.ranged in let n : ℕ = c.args.arena.now.table.shared.table_id.slots in let h = seen_of c.args.pass.now in let shows = g.N.Node.body in
    let b : Body = shows c.args.held.body in let cut : ℕ = c.cut-cut.result in
    let suits = c.link_asks_law.ensures.suits (graph_after h) (frame_after (blank_of sort) h) c.args.held.node b (good_now (c.sound_law.ensures.good sort n h c.requires.pass.sound)) (c.sound_law.ensures.facts sort n h c.requires.pass.sound)
    (stands_now sort shows h c.args.held c.requires.node.live c.requires.node.matches (is_linked g at)) in
    let splits = (c.cut-cut.ensures.good suits.0 suits.2 (λ r e. let none : None ≡ Some r = e in cc)).splits in
    elim c.keep_half-half.ensures.half [
      | inl is ↦ subst (λ (x : Hand g.row.N.Denot). reach_of (shows x.body) < reach_of b) (sym is.0) (subst (λ (z : Body). reach_of z < reach_of b) (sym c.split_right.ensures.node.body) (left_less b.range b.low cut (is_linked g at).ranged splits.0.0 splits.0.1))
      | inr is ↦ subst (λ (x : Hand g.row.N.Denot). reach_of (shows x.body) < reach_of b) (sym is) (subst (λ (z : Body). reach_of z < reach_of b) (sym c.split_right.ensures.right.body) (right_less b.range b.low cut (is_linked g at).ranged splits.0.0 splits.0.1))
    ]

-- the kinds of its events

pub returns-clause-fills : goal.returns-clause-fills
returns-clause-fills g c = λ at must. fills_search (sort_of g.N.Node.layout g.N.Node.ranged) at c.args.pass.now.caller c.split_right.new.pass.caller (seen_of c.args.pass.now) (seen_of c.split_right.new.pass) (seen_of c.keep_half-half.new.pass) c.split_right.ensures.caller (c.split_right.ensures.fills at must) c.keep_half-half.ensures.leaves
