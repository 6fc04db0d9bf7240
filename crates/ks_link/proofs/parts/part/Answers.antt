use Rattle.std.proofs.Common.{◌≡◌, ◌≢◌, ℕ, inl, inr, refl, sym, ap, ◌∙◌, subst, List, [], ◌∷◌, arith}
use Rattle.ks_history.specs.declared.Event.{Event}
use Rattle.std.specs.Prelude.{Option, Some, None, nat_lt}
use Rattle.std.proofs.lemmas.Bool.{le-ltb}
use Rattle.ks_keysets.specs.declared.Span.{Span}
use Rattle.ks_keysets.specs.Record.{top}
use Rattle.ks_history.specs.Trace.{◌⊑◌, held, graph_after, turn_after}
use Rattle.ks_history.specs.Own.{hand}
use Rattle.ks_history.specs.Frames.{frame_after}
use Rattle.ks_history.specs.Passes.{Has}
use Rattle.ks_history.specs.Laws.Stays.{lawful_in_turn}
use Rattle.ks_history.specs.Laws.Hand.{is_hand}
use Rattle.ks_history.specs.Laws.Begins.{good_now}
use Rattle.ks_history.specs.Alone.{ActsAlone}
use Rattle.ks_history.specs.Laws.Alone.{alone_first, alone_then}
use Rattle.ks_history.specs.Due.{HoldsLive, MayGrow}
use Rattle.ks_history.specs.Laws.Dues.{holds_one}
use Rattle.ks_history.specs.Done.{link_move}
use Rattle.ks_history.specs.Stretch.{Stretch}
use Rattle.ks_history.specs.Laws.Stretch.{stretch_begins, stretch_both}
use Rattle.ks_arena.specs.declared.held.Held.{Held as Hand}
use Rattle.ks_arena.specs.Sound.{sort_of, blank_of}
use Rattle.ks_arena.specs.Clauses.{seen_of, hand_of, Matches}
use Rattle.ks_node.specs.Body.{Body, all_places, last_of}
use Rattle.ks_node.specs.Laws.Starts.{differ}
use Rattle.ks_node.specs.Laws.Spans.{length_edges}
use Rattle.ks_bodies.specs.Links.{IsLinked, StandsLinked}
use Rattle.ks_shape.specs.Laws.Claims.{may_grow_at}
use Rattle.ks_shape.specs.Laws.Single.{record_is}
use Rattle.ks_shape.specs.InHand.{IsFree}
use Rattle.ks_link.specs.Parts.{IsAlone}
use Rattle.ks_link.specs.Leads.{LedBut, waits_if}
use Rattle.ks_link.proofs.Leading.{led_then}
use Rattle.ks_link.proofs.Rooms.{none_of}
use Rattle.ks_link.proofs.Parting.{live_in, spare_no_root, stands_now}
use Rattle.ks_shape.specs.Does.{HoldsToSplit, MayFill, MustSplit}
use Rattle.ks_shape.specs.Laws.Does.{does_on, holds_to_split}
use Rattle.ks_link.proofs.parts.part.Given.{Over}
use Rattle.ks_link.proofs.parts.part.Goals as goal
use Rattle.ks_link.proofs.parts.part.Goals.{After-node_law}

-- what is held before is live

live_before : (g : Over) (c : After-node_law g) → HoldsLive (seen_of c.args.pass.now) c.args.pass.now.caller
live_before g c = let sort = sort_of g.N.Node.layout g.N.Node.ranged in let h = seen_of c.args.pass.now in let way = c.requires.way in
    holds_one c.args.pass.now.caller c.args.held.node h way.alone (live_in sort g.N.Node.body h c.args.held way.live way.matches)

held_before : (g : Over) (c : After-node_law g) → turn_after (seen_of c.args.pass.now) c.args.held.node ≡ held c.args.pass.now.caller
held_before g c = let sort = sort_of g.N.Node.layout g.N.Node.ranged in let n : ℕ = c.args.arena.now.table.shared.table_id.slots in let h = seen_of c.args.pass.now in let me : ℕ = c.args.pass.now.caller in
    (is_hand h me (lawful_in_turn h (c.sound_law.ensures.lawful sort n h c.requires.pass.sound))).held c.args.held.node (subst (λ (z : List ℕ). Has z c.args.held.node) (sym c.requires.way.alone) (inl refl))

-- the node is held and is to be split
splits : (g : Over) (c : After-node_law g) (at : ℕ) → MustSplit g.N.Node.layout at (g.N.Node.body c.args.held.body) → HoldsToSplit (sort_of g.N.Node.layout g.N.Node.ranged) at (seen_of c.args.pass.now) c.args.pass.now.caller
splits g c at must = holds_to_split (sort_of g.N.Node.layout g.N.Node.ranged) g.N.Node.body at c.args.pass.now.caller (seen_of c.args.pass.now) c.args.held (held_before g c) c.requires.way.live c.requires.way.matches must

-- the caller still holds the node, and no other
still_alone : (g : Over) (c : After-node_law g) (k : List Event) → hand c.args.pass.now.caller k ≡ hand_of c.args.pass.now → Matches (sort_of g.N.Node.layout g.N.Node.ranged) g.N.Node.body k c.args.held → IsAlone (sort_of g.N.Node.layout g.N.Node.ranged) g.N.Node.body c.args.pass.now.caller k c.args.held
still_alone g c k same matches = record { alone = same ∙ c.requires.way.alone; live = c.requires.way.live; matches = matches }

in_hand : (g : Over) (c : After-node_law g) → Has (hand_of c.args.pass.now) c.args.held.node
in_hand g c = subst (λ (z : List ℕ). Has z c.args.held.node) (sym c.requires.way.alone) (inl refl)

-- the hand with the claimed nodes

one : (g : Over) (c : After-node_law g) (k : List Event) (d right : ℕ) → d ≡ c.args.pass.now.caller → hand c.args.pass.now.caller k ≡ right ∷ hand_of c.args.pass.now → hand d k ≡ right ∷ c.args.held.node ∷ []
one g c k d right same is = subst (λ (z : ℕ). hand z k ≡ right ∷ c.args.held.node ∷ []) (sym same) (is ∙ ap (λ (z : List ℕ). right ∷ z) c.requires.way.alone)

two : (g : Over) (c : After-node_law g) (k : List Event) (d left right : ℕ) → d ≡ c.args.pass.now.caller → hand c.args.pass.now.caller k ≡ right ∷ left ∷ hand_of c.args.pass.now → hand d k ≡ right ∷ left ∷ c.args.held.node ∷ []
two g c k d left right same is = subst (λ (z : ℕ). hand z k ≡ right ∷ left ∷ c.args.held.node ∷ []) (sym same) (is ∙ ap (λ (z : List ℕ). right ∷ left ∷ z) c.requires.way.alone)

-- claims refused

-- a full root may grow
grows : (g : Over) (c : After-node_law g) → c.args.held.node ≡ 0 → MayGrow g.N.Node.layout (graph_after (seen_of c.args.pass.now)) c.args.held.node c.args.place
grows g c root = let sort = sort_of g.N.Node.layout g.N.Node.ranged in let n : ℕ = c.args.arena.now.table.shared.table_id.slots in let shows = g.N.Node.body in let h = seen_of c.args.pass.now in let x = c.args.held in let b : Body = shows x.body in let way = c.requires.way in
    let linked : IsLinked b = record { sound = c.node_law.ensures.sound; ranged = c.node_law.ensures.has_range ∙ c.linked_law.ensures.is_ranged; framed = c.node_law.ensures.framed; link_where = c.linked_law.ensures.link_where x.body } in
    let stands = subst (λ (i : ℕ). StandsLinked (graph_after h) (frame_after (blank_of sort) h) i b) root (stands_now sort shows h x way.live way.matches linked) in
    let whole : b.range ≡ Some all_places = c.link_asks_law.ensures.root (graph_after h) (frame_after (blank_of sort) h) b (c.sound_law.ensures.facts sort n h c.requires.pass.sound) stands in
    let bare : b.link ≡ None = none_of b.link (linked.link_where ∙ ap (λ (o : Option Span). nat_lt (last_of o) top) whole ∙ le-ltb top top (omega arith)) in
    may_grow_at g.N.Node.layout (graph_after h) x.node c.args.place b (record_is sort shows h x way.live way.matches) (λ _. root) (λ t. absurd (differ c.linked_law.ensures.at_root t)) c.requires.full (c.node_law.ensures.grows_as (c.requires.grows root)) (length_edges b linked.sound linked.framed bare)

pub returns-in-None-clause-parted : goal.returns-in-None-clause-parted
returns-in-None-clause-parted g c = let at = (goal.at.returns-in-None-clause-parted g c).After-node_law in let told = rw c.in-None.is at c.claim_two.ensures.claimed in
    (refl, still_alone g at (seen_of c.claim_two.new.pass) told.0 (c.claim_two.ensures.rest.still c.args.held (in_hand g at) c.requires.way.matches), told.1 c.args.held.node c.args.place (live_before g at) (held_before g at) (grows g at c.if-held-eq0.true))

pub returns-in-None-claim_one-clause-parted : goal.returns-in-None-claim_one-clause-parted
returns-in-None-claim_one-clause-parted g c = let at = (goal.at.returns-in-None-claim_one-clause-parted g c).After-node_law in let told = rw c.in-None-claim_one.is at c.claim_one.ensures.claimed in
    (refl, still_alone g at (seen_of c.claim_one.new.pass) told.0 (c.claim_one.ensures.rest.still c.args.held (in_hand g at) c.requires.way.matches), told.1 c.args.place (inl (live_before g at)))

pub returns-in-None-clause-stretch : goal.returns-in-None-clause-stretch
returns-in-None-clause-stretch g c = c.claim_two.ensures.stretch link_move

pub returns-in-None-claim_one-clause-stretch : goal.returns-in-None-claim_one-clause-stretch
returns-in-None-claim_one-clause-stretch g c = c.claim_one.ensures.stretch link_move

pub returns-in-Some-clause-stretch : goal.returns-in-Some-clause-stretch
returns-in-Some-clause-stretch g c = let me : ℕ = c.args.pass.now.caller in let h = seen_of c.args.pass.now in let k = seen_of c.claim_two.new.pass in let l = seen_of c.grow.new.pass in
    stretch_both link_move me h k l (c.claim_two.ensures.stretch link_move) (subst (λ (z : ℕ). Stretch link_move z k l) c.claim_two.ensures.caller c.grow.ensures.stretch)

pub returns-in-Some-claim_one-clause-stretch : goal.returns-in-Some-claim_one-clause-stretch
returns-in-Some-claim_one-clause-stretch g c = let me : ℕ = c.args.pass.now.caller in let h = seen_of c.args.pass.now in let k = seen_of c.claim_one.new.pass in let l = seen_of c.split.new.pass in
    stretch_both link_move me h k l (c.claim_one.ensures.stretch link_move) (subst (λ (z : ℕ). Stretch link_move z k l) c.claim_one.ensures.caller c.split.ensures.stretch)

-- the claimed nodes beside it

pub grow-requires-clause-node : goal.grow-requires-clause-node
grow-requires-clause-node g c = let at = (goal.at.grow-requires-clause-node g c).After-node_law in record {
  has = subst (λ (z : List ℕ). Has z c.args.held.node) (sym (two g at (seen_of c.claim_two.new.pass) c.claim_two.new.pass.caller c.in-Some.left.node c.in-Some.right.node c.claim_two.ensures.caller c.in-Some.ensures.claimed.hands)) (inr (inr (inl refl)));
  live = c.requires.way.live;
  matches = c.claim_two.ensures.rest.still c.args.held (in_hand g at) c.requires.way.matches;
}

pub grow-requires-clause-hand : goal.grow-requires-clause-hand
grow-requires-clause-hand g c = let at = (goal.at.grow-requires-clause-hand g c).After-node_law in let sort = sort_of g.N.Node.layout g.N.Node.ranged in let n : ℕ = c.args.arena.now.table.shared.table_id.slots in let k = seen_of c.claim_two.new.pass in let got = c.in-Some.ensures.claimed in
    let good = good_now (c.sound_law.ensures.good sort n k c.claim_two.ensures.pass.sound) in
    let spare : (x : Hand g.row.N.Denot) → IsFree sort g.N.Node.body (hand c.args.pass.now.caller k) k x → x.node ≢ c.args.held.node = λ x free same. spare_no_root sort g.N.Node.body k x free.free free.matches good (same ∙ c.if-held-eq0.true) in
    (two g at k c.claim_two.new.pass.caller c.in-Some.left.node c.in-Some.right.node c.claim_two.ensures.caller got.hands, spare c.in-Some.left got.left, spare c.in-Some.right got.right, λ same. got.apart (sym same))

pub split-requires-clause-node : goal.split-requires-clause-node
split-requires-clause-node g c = let at = (goal.at.split-requires-clause-node g c).After-node_law in record {
  has = subst (λ (z : List ℕ). Has z c.args.held.node) (sym (one g at (seen_of c.claim_one.new.pass) c.claim_one.new.pass.caller c.in-Some-claim_one.right.node c.claim_one.ensures.caller c.in-Some-claim_one.ensures.claimed.hands)) (inr (inl refl));
  live = c.requires.way.live;
  matches = c.claim_one.ensures.rest.still c.args.held (in_hand g at) c.requires.way.matches;
}

pub split-requires-clause-hand : goal.split-requires-clause-hand
split-requires-clause-hand g c = let at = (goal.at.split-requires-clause-hand g c).After-node_law in let got = c.in-Some-claim_one.ensures.claimed in
    (one g at (seen_of c.claim_one.new.pass) c.claim_one.new.pass.caller c.in-Some-claim_one.right.node c.claim_one.ensures.caller got.hands, λ same. got.fresh (subst (λ (z : ℕ). Has (hand_of c.args.pass.now) z) (sym same) (in_hand g at)))

-- what was made live is led to, or waits

pub returns-in-None-clause-led : goal.returns-in-None-clause-led
returns-in-None-clause-led g c = λ alone i live. inl (c.claim_two.ensures.makes alone i live)

pub returns-in-None-claim_one-clause-led : goal.returns-in-None-claim_one-clause-led
returns-in-None-claim_one-clause-led g c = λ alone i live. inl (c.claim_one.ensures.makes alone i live)

pub returns-in-Some-clause-led : goal.returns-in-Some-clause-led
returns-in-Some-clause-led g c = λ alone. let me : ℕ = c.args.pass.now.caller in let sort = sort_of g.N.Node.layout g.N.Node.ranged in let n : ℕ = c.args.arena.now.table.shared.table_id.slots in let h = seen_of c.args.pass.now in let k = seen_of c.claim_two.new.pass in let l = seen_of c.grow.new.pass in let e = c.claim_two.ensures in
    let till : h ⊑ k = stretch_begins link_move me h k (e.stretch link_move) in let on : k ⊑ l = stretch_begins link_move c.claim_two.new.pass.caller k l c.grow.ensures.stretch in
    led_then sort (waits_if c.grow.result.new) h k l (c.sound_law.ensures.lasts sort n k l on c.grow.ensures.pass.sound) (λ i live. inl (e.makes (alone_first me h k l till on alone) i live))
    (subst (λ (z : ℕ). ActsAlone z k l → LedBut sort (waits_if c.grow.result.new) k l) e.caller c.grow.ensures.led (alone_then me h k l till on alone))

pub returns-in-Some-claim_one-clause-led : goal.returns-in-Some-claim_one-clause-led
returns-in-Some-claim_one-clause-led g c = λ alone. let me : ℕ = c.args.pass.now.caller in let sort = sort_of g.N.Node.layout g.N.Node.ranged in let n : ℕ = c.args.arena.now.table.shared.table_id.slots in let h = seen_of c.args.pass.now in let k = seen_of c.claim_one.new.pass in let l = seen_of c.split.new.pass in let e = c.claim_one.ensures in
    let till : h ⊑ k = stretch_begins link_move me h k (e.stretch link_move) in let on : k ⊑ l = stretch_begins link_move c.claim_one.new.pass.caller k l c.split.ensures.stretch in
    led_then sort (waits_if c.split.result.new) h k l (c.sound_law.ensures.lasts sort n k l on c.split.ensures.pass.sound) (λ i live. inl (e.makes (alone_first me h k l till on alone) i live))
    (subst (λ (z : ℕ). ActsAlone z k l → LedBut sort (waits_if c.split.result.new) k l) e.caller c.split.ensures.led (alone_then me h k l till on alone))

-- the half that is kept reaches less far

pub returns-in-Some-clause-narrower : goal.returns-in-Some-clause-narrower
returns-in-Some-clause-narrower g c = c.grow.ensures.narrower

pub returns-in-Some-claim_one-clause-narrower : goal.returns-in-Some-claim_one-clause-narrower
returns-in-Some-claim_one-clause-narrower g c = c.split.ensures.narrower

-- the kinds of its events

pub returns-in-None-clause-fills : goal.returns-in-None-clause-fills
returns-in-None-clause-fills g c = λ at must. c.claim_two.ensures.fills at (splits g (goal.at.returns-in-None-clause-fills g c).After-node_law at must)

pub returns-in-None-claim_one-clause-fills : goal.returns-in-None-claim_one-clause-fills
returns-in-None-claim_one-clause-fills g c = λ at must. c.claim_one.ensures.fills at (splits g (goal.at.returns-in-None-claim_one-clause-fills g c).After-node_law at must)

pub returns-in-Some-clause-fills : goal.returns-in-Some-clause-fills
returns-in-Some-clause-fills g c = λ at must. does_on (MayFill (sort_of g.N.Node.layout g.N.Node.ranged) at) c.args.pass.now.caller c.claim_two.new.pass.caller (seen_of c.args.pass.now) (seen_of c.claim_two.new.pass) (seen_of c.grow.new.pass) c.claim_two.ensures.caller (c.claim_two.ensures.fills at (splits g (goal.at.returns-in-Some-clause-fills g c).After-node_law at must)) (c.grow.ensures.fills at must)

pub returns-in-Some-claim_one-clause-fills : goal.returns-in-Some-claim_one-clause-fills
returns-in-Some-claim_one-clause-fills g c = λ at must. does_on (MayFill (sort_of g.N.Node.layout g.N.Node.ranged) at) c.args.pass.now.caller c.claim_one.new.pass.caller (seen_of c.args.pass.now) (seen_of c.claim_one.new.pass) (seen_of c.split.new.pass) c.claim_one.ensures.caller (c.claim_one.ensures.fills at (splits g (goal.at.returns-in-Some-claim_one-clause-fills g c).After-node_law at must)) (c.split.ensures.fills at must)
