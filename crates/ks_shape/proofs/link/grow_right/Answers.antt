use Rattle.std.proofs.Common.{None, ◌≡◌, ℕ, List, [], ◌∷◌, arith, sym, refl, ap, ◌∙◌, subst, true, false}
use Rattle.ks_keysets.specs.declared.NodeState.{NodeState}
use Rattle.ks_keysets.specs.declared.Frame.{Frame}
use Rattle.ks_history.specs.declared.Event.{Event}
use Rattle.ks_history.specs.Trace.{graph_after}
use Rattle.ks_history.specs.Frames.{frame_after}
use Rattle.ks_history.specs.Passes.{GrowsByOthers}
use Rattle.ks_history.specs.Laws.Begins.{good_now, by_others_none}
use Rattle.ks_node.specs.Body.{Body, last_of}
use Rattle.ks_node.specs.Effect.{split_right, with_link}
use Rattle.ks_flow.specs.Discipline.{BeginsLink, LinkStep}
use Rattle.ks_bodies.specs.Links.{IsLinked, StandsLinked, CanGrowRight, split_linked, grown_higher, grow_right}
use Rattle.ks_arena.specs.Sound.{sort_of, blank_of, Sound}
use Rattle.ks_arena.specs.Clauses.{seen_of, hand_of, change_of}
use Rattle.ks_shape.proofs.Standing.{no_record, no_directory, changed_to}
use Rattle.ks_shape.proofs.Links.{linked, stands_linked, stays_linked, shown_led, shown_level}
use Rattle.ks_shape.proofs.Leaving.{had}
use Rattle.ks_shape.specs.Laws.Does.{does_with}
use Rattle.ks_shape.specs.Does.{MayFill}
use Rattle.ks_arena.specs.declared.held.Held.{Held as Hand}
use Rattle.ks_shape.specs.Does.MakesRoom.{by_linked_growth}
use Rattle.ks_shape.proofs.link.grow_right.Given.{Over}
use Rattle.ks_shape.proofs.link.grow_right.Goals as goal
use Rattle.ks_shape.proofs.link.grow_right.Goals.{After-node_law}

stands : (g : Over) (c : After-node_law g) (h : List Event) → GrowsByOthers c.args.pass.now.caller (seen_of c.args.pass.now) h → Sound (sort_of g.N.Node.layout g.N.Node.ranged) BeginsLink LinkStep c.args.arena.now.table.shared.table_id.slots h
    → StandsLinked (graph_after h) (frame_after (blank_of (sort_of g.N.Node.layout g.N.Node.ranged)) h) 0 (g.N.Node.body c.args.node.now.body)
stands g c h grows so = let sort = sort_of g.N.Node.layout g.N.Node.ranged in let n : ℕ = c.args.arena.now.table.shared.table_id.slots in let me : ℕ = c.args.pass.now.caller in let seen = seen_of c.args.pass.now in let hs : List ℕ = hand_of c.args.pass.now in let r = c.requires in
    let keep = stays_linked sort n me seen h (λ k sound. c.sound_law.ensures.lawful sort n k sound) grows r.pass.sound so in
    let body = linked (g.N.Node.body c.args.node.now.body) c.node_law.ensures.sound (c.node_law.ensures.has_range ∙ c.linked_law.ensures.is_ranged) c.node_law.ensures.framed (c.linked_law.ensures.link_where c.args.node.now.body) in
    subst (λ (i : ℕ). StandsLinked (graph_after h) (frame_after (blank_of sort) h) i (g.N.Node.body c.args.node.now.body)) r.root (stands_linked sort g.N.Node.body hs seen h me c.args.node.now r.node body (keep c.args.node.now.node r.node.has))

can : (g : Over) (c : After-node_law g) (h : List Event) → GrowsByOthers c.args.pass.now.caller (seen_of c.args.pass.now) h → Sound (sort_of g.N.Node.layout g.N.Node.ranged) BeginsLink LinkStep c.args.arena.now.table.shared.table_id.slots h
    → CanGrowRight (graph_after h) (frame_after (blank_of (sort_of g.N.Node.layout g.N.Node.ranged)) h) c.args.left.now.node c.args.right.now.node c.args.cut (g.N.Node.body c.args.node.now.body)
can g c h grows so = let sort = sort_of g.N.Node.layout g.N.Node.ranged in let n : ℕ = c.args.arena.now.table.shared.table_id.slots in let me : ℕ = c.args.pass.now.caller in let seen = seen_of c.args.pass.now in let hs : List ℕ = hand_of c.args.pass.now in let r = c.requires in
    let keep = stays_linked sort n me seen h (λ k sound. c.sound_law.ensures.lawful sort n k sound) grows r.pass.sound so in
    record { stands = stands g c h grows so; fresh_left = no_record sort g.N.Node.body hs seen h me c.args.left.now r.left (keep c.args.left.now.node r.left.has); fresh = no_record sort g.N.Node.body hs seen h me c.args.right.now r.right (keep c.args.right.now.node r.right.has); other = r.apart; splits = r.cut; parts = no_directory g.N.Node.layout (g.N.Node.body c.args.node.now.body) r.full }

pub grow_link-requires-clause-ends : goal.grow_link-requires-clause-ends
grow_link-requires-clause-ends g c = let sort = sort_of g.N.Node.layout g.N.Node.ranged in let n : ℕ = c.args.arena.now.table.shared.table_id.slots in let seen = seen_of c.args.pass.now in let at = (goal.at.grow_link-requires-clause-ends g c).After-node_law in
    ap last_of (c.link_asks_law.ensures.root (graph_after seen) (frame_after (blank_of sort) seen) (g.N.Node.body c.args.node.now.body) (c.sound_law.ensures.facts sort n seen c.requires.pass.sound) (stands g at seen (by_others_none c.args.pass.now.caller seen) c.requires.pass.sound))

pub shape-requires-clause-may : goal.shape-requires-clause-may
shape-requires-clause-may g c κs within = λ h grows sound. let sort = sort_of g.N.Node.layout g.N.Node.ranged in let n : ℕ = c.args.arena.now.table.shared.table_id.slots in let same : c.args.arena.now.nodes ≡ n = omega arith in let so = subst (λ (z : ℕ). Sound sort BeginsLink LinkStep z h) same sound in
    let at = (goal.at.shape-requires-clause-may g c).After-node_law in let good = good_now (c.sound_law.ensures.good sort n h so) in let facts = c.sound_law.ensures.facts sort n h so in let g₁ : ℕ → NodeState = graph_after h in let f₁ : ℕ → Frame = frame_after (blank_of sort) h in
    let b : Body = (g.N.Node.body c.args.node.now.body) in let cut : ℕ = c.args.cut in let i : ℕ = c.args.left.now.node in let j : ℕ = c.args.right.now.node in let kind = g.N.Node.branch_kind in let above = c.grow_link.ensures.branch in let left = c.grow_link.ensures.left in let right = c.grow_link.ensures.right in let ranged = c.linked_law.ensures.is_ranged in let link_where = c.linked_law.ensures.link_where in
    let branch = linked (g.N.Node.body c.grow_link.new.self) c.node_law-2.ensures.sound (c.node_law-2.ensures.has_range ∙ ranged) c.node_law-2.ensures.framed (link_where c.grow_link.new.self) in
    let lower = linked (g.N.Node.body c.grow_link.new.left) c.node_law-3.ensures.sound (c.node_law-3.ensures.has_range ∙ ranged) c.node_law-3.ensures.framed (link_where c.grow_link.new.left) in
    let upper = linked (g.N.Node.body c.grow_link.new.right) c.node_law-4.ensures.sound (c.node_law-4.ensures.has_range ∙ ranged) c.node_law-4.ensures.framed (link_where c.grow_link.new.right) in
    let step = c.link_steps_law.ensures.grow_right g₁ f₁ kind i j cut b good facts (can g at h grows so) (subst IsLinked above branch) (subst IsLinked left lower) (subst IsLinked right upper) in
    let there = subst (λ (m : ℕ). LinkStep g₁ f₁ (grow_right kind m i j cut b)) (sym c.requires.root) step in
    subst (LinkStep g₁ f₁) (λ k. sym (changed_to sort g.N.Node.body (record { node = c.args.node.now.node; body = c.grow_link.new.self; live = c.args.node.now.live }) (grown_higher kind cut i j b) c.requires.node.live above) k ∷ sym (changed_to sort g.N.Node.body (record { node = i; body = c.grow_link.new.left; live = true }) (split_linked cut j b) refl left) k ∷ sym (changed_to sort g.N.Node.body (record { node = j; body = c.grow_link.new.right; live = true }) (with_link None (split_right cut b)) refl right) k ∷ []) there

pub returns-clause-led : goal.returns-clause-led
returns-clause-led g c = let sort = sort_of g.N.Node.layout g.N.Node.ranged in let n : ℕ = c.args.arena.now.table.shared.table_id.slots in let me : ℕ = c.args.pass.now.caller in let seen = seen_of c.args.pass.now in let k = seen_of c.shape.new.pass in let shows = g.N.Node.body in
    let at = (goal.at.returns-clause-led g c).After-node_law in let law = c.sound_law.ensures in let r = c.requires in let b : Body = shows c.args.node.now.body in let cut : ℕ = c.args.cut in let i : ℕ = c.args.left.now.node in let j : ℕ = c.args.right.now.node in let kind = g.N.Node.branch_kind in
    let above = c.grow_link.ensures.branch in let left = c.grow_link.ensures.left in let right = c.grow_link.ensures.right in let ranged = c.linked_law.ensures.is_ranged in let link_where = c.linked_law.ensures.link_where in
    let branch = linked (shows c.grow_link.new.self) c.node_law-2.ensures.sound (c.node_law-2.ensures.has_range ∙ ranged) c.node_law-2.ensures.framed (link_where c.grow_link.new.self) in
    let lower = linked (shows c.grow_link.new.left) c.node_law-3.ensures.sound (c.node_law-3.ensures.has_range ∙ ranged) c.node_law-3.ensures.framed (link_where c.grow_link.new.left) in
    let upper = linked (shows c.grow_link.new.right) c.node_law-4.ensures.sound (c.node_law-4.ensures.has_range ∙ ranged) c.node_law-4.ensures.framed (link_where c.grow_link.new.right) in
    let leads = c.link_leads_law.ensures.grow_right (graph_after seen) (frame_after (blank_of sort) seen) kind i j cut b (good_now (law.good sort n seen r.pass.sound)) (law.facts sort n seen r.pass.sound) (can g at seen (by_others_none me seen) r.pass.sound) (subst IsLinked above branch) (subst IsLinked left lower) (subst IsLinked right upper) in
    let shaped = c.shape.ensures.bodies in
    let root = shaped.0 (λ dead. let clash : true ≡ false = sym r.node.live ∙ dead in cc) in
    let level_left = shown_level sort shows k (record { node = i; body = c.grow_link.new.left; live = true }) (split_linked cut j b) refl left (shaped.1 (λ dead. let clash : true ≡ false = dead in cc)) in
    let level_right = shown_level sort shows k (record { node = j; body = c.grow_link.new.right; live = true }) (with_link None (split_right cut b)) refl right (shaped.2 (λ dead. let clash : true ≡ false = dead in cc)) in (
      shown_led sort shows k (record { node = c.args.node.now.node; body = c.grow_link.new.self; live = c.args.node.now.live }) (grown_higher kind cut i j b) i 0 r.node.live above root leads.0 (omega (arith, level_left)),
      shown_led sort shows k (record { node = c.args.node.now.node; body = c.grow_link.new.self; live = c.args.node.now.live }) (grown_higher kind cut i j b) j cut r.node.live above root leads.1 (omega (arith, level_right)),
    )

pub returns-clause-fills : goal.returns-clause-fills
returns-clause-fills g c = λ place must. let sort = sort_of g.N.Node.layout g.N.Node.ranged in let shows = g.N.Node.body in let n : ℕ = c.args.arena.now.table.shared.table_id.slots in let me : ℕ = c.args.pass.now.caller in let seen = seen_of c.args.pass.now in let k = seen_of c.shape.new.pass in let so = c.shape.ensures.shaped.adds in let r = c.requires in
    let cut : ℕ = c.args.cut in let o : ℕ = c.args.node.now.node in let i : ℕ = c.args.left.now.node in let j : ℕ = c.args.right.now.node in let b : Body = shows c.args.node.now.body in let kind = g.N.Node.branch_kind in
    let x : Hand g.row.N.Denot = record { node = o; body = c.grow_link.new.self; live = c.args.node.now.live } in let y : Hand g.row.N.Denot = record { node = i; body = c.grow_link.new.left; live = true } in let z : Hand g.row.N.Denot = record { node = j; body = c.grow_link.new.right; live = true } in
    let changes : (change_of shows x ∷ change_of shows y ∷ change_of shows z ∷ []) ≡ grow_right kind o i j cut b = λ k. changed_to sort shows x (grown_higher kind cut i j b) r.node.live c.grow_link.ensures.branch k ∷ changed_to sort shows y (split_linked cut j b) refl c.grow_link.ensures.left k ∷ changed_to sort shows z (with_link None (split_right cut b)) refl c.grow_link.ensures.right k ∷ [] in
    let had_as = had sort shows BeginsLink LinkStep n me seen k (λ h sound. c.sound_law.ensures.lawful sort n h sound) _ so r.pass.sound c.shape.ensures.pass.sound in
    does_with (MayFill sort place) me _ seen k so (by_linked_growth kind o i j cut b (had_as c.args.node.now r.node) must changes)
