use Rattle.std.proofs.Common.{◌≡◌, ℕ, List, [], ◌∷◌, arith, true, false, sym, ◌∙◌, subst}
use Rattle.ks_keysets.specs.declared.NodeState.{NodeState}
use Rattle.ks_keysets.specs.declared.Frame.{Frame}
use Rattle.ks_history.specs.declared.Event.{Event}
use Rattle.ks_history.specs.Trace.{graph_after}
use Rattle.ks_history.specs.Frames.{frame_after}
use Rattle.ks_history.specs.Passes.{GrowsByOthers}
use Rattle.ks_history.specs.Laws.Begins.{good_now, by_others_none, by_others_begins, with_begins}
use Rattle.ks_node.specs.Body.{Body}
use Rattle.ks_node.specs.Effect.{adopted}
use Rattle.ks_flow.specs.Discipline.{BeginsLink, LinkStep}
use Rattle.ks_bodies.specs.Links.{IsLinked, StandsLinked, CanAttach, attach as attached}
use Rattle.ks_arena.specs.Sound.{sort_of, blank_of, Sound}
use Rattle.ks_arena.specs.Clauses.{seen_of, hand_of, change_of}
use Rattle.ks_shape.proofs.Standing.{changed_to}
use Rattle.ks_shape.proofs.Links.{linked, stands_linked, stays_linked, under_later, shown_led}
use Rattle.ks_shape.proofs.Leaving.{had}
use Rattle.ks_shape.specs.Laws.Does.{does_with}
use Rattle.ks_shape.specs.Does.{MayFill}
use Rattle.ks_arena.specs.declared.held.Held.{Held as Hand}
use Rattle.ks_shape.specs.Does.MakesRoom.{by_attach}
use Rattle.ks_shape.proofs.link.attach.Given.{Over}
use Rattle.ks_shape.proofs.link.attach.Goals as goal
use Rattle.ks_shape.proofs.link.attach.Goals.{After-node_law}

is_linked : (g : Over) (c : After-node_law g) → IsLinked (g.N.Node.body c.args.node.now.body)
is_linked g c = linked (g.N.Node.body c.args.node.now.body) c.node_law.ensures.sound (c.node_law.ensures.has_range ∙ c.linked_law.ensures.is_ranged) c.node_law.ensures.framed (c.linked_law.ensures.link_where c.args.node.now.body)

stands : (g : Over) (c : After-node_law g) (h : List Event) → GrowsByOthers c.args.pass.now.caller (seen_of c.args.pass.now) h → Sound (sort_of g.N.Node.layout g.N.Node.ranged) BeginsLink LinkStep c.args.arena.now.table.shared.table_id.slots h
    → StandsLinked (graph_after h) (frame_after (blank_of (sort_of g.N.Node.layout g.N.Node.ranged)) h) c.args.node.now.node (g.N.Node.body c.args.node.now.body)
stands g c h grows so = let sort = sort_of g.N.Node.layout g.N.Node.ranged in let n : ℕ = c.args.arena.now.table.shared.table_id.slots in let me : ℕ = c.args.pass.now.caller in let seen = seen_of c.args.pass.now in let hs : List ℕ = hand_of c.args.pass.now in let r = c.requires in
    let keep = stays_linked sort n me seen h (λ k sound. c.sound_law.ensures.lawful sort n k sound) grows r.pass.sound so in
    stands_linked sort g.N.Node.body hs seen h me c.args.node.now r.node (is_linked g c) (keep c.args.node.now.node r.node.has)

can : (g : Over) (c : After-node_law g) (h : List Event) → GrowsByOthers c.args.pass.now.caller (seen_of c.args.pass.now) h → Sound (sort_of g.N.Node.layout g.N.Node.ranged) BeginsLink LinkStep c.args.arena.now.table.shared.table_id.slots h
    → CanAttach (graph_after h) (frame_after (blank_of (sort_of g.N.Node.layout g.N.Node.ranged)) h) c.args.node.now.node c.args.id c.args.cut (g.N.Node.body c.args.node.now.body)
can g c h grows so = let sort = sort_of g.N.Node.layout g.N.Node.ranged in let n : ℕ = c.args.arena.now.table.shared.table_id.slots in let me : ℕ = c.args.pass.now.caller in let seen = seen_of c.args.pass.now in let r = c.requires in let b : Body = g.N.Node.body c.args.node.now.body in
    let under = under_later (graph_after seen) (graph_after h) (frame_after (blank_of sort) seen) (frame_after (blank_of sort) h) c.args.node.now.node c.args.id c.args.cut b (c.sound_law.ensures.facts sort n seen r.pass.sound) (c.sound_law.ensures.lasts sort n seen h (by_others_begins me seen h grows) so) (stands g c seen (by_others_none me seen) r.pass.sound) r.under in
    record { stands = stands g c h grows so; branch = r.branch; cuts = r.cut; under = under }

pub adopt-requires-clause-pairs : goal.adopt-requires-clause-pairs
adopt-requires-clause-pairs g c = let at = (goal.at.adopt-requires-clause-pairs g c).After-node_law in c.link_asks_law.ensures.adopt (g.N.Node.body c.args.node.now.body) c.args.cut (is_linked g at) c.requires.branch

pub shape-requires-clause-may : goal.shape-requires-clause-may
shape-requires-clause-may g c κs within = λ h grows sound. let sort = sort_of g.N.Node.layout g.N.Node.ranged in let n : ℕ = c.args.arena.now.table.shared.table_id.slots in let same : c.args.arena.now.nodes ≡ n = omega arith in let so = subst (λ (z : ℕ). Sound sort BeginsLink LinkStep z h) same sound in
    let at = (goal.at.shape-requires-clause-may g c).After-node_law in let good = good_now (c.sound_law.ensures.good sort n h so) in let facts = c.sound_law.ensures.facts sort n h so in let g₁ : ℕ → NodeState = graph_after h in let f₁ : ℕ → Frame = frame_after (blank_of sort) h in
    let b : Body = (g.N.Node.body c.args.node.now.body) in let cut : ℕ = c.args.cut in let i : ℕ = c.args.id in let is = c.adopt.ensures in
    let after = linked (g.N.Node.body c.adopt.new.self) c.node_law-2.ensures.sound (c.node_law-2.ensures.has_range ∙ c.linked_law.ensures.is_ranged) c.node_law-2.ensures.framed (c.linked_law.ensures.link_where c.adopt.new.self) in
    let step = c.link_steps_law.ensures.attach g₁ f₁ c.args.node.now.node i cut b good facts (can g at h grows so) (subst IsLinked is after) in
    subst (LinkStep g₁ f₁) (λ k. sym (changed_to sort g.N.Node.body (record { node = c.args.node.now.node; body = c.adopt.new.self; live = c.args.node.now.live }) (adopted cut i b) c.requires.node.live is) k ∷ []) step

pub returns-clause-led : goal.returns-clause-led
returns-clause-led g c = let sort = sort_of g.N.Node.layout g.N.Node.ranged in let n : ℕ = c.args.arena.now.table.shared.table_id.slots in let me : ℕ = c.args.pass.now.caller in let seen = seen_of c.args.pass.now in let k = seen_of c.shape.new.pass in
    let at = (goal.at.returns-clause-led g c).After-node_law in let law = c.sound_law.ensures in let r = c.requires in let b : Body = g.N.Node.body c.args.node.now.body in let cut : ℕ = c.args.cut in let i : ℕ = c.args.id in let is = c.adopt.ensures in
    let facts = law.facts sort n seen r.pass.sound in
    let here = stands g at seen (by_others_none me seen) r.pass.sound in
    let after = linked (g.N.Node.body c.adopt.new.self) c.node_law-2.ensures.sound (c.node_law-2.ensures.has_range ∙ c.linked_law.ensures.is_ranged) c.node_law-2.ensures.framed (c.linked_law.ensures.link_where c.adopt.new.self) in
    let leads = c.link_leads_law.ensures.attach (graph_after seen) (frame_after (blank_of sort) seen) c.args.node.now.node i cut b (good_now (law.good sort n seen r.pass.sound)) facts (can g at seen (by_others_none me seen) r.pass.sound) (subst IsLinked is after) in
    let under = under_later (graph_after seen) (graph_after k) (frame_after (blank_of sort) seen) (frame_after (blank_of sort) k) c.args.node.now.node i cut b facts (law.lasts sort n seen k (with_begins me _ seen k c.shape.ensures.shaped.adds) c.shape.ensures.pass.sound) here r.under in
    shown_led sort g.N.Node.body k (record { node = c.args.node.now.node; body = c.adopt.new.self; live = c.args.node.now.live }) (adopted cut i b) i cut r.node.live is (c.shape.ensures.bodies.0 (λ dead. let clash : true ≡ false = sym r.node.live ∙ dead in cc)) leads (sym under.level)

pub returns-clause-fills : goal.returns-clause-fills
returns-clause-fills g c = λ place. let sort = sort_of g.N.Node.layout g.N.Node.ranged in let shows = g.N.Node.body in let n : ℕ = c.args.arena.now.table.shared.table_id.slots in let me : ℕ = c.args.pass.now.caller in let seen = seen_of c.args.pass.now in let k = seen_of c.shape.new.pass in let so = c.shape.ensures.shaped.adds in let r = c.requires in
    let cut : ℕ = c.args.cut in let i : ℕ = c.args.node.now.node in let j : ℕ = c.args.id in let b : Body = shows c.args.node.now.body in
    let x : Hand g.row.N.Denot = record { node = i; body = c.adopt.new.self; live = c.args.node.now.live } in
    let changes : (change_of shows x ∷ []) ≡ attached i j cut b = λ k. changed_to sort shows x (adopted cut j b) r.node.live c.adopt.ensures k ∷ [] in
    let had_as = had sort shows BeginsLink LinkStep n me seen k (λ h sound. c.sound_law.ensures.lawful sort n h sound) _ so r.pass.sound c.shape.ensures.pass.sound in
    does_with (MayFill sort place) me _ seen k so (by_attach i j cut b (had_as c.args.node.now r.node) r.branch changes)
