use Rattle.std.proofs.Common.{◌≡◌, ℕ, List, [], ◌∷◌, arith, sym, refl, ◌∙◌, subst, true}
use Rattle.ks_keysets.specs.declared.NodeState.{NodeState}
use Rattle.ks_keysets.specs.declared.Frame.{Frame}
use Rattle.ks_history.specs.declared.Event.{Event}
use Rattle.ks_history.specs.Trace.{graph_after}
use Rattle.ks_history.specs.Frames.{frame_after}
use Rattle.ks_history.specs.Passes.{GrowsByOthers}
use Rattle.ks_history.specs.Laws.Begins.{good_now}
use Rattle.ks_node.specs.Body.{Body}
use Rattle.ks_node.specs.Effect.{split_right}
use Rattle.ks_flow.specs.Discipline.{BeginsLink, LinkStep}
use Rattle.ks_bodies.specs.Links.{IsLinked, CanSplitRight, split_linked, split_to_right}
use Rattle.ks_arena.specs.Sound.{sort_of, blank_of, Sound}
use Rattle.ks_arena.specs.Clauses.{seen_of, hand_of, change_of}
use Rattle.ks_shape.proofs.Standing.{no_record, no_directory, changed_to}
use Rattle.ks_shape.proofs.Links.{linked, stands_linked, stays_linked}
use Rattle.ks_shape.proofs.Leaving.{had}
use Rattle.ks_shape.specs.Laws.Does.{does_with}
use Rattle.ks_shape.specs.Does.{MayFill}
use Rattle.ks_arena.specs.declared.held.Held.{Held as Hand}
use Rattle.ks_shape.specs.Does.MakesRoom.{by_link}
use Rattle.ks_shape.proofs.link.split_right.Given.{Over}
use Rattle.ks_shape.proofs.link.split_right.Goals as goal
use Rattle.ks_shape.proofs.link.split_right.Goals.{After-node_law}

can : (g : Over) (c : After-node_law g) (h : List Event) → GrowsByOthers c.args.pass.now.caller (seen_of c.args.pass.now) h → Sound (sort_of g.N.Node.layout g.N.Node.ranged) BeginsLink LinkStep c.args.arena.now.table.shared.table_id.slots h
    → CanSplitRight (graph_after h) (frame_after (blank_of (sort_of g.N.Node.layout g.N.Node.ranged)) h) c.args.node.now.node c.args.right.now.node c.args.cut (g.N.Node.body c.args.node.now.body)
can g c h grows so = let sort = sort_of g.N.Node.layout g.N.Node.ranged in let n : ℕ = c.args.arena.now.table.shared.table_id.slots in let me : ℕ = c.args.pass.now.caller in let seen = seen_of c.args.pass.now in let hs : List ℕ = hand_of c.args.pass.now in let r = c.requires in
    let keep = stays_linked sort n me seen h (λ k sound. c.sound_law.ensures.lawful sort n k sound) grows r.pass.sound so in
    let body = linked (g.N.Node.body c.args.node.now.body) c.node_law.ensures.sound (c.node_law.ensures.has_range ∙ c.linked_law.ensures.is_ranged) c.node_law.ensures.framed (c.linked_law.ensures.link_where c.args.node.now.body) in
    record { stands = stands_linked sort g.N.Node.body hs seen h me c.args.node.now r.node body (keep c.args.node.now.node r.node.has); no_root = r.no_root; fresh = no_record sort g.N.Node.body hs seen h me c.args.right.now r.right (keep c.args.right.now.node r.right.has); splits = r.cut; parts = no_directory g.N.Node.layout (g.N.Node.body c.args.node.now.body) r.full }

pub shape-requires-clause-may : goal.shape-requires-clause-may
shape-requires-clause-may g c κs within = λ h grows sound. let sort = sort_of g.N.Node.layout g.N.Node.ranged in let n : ℕ = c.args.arena.now.table.shared.table_id.slots in let same : c.args.arena.now.nodes ≡ n = omega arith in let so = subst (λ (z : ℕ). Sound sort BeginsLink LinkStep z h) same sound in
    let at = (goal.at.shape-requires-clause-may g c).After-node_law in let good = good_now (c.sound_law.ensures.good sort n h so) in let facts = c.sound_law.ensures.facts sort n h so in let g₁ : ℕ → NodeState = graph_after h in let f₁ : ℕ → Frame = frame_after (blank_of sort) h in
    let b : Body = (g.N.Node.body c.args.node.now.body) in let cut : ℕ = c.args.cut in let i : ℕ = c.args.right.now.node in let left = c.split_link.ensures.left in let right = c.split_link.ensures.right in let ranged = c.linked_law.ensures.is_ranged in let link_where = c.linked_law.ensures.link_where in
    let lower = linked (g.N.Node.body c.split_link.new.self) c.node_law-2.ensures.sound (c.node_law-2.ensures.has_range ∙ ranged) c.node_law-2.ensures.framed (link_where c.split_link.new.self) in
    let upper = linked (g.N.Node.body c.split_link.new.right) c.node_law-3.ensures.sound (c.node_law-3.ensures.has_range ∙ ranged) c.node_law-3.ensures.framed (link_where c.split_link.new.right) in
    let step = c.link_steps_law.ensures.split_right g₁ f₁ c.args.node.now.node i cut b good facts (can g at h grows so) (subst IsLinked left lower) (subst IsLinked right upper) in
    subst (LinkStep g₁ f₁) (λ k. sym (changed_to sort g.N.Node.body (record { node = c.args.node.now.node; body = c.split_link.new.self; live = c.args.node.now.live }) (split_linked cut i b) c.requires.node.live left) k ∷ sym (changed_to sort g.N.Node.body (record { node = c.args.right.now.node; body = c.split_link.new.right; live = true }) (split_right cut b) refl right) k ∷ []) step

pub returns-clause-fills : goal.returns-clause-fills
returns-clause-fills g c = λ place must. let sort = sort_of g.N.Node.layout g.N.Node.ranged in let shows = g.N.Node.body in let n : ℕ = c.args.arena.now.table.shared.table_id.slots in let me : ℕ = c.args.pass.now.caller in let seen = seen_of c.args.pass.now in let k = seen_of c.shape.new.pass in let so = c.shape.ensures.shaped.adds in let r = c.requires in
    let cut : ℕ = c.args.cut in let i : ℕ = c.args.node.now.node in let j : ℕ = c.args.right.now.node in let b : Body = shows c.args.node.now.body in
    let x : Hand g.row.N.Denot = record { node = i; body = c.split_link.new.self; live = c.args.node.now.live } in let y : Hand g.row.N.Denot = record { node = j; body = c.split_link.new.right; live = true } in
    let changes : (change_of shows x ∷ change_of shows y ∷ []) ≡ split_to_right i j cut b = λ k. changed_to sort shows x (split_linked cut j b) r.node.live c.split_link.ensures.left k ∷ changed_to sort shows y (split_right cut b) refl c.split_link.ensures.right k ∷ [] in
    let had_as = had sort shows BeginsLink LinkStep n me seen k (λ h sound. c.sound_law.ensures.lawful sort n h sound) _ so r.pass.sound c.shape.ensures.pass.sound in
    does_with (MayFill sort place) me _ seen k so (by_link i j cut b (had_as c.args.node.now r.node) must changes)
