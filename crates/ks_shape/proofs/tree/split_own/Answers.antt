use Rattle.std.proofs.Common.{◌≡◌, ◌++◌, ◌<◌, ℕ, List, [], ◌∷◌, arith, sym, refl, ap, ◌∙◌, subst, true}
use Rattle.std.specs.Prelude.{All}
use Rattle.ks_keysets.specs.declared.NodeState.{NodeState}
use Rattle.ks_keysets.specs.declared.Frame.{Frame}
use Rattle.ks_keysets.specs.declared.Change.{Change}
use Rattle.ks_keysets.specs.Keyset.{InInset}
use Rattle.ks_flow.specs.Changes.{graph_with}
use Rattle.ks_keysets.specs.declared.Pair.{Pair}
use Rattle.ks_history.specs.declared.Event.{Event}
use Rattle.ks_history.specs.Trace.{graph_after}
use Rattle.ks_history.specs.Frames.{frame_after}
use Rattle.ks_history.specs.Passes.{GrowsByOthers}
use Rattle.ks_history.specs.Laws.Begins.{good_now, by_others_none}
use Rattle.ks_node.specs.Body.{Body}
use Rattle.ks_node.specs.Effect.{split_right, reached, adopted}
use Rattle.ks_flow.specs.Discipline.{BeginsTree, TreeStep}
use Rattle.ks_bodies.specs.Shapes as shapes
use Rattle.ks_bodies.specs.Shapes.{CanPart, split_on}
use Rattle.ks_bodies.specs.Stands.{IsPlain}
use Rattle.ks_arena.specs.Sound.{sort_of, blank_of, Sound}
use Rattle.ks_arena.specs.Clauses.{seen_of, hand_of}
use Rattle.ks_shape.proofs.Standing.{plain, stands, no_record, stays, no_directory, changed_to, changed_two}
use Rattle.ks_shape.proofs.Leaving.{had}
use Rattle.ks_shape.specs.Laws.Does.{does_with}
use Rattle.ks_shape.specs.Does.{MayFill}
use Rattle.ks_shape.specs.Does.MakesRoom.{by_own}
use Rattle.ks_shape.proofs.tree.split_own.Given.{Over}
use Rattle.ks_shape.proofs.tree.split_own.Goals as goal
use Rattle.ks_shape.proofs.tree.split_own.Goals.{After-reach}

part : (g : Over) (c : After-reach g) (h : List Event) → GrowsByOthers c.args.pass.now.caller (seen_of c.args.pass.now) h → Sound (sort_of g.N.Node.layout g.N.Node.ranged) BeginsTree TreeStep c.args.arena.now.table.shared.table_id.slots h
    → CanPart (graph_after h) (frame_after (blank_of (sort_of g.N.Node.layout g.N.Node.ranged)) h) c.args.node.now.node c.args.right.now.node c.args.cut (g.N.Node.body c.args.node.now.body)
part g c h grows so = let sort = sort_of g.N.Node.layout g.N.Node.ranged in let n : ℕ = c.args.arena.now.table.shared.table_id.slots in let me : ℕ = c.args.pass.now.caller in let seen = seen_of c.args.pass.now in let hs : List ℕ = hand_of c.args.pass.now in let r = c.requires in
    let keep = stays sort n me seen h (λ k sound. c.sound_law.ensures.lawful sort n k sound) grows r.pass.sound so in record { stands = stands sort g.N.Node.body hs seen h me c.args.node.now r.node (plain (g.N.Node.body c.args.node.now.body) c.node_law.ensures.sound c.node_law.ensures.framed (c.unlinked_law.ensures.no_link c.args.node.now.body)) (keep c.args.node.now.node r.node.has); fresh = no_record sort g.N.Node.body hs seen h me c.args.right.now r.right (keep c.args.right.now.node r.right.has); inside = (c.sound_law.ensures.beside sort n me c.args.node.now.node seen h grows (keep c.args.node.now.node r.node.has).turn so).forth c.args.cut r.cut.0; splits = r.cut.1; parts = no_directory g.N.Node.layout (g.N.Node.body c.args.node.now.body) r.full }

pub adopt-requires-clause-pairs : goal.adopt-requires-clause-pairs
adopt-requires-clause-pairs g c = let seen = seen_of c.args.pass.now in let sort = sort_of g.N.Node.layout g.N.Node.ranged in let n : ℕ = c.args.arena.now.table.shared.table_id.slots in let g₀ : ℕ → NodeState = graph_after seen in let f₀ : ℕ → Frame = frame_after (blank_of sort) seen in let good = good_now (c.sound_law.ensures.good sort n seen c.requires.pass.sound) in let facts = c.sound_law.ensures.facts sort n seen c.requires.pass.sound in let none = by_others_none c.args.pass.now.caller seen in let at = (goal.at.adopt-requires-clause-pairs g c).After-reach in
    subst (λ (z : Body). All (λ (x : Pair). x.place < c.args.cut) z.pairs) (sym (c.reach.ensures ∙ (λ k. reached (c.split_to.ensures.left k) (c.split_to.ensures.right k)))) (c.tree_asks_law.ensures.own g₀ f₀ c.args.node.now.node c.args.right.now.node c.args.cut (g.N.Node.body c.args.node.now.body) (part g at seen none c.requires.pass.sound)).2

pub shape-requires-clause-may : goal.shape-requires-clause-may
shape-requires-clause-may g c κs within = λ h grows sound. let sort = sort_of g.N.Node.layout g.N.Node.ranged in let n : ℕ = c.args.arena.now.table.shared.table_id.slots in let same : c.args.arena.now.nodes ≡ n = omega arith in let so = subst (λ (z : ℕ). Sound sort BeginsTree TreeStep z h) same sound in
    let at = (goal.at.shape-requires-clause-may g c).After-reach in let good = good_now (c.sound_law.ensures.good sort n h so) in let facts = c.sound_law.ensures.facts sort n h so in let g₁ : ℕ → NodeState = graph_after h in let f₁ : ℕ → Frame = frame_after (blank_of sort) h in let no_link = c.unlinked_law.ensures.no_link in
    let b : Body = (g.N.Node.body c.args.node.now.body) in let cut : ℕ = c.args.cut in let i : ℕ = c.args.right.now.node in
    let left : g.N.Node.body c.adopt.new.self ≡ split_on cut i b = c.adopt.ensures ∙ ap (adopted cut i) (c.reach.ensures ∙ (λ k. reached (c.split_to.ensures.left k) (c.split_to.ensures.right k))) in let right : g.N.Node.body c.split_to.new.right ≡ split_right cut b = c.split_to.ensures.right in
    let step = c.tree_steps_law.ensures.split_own g₁ f₁ c.args.node.now.node i cut b good facts (part g at h grows so) (subst IsPlain left (plain (g.N.Node.body c.adopt.new.self) c.node_law-2.ensures.sound c.node_law-2.ensures.framed (no_link c.adopt.new.self))) (subst IsPlain right (plain (g.N.Node.body c.split_to.new.right) c.node_law-3.ensures.sound c.node_law-3.ensures.framed (no_link c.split_to.new.right))) in
    subst (TreeStep g₁ f₁) (λ k. sym (changed_to sort g.N.Node.body (record { node = c.args.node.now.node; body = c.adopt.new.self; live = c.args.node.now.live }) (split_on cut i b) c.requires.node.live left) k ∷ sym (changed_to sort g.N.Node.body (record { node = c.args.right.now.node; body = c.split_to.new.right; live = true }) (split_right cut b) refl right) k ∷ []) step

pub returns-clause-parts : goal.returns-clause-parts
returns-clause-parts g c = λ p inside. let sort = sort_of g.N.Node.layout g.N.Node.ranged in let n : ℕ = c.args.arena.now.table.shared.table_id.slots in let me : ℕ = c.args.pass.now.caller in let seen = seen_of c.args.pass.now in
    let at = (goal.at.returns-clause-parts g c).After-reach in let shaped = c.shape.ensures.shaped.adds in let h : List Event = shaped.rest ++ seen in let so = (subst (Sound sort BeginsTree TreeStep n) shaped.is c.shape.ensures.pass.sound).0 in let grows : GrowsByOthers me seen h = record { rest = shaped.rest; is = refl; others = shaped.others } in
    let good = good_now (c.sound_law.ensures.good sort n h so) in let facts = c.sound_law.ensures.facts sort n h so in let g₁ : ℕ → NodeState = graph_after h in let f₁ : ℕ → Frame = frame_after (blank_of sort) h in let no_link = c.unlinked_law.ensures.no_link in
    let keep = stays sort n me seen h (λ k sound. c.sound_law.ensures.lawful sort n k sound) grows c.requires.pass.sound so in
    let there : InInset g₁ c.args.node.now.node p = (c.sound_law.ensures.beside sort n me c.args.node.now.node seen h grows (keep c.args.node.now.node c.requires.node.has).turn so).forth p inside in
    let b : Body = (g.N.Node.body c.args.node.now.body) in let cut : ℕ = c.args.cut in let i : ℕ = c.args.right.now.node in
    let left : g.N.Node.body c.adopt.new.self ≡ split_on cut i b = c.adopt.ensures ∙ ap (adopted cut i) (c.reach.ensures ∙ (λ k. reached (c.split_to.ensures.left k) (c.split_to.ensures.right k))) in let right : g.N.Node.body c.split_to.new.right ≡ split_right cut b = c.split_to.ensures.right in
    let changes = changed_two sort g.N.Node.body (record { node = c.args.node.now.node; body = c.adopt.new.self; live = c.args.node.now.live }) (record { node = i; body = c.split_to.new.right; live = true }) (split_on cut i b) (split_right cut b) c.requires.node.live refl left right in
    let same : graph_after (seen_of c.shape.new.pass) ≡ graph_with (shapes.split_own c.args.node.now.node i cut b) g₁ = ap graph_after shaped.is ∙ ap (λ (xs : List Change). graph_with xs g₁) changes in
    let y = c.tree_parts_law.ensures.own g₁ f₁ c.args.node.now.node i cut p b good facts (part g at h grows so) (subst IsPlain left (plain (g.N.Node.body c.adopt.new.self) c.node_law-2.ensures.sound c.node_law-2.ensures.framed (no_link c.adopt.new.self))) (subst IsPlain right (plain (g.N.Node.body c.split_to.new.right) c.node_law-3.ensures.sound c.node_law-3.ensures.framed (no_link c.split_to.new.right))) there in
    (subst (λ (k : ℕ → NodeState). InInset k c.args.node.now.node p) (sym same) y.0, λ le. let z = y.1 le in (z.0, subst (λ (k : ℕ → NodeState). InInset k i p) (sym same) z.1))

pub returns-clause-fills : goal.returns-clause-fills
returns-clause-fills g c = λ place must. let sort = sort_of g.N.Node.layout g.N.Node.ranged in let shows = g.N.Node.body in let n : ℕ = c.args.arena.now.table.shared.table_id.slots in let me : ℕ = c.args.pass.now.caller in let seen = seen_of c.args.pass.now in let k = seen_of c.shape.new.pass in let so = c.shape.ensures.shaped.adds in let r = c.requires in
    let cut : ℕ = c.args.cut in let i : ℕ = c.args.node.now.node in let j : ℕ = c.args.right.now.node in let b : Body = shows c.args.node.now.body in
    let left : shows c.adopt.new.self ≡ split_on cut j b = c.adopt.ensures ∙ ap (adopted cut j) (c.reach.ensures ∙ (λ k. reached (c.split_to.ensures.left k) (c.split_to.ensures.right k))) in
    let changes = changed_two sort shows (record { node = i; body = c.adopt.new.self; live = c.args.node.now.live }) (record { node = j; body = c.split_to.new.right; live = true }) (split_on cut j b) (split_right cut b) r.node.live refl left c.split_to.ensures.right in
    let had_as = had sort shows BeginsTree TreeStep n me seen k (λ h sound. c.sound_law.ensures.lawful sort n h sound) _ so r.pass.sound c.shape.ensures.pass.sound in
    does_with (MayFill sort place) me _ seen k so (by_own i j cut b (had_as c.args.node.now r.node) must changes)
