use Rattle.ks_keysets.specs.declared.Change.{Change}
use Rattle.ks_bodies.specs.Shapes as shapes
use Rattle.ks_flow.specs.Changes.{graph_with}
use Rattle.ks_arena.specs.declared.held.Held.{Held as Hand}
use Rattle.ks_shape.specs.Places.{HasPlacesOf}
use Rattle.std.proofs.Common.{◌≡◌, ℕ, List, [], ◌∷◌, ◌++◌, ap, arith, refl, sym, ◌∙◌, subst}
use Rattle.ks_keysets.specs.declared.NodeState.{NodeState}
use Rattle.ks_keysets.specs.declared.NewState.TheVariants.{BecomesFree}
use Rattle.ks_keysets.specs.declared.Frame.{Frame}
use Rattle.ks_history.specs.declared.Event.{Event}
use Rattle.ks_history.specs.Trace.{graph_after}
use Rattle.ks_history.specs.Frames.{frame_after}
use Rattle.ks_history.specs.Passes.{GrowsByOthers}
use Rattle.ks_history.specs.Laws.Begins.{good_now, by_others_none}
use Rattle.ks_node.specs.Body.{Body}
use Rattle.ks_node.specs.Effect.{absorbed}
use Rattle.ks_flow.specs.Discipline.{BeginsTree, TreeStep}
use Rattle.ks_bodies.specs.Shapes.{CanAbsorbOwn}
use Rattle.ks_bodies.specs.Stands.{IsPlain}
use Rattle.ks_arena.specs.Sound.{sort_of, blank_of, Sound}
use Rattle.ks_arena.specs.Clauses.{seen_of, hand_of, change_of}
use Rattle.ks_shape.proofs.Places.{own_places}
use Rattle.ks_shape.proofs.Standing.{plain, stands, stays, changed_to}
use Rattle.ks_shape.proofs.Leaving.{had}
use Rattle.ks_shape.specs.Laws.Does.{does_with}
use Rattle.ks_shape.specs.Does.{MayDel}
use Rattle.ks_shape.specs.Does.Merges.{by_own}
use Rattle.ks_shape.proofs.tree.absorb_own.Given.{Over}
use Rattle.ks_shape.proofs.tree.absorb_own.Goals as goal
use Rattle.ks_shape.proofs.tree.absorb_own.Goals.{After-node_law-2}

absorbs : (g : Over) (c : After-node_law-2 g) (h : List Event) → GrowsByOthers c.args.pass.now.caller (seen_of c.args.pass.now) h → Sound (sort_of g.N.Node.layout g.N.Node.ranged) BeginsTree TreeStep c.args.arena.now.table.shared.table_id.slots h
    → CanAbsorbOwn (graph_after h) (frame_after (blank_of (sort_of g.N.Node.layout g.N.Node.ranged)) h) c.args.node.now.node c.args.right.now.node (g.N.Node.body c.args.node.now.body) (g.N.Node.body c.args.right.now.body)
absorbs g c h grows so = let sort = sort_of g.N.Node.layout g.N.Node.ranged in let n : ℕ = c.args.arena.now.table.shared.table_id.slots in let me : ℕ = c.args.pass.now.caller in let seen = seen_of c.args.pass.now in let hs : List ℕ = hand_of c.args.pass.now in let r = c.requires in
    let keep = stays sort n me seen h (λ k sound. c.sound_law.ensures.lawful sort n k sound) grows r.pass.sound so in record { stands = stands sort g.N.Node.body hs seen h me c.args.node.now r.node (plain (g.N.Node.body c.args.node.now.body) c.node_law.ensures.sound c.node_law.ensures.framed (c.unlinked_law.ensures.no_link c.args.node.now.body)) (keep c.args.node.now.node r.node.has); other = stands sort g.N.Node.body hs seen h me c.args.right.now r.right (plain (g.N.Node.body c.args.right.now.body) c.node_law-2.ensures.sound c.node_law-2.ensures.framed (c.unlinked_law.ensures.no_link c.args.right.now.body)) (keep c.args.right.now.node r.right.has); chained = r.chained; alike = c.tree_asks_law.ensures.fit g.N.Node.layout (g.N.Node.body c.args.node.now.body) (g.N.Node.body c.args.right.now.body) r.fits; ranged = c.node_law.ensures.has_range ∙ sym c.node_law-2.ensures.has_range }

pub absorb-requires-clause-meets : goal.absorb-requires-clause-meets
absorb-requires-clause-meets g c = let seen = seen_of c.args.pass.now in let sort = sort_of g.N.Node.layout g.N.Node.ranged in let n : ℕ = c.args.arena.now.table.shared.table_id.slots in let g₀ : ℕ → NodeState = graph_after seen in let f₀ : ℕ → Frame = frame_after (blank_of sort) seen in let good = good_now (c.sound_law.ensures.good sort n seen c.requires.pass.sound) in let facts = c.sound_law.ensures.facts sort n seen c.requires.pass.sound in let none = by_others_none c.args.pass.now.caller seen in let at = (goal.at.absorb-requires-clause-meets g c).After-node_law-2 in
    c.tree_asks_law.ensures.absorb_own g₀ f₀ c.args.node.now.node c.args.right.now.node (g.N.Node.body c.args.node.now.body) (g.N.Node.body c.args.right.now.body) good facts (absorbs g at seen none c.requires.pass.sound)

pub shape-requires-clause-may : goal.shape-requires-clause-may
shape-requires-clause-may g c κs within = λ h grows sound. let sort = sort_of g.N.Node.layout g.N.Node.ranged in let n : ℕ = c.args.arena.now.table.shared.table_id.slots in let same : c.args.arena.now.nodes ≡ n = omega arith in let so = subst (λ (z : ℕ). Sound sort BeginsTree TreeStep z h) same sound in
    let at = (goal.at.shape-requires-clause-may g c).After-node_law-2 in let good = good_now (c.sound_law.ensures.good sort n h so) in let facts = c.sound_law.ensures.facts sort n h so in let g₁ : ℕ → NodeState = graph_after h in let f₁ : ℕ → Frame = frame_after (blank_of sort) h in let no_link = c.unlinked_law.ensures.no_link in
    let b : Body = (g.N.Node.body c.args.node.now.body) in let q : Body = (g.N.Node.body c.args.right.now.body) in let left = c.absorb.ensures.left in
    let step = c.tree_steps_law.ensures.absorb_own g₁ f₁ c.args.node.now.node c.args.right.now.node b q good facts (absorbs g at h grows so) (subst IsPlain left (plain (g.N.Node.body c.absorb.new.self) c.node_law-3.ensures.sound c.node_law-3.ensures.framed (no_link c.absorb.new.self))) in
    subst (TreeStep g₁ f₁) (λ k. sym (changed_to sort g.N.Node.body (record { node = c.args.node.now.node; body = c.absorb.new.self; live = c.args.node.now.live }) (absorbed b q) c.requires.node.live left) k ∷ record { node = c.args.right.now.node; state = BecomesFree } ∷ []) step

pub returns-clause-places : goal.returns-clause-places
returns-clause-places g c = let sort = sort_of g.N.Node.layout g.N.Node.ranged in let shows = g.N.Node.body in let n : ℕ = c.args.arena.now.table.shared.table_id.slots in let me : ℕ = c.args.pass.now.caller in let seen = seen_of c.args.pass.now in
    let at = (goal.at.returns-clause-places g c).After-node_law-2 in let shaped = c.shape.ensures.shaped.adds in let h : List Event = shaped.rest ++ seen in let so = (subst (Sound sort BeginsTree TreeStep n) shaped.is c.shape.ensures.pass.sound).0 in let grows : GrowsByOthers me seen h = record { rest = shaped.rest; is = refl; others = shaped.others } in
    let good = good_now (c.sound_law.ensures.good sort n h so) in let facts = c.sound_law.ensures.facts sort n h so in let g₁ : ℕ → NodeState = graph_after h in let f₁ : ℕ → Frame = frame_after (blank_of sort) h in let no_link = c.unlinked_law.ensures.no_link in
    let i : ℕ = c.args.node.now.node in let j : ℕ = c.args.right.now.node in let b : Body = shows c.args.node.now.body in let q : Body = shows c.args.right.now.body in let left = c.absorb.ensures.left in
    let mine = (stays sort n me seen h (λ k sound. c.sound_law.ensures.lawful sort n k sound) grows c.requires.pass.sound so i c.requires.node.has).turn in
    let x : Hand g.row.N.Denot = record { node = i; body = c.absorb.new.self; live = c.args.node.now.live } in
    let changes : (change_of shows x ∷ record { node = j; state = BecomesFree } ∷ []) ≡ shapes.absorb_own i j b q = λ k. changed_to sort shows x (absorbed b q) c.requires.node.live left k ∷ record { node = j; state = BecomesFree } ∷ [] in
    let same : graph_after (seen_of c.shape.new.pass) ≡ graph_with (shapes.absorb_own i j b q) g₁ = ap graph_after shaped.is ∙ ap (λ (xs : List Change). graph_with xs g₁) changes in
    let y = c.tree_insets_law.ensures.absorb_own g₁ f₁ i j b q good facts (absorbs g at h grows so) (subst IsPlain left (plain (shows c.absorb.new.self) c.node_law-3.ensures.sound c.node_law-3.ensures.framed (no_link c.absorb.new.self))) in
    subst (λ (k : ℕ → NodeState). HasPlacesOf (graph_after seen) k i i) (sym same) (own_places (graph_after seen) g₁ (graph_with (shapes.absorb_own i j b q) g₁) i j (c.sound_law.ensures.beside sort n me i seen h grows mine so) (c.sound_law.ensures.keyset sort n me i seen h grows mine so) y)

pub returns-clause-dels : goal.returns-clause-dels
returns-clause-dels g c = λ low. let sort = sort_of g.N.Node.layout g.N.Node.ranged in let shows = g.N.Node.body in let n : ℕ = c.args.arena.now.table.shared.table_id.slots in let me : ℕ = c.args.pass.now.caller in let seen = seen_of c.args.pass.now in let k = seen_of c.shape.new.pass in let so = c.shape.ensures.shaped.adds in let r = c.requires in
    let i : ℕ = c.args.node.now.node in let j : ℕ = c.args.right.now.node in let b : Body = shows c.args.node.now.body in let q : Body = shows c.args.right.now.body in
    let x : Hand g.row.N.Denot = record { node = i; body = c.absorb.new.self; live = c.args.node.now.live } in
    let changes : (change_of shows x ∷ record { node = j; state = BecomesFree } ∷ []) ≡ shapes.absorb_own i j b q = λ k. changed_to sort shows x (absorbed b q) r.node.live c.absorb.ensures.left k ∷ record { node = j; state = BecomesFree } ∷ [] in
    let had_as = had sort shows BeginsTree TreeStep n me seen k (λ h sound. c.sound_law.ensures.lawful sort n h sound) _ so r.pass.sound c.shape.ensures.pass.sound in
    does_with (MayDel sort) me _ seen k so (by_own i j b q (had_as c.args.node.now r.node) (had_as c.args.right.now r.right) low changes)
