use Rattle.ks_keysets.specs.declared.Change.{Change}
use Rattle.ks_bodies.specs.Shapes as shapes
use Rattle.ks_flow.specs.Changes.{graph_with}
use Rattle.ks_arena.specs.declared.held.Held.{Held as Hand}
use Rattle.ks_shape.specs.Places.{HasPlacesOf}
use Rattle.std.proofs.Common.{true, false, ◌≡◌, ℕ, List, [], ◌∷◌, ◌++◌, ap, arith, refl, sym, ◌∙◌, subst}
use Rattle.std.specs.Prelude.{Some}
use Rattle.ks_keysets.specs.declared.NodeState.{NodeState}
use Rattle.ks_keysets.specs.declared.NewState.TheVariants.{BecomesFree}
use Rattle.ks_keysets.specs.declared.Frame.{Frame}
use Rattle.ks_history.specs.declared.Event.{Event}
use Rattle.ks_history.specs.Trace.{graph_after}
use Rattle.ks_history.specs.Frames.{frame_after}
use Rattle.ks_history.specs.Passes.{GrowsByOthers}
use Rattle.ks_history.specs.Laws.Begins.{good_now, by_others_none}
use Rattle.ks_node.specs.Body.{Body}
use Rattle.ks_node.specs.Effect.{absorbed, forgot}
use Rattle.ks_flow.specs.Discipline.{BeginsTree, TreeStep}
use Rattle.ks_bodies.specs.Shapes.{CanAbsorbUnder}
use Rattle.ks_bodies.specs.Stands.{IsPlain}
use Rattle.ks_arena.specs.Sound.{sort_of, blank_of, Sound}
use Rattle.ks_arena.specs.Clauses.{seen_of, hand_of, change_of}
use Rattle.ks_shape.proofs.Places.{under_places, under_leads}
use Rattle.ks_flow.specs.Insets.{AbsorbsInsetUnder}
use Rattle.ks_keysets.specs.Keyset.{record_at}
use Rattle.ks_node.specs.Edges.{record_of}
use Rattle.ks_shape.specs.Laws.Single.{record_is}
use Rattle.ks_shape.proofs.Standing.{plain, stands, stays, changed_to}
use Rattle.ks_shape.proofs.Leaving.{had}
use Rattle.ks_shape.specs.Laws.Does.{does_with}
use Rattle.ks_shape.specs.Does.{MayDel}
use Rattle.ks_shape.specs.Does.Merges.{by_parent}
use Rattle.ks_shape.proofs.tree.absorb_under.Given.{Over}
use Rattle.ks_shape.proofs.tree.absorb_under.Goals as goal
use Rattle.ks_shape.proofs.tree.absorb_under.Goals.{After-node_law-3}

absorbs : (g : Over) (c : After-node_law-3 g) (h : List Event) → GrowsByOthers c.args.pass.now.caller (seen_of c.args.pass.now) h → Sound (sort_of g.N.Node.layout g.N.Node.ranged) BeginsTree TreeStep c.args.arena.now.table.shared.table_id.slots h
    → CanAbsorbUnder (graph_after h) (frame_after (blank_of (sort_of g.N.Node.layout g.N.Node.ranged)) h) c.args.parent.now.node c.args.node.now.node c.args.right.now.node (g.N.Node.body c.args.parent.now.body) (g.N.Node.body c.args.node.now.body) (g.N.Node.body c.args.right.now.body)
absorbs g c h grows so = let sort = sort_of g.N.Node.layout g.N.Node.ranged in let n : ℕ = c.args.arena.now.table.shared.table_id.slots in let me : ℕ = c.args.pass.now.caller in let seen = seen_of c.args.pass.now in let hs : List ℕ = hand_of c.args.pass.now in let r = c.requires in
    let keep = stays sort n me seen h (λ k sound. c.sound_law.ensures.lawful sort n k sound) grows r.pass.sound so in record { above = stands sort g.N.Node.body hs seen h me c.args.parent.now r.parent (plain (g.N.Node.body c.args.parent.now.body) c.node_law.ensures.sound c.node_law.ensures.framed (c.unlinked_law.ensures.no_link c.args.parent.now.body)) (keep c.args.parent.now.node r.parent.has); stands = stands sort g.N.Node.body hs seen h me c.args.node.now r.node (plain (g.N.Node.body c.args.node.now.body) c.node_law-2.ensures.sound c.node_law-2.ensures.framed (c.unlinked_law.ensures.no_link c.args.node.now.body)) (keep c.args.node.now.node r.node.has); other = stands sort g.N.Node.body hs seen h me c.args.right.now r.right (plain (g.N.Node.body c.args.right.now.body) c.node_law-3.ensures.sound c.node_law-3.ensures.framed (c.unlinked_law.ensures.no_link c.args.right.now.body)) (keep c.args.right.now.node r.right.has); branch = r.branch; place = r.leads.0; leads = r.leads.1; next = r.leads.2; unchained = r.unchained; alike = c.tree_asks_law.ensures.fit g.N.Node.layout (g.N.Node.body c.args.node.now.body) (g.N.Node.body c.args.right.now.body) r.fits; ranged = c.node_law-2.ensures.has_range ∙ sym c.node_law-3.ensures.has_range }

pub absorb-requires-clause-meets : goal.absorb-requires-clause-meets
absorb-requires-clause-meets g c = let seen = seen_of c.args.pass.now in let sort = sort_of g.N.Node.layout g.N.Node.ranged in let n : ℕ = c.args.arena.now.table.shared.table_id.slots in let g₀ : ℕ → NodeState = graph_after seen in let f₀ : ℕ → Frame = frame_after (blank_of sort) seen in let good = good_now (c.sound_law.ensures.good sort n seen c.requires.pass.sound) in let facts = c.sound_law.ensures.facts sort n seen c.requires.pass.sound in let none = by_others_none c.args.pass.now.caller seen in let at = (goal.at.absorb-requires-clause-meets g c).After-node_law-3 in
    c.tree_asks_law.ensures.absorb_under g₀ f₀ c.args.parent.now.node c.args.node.now.node c.args.right.now.node (g.N.Node.body c.args.parent.now.body) (g.N.Node.body c.args.node.now.body) (g.N.Node.body c.args.right.now.body) good facts (absorbs g at seen none c.requires.pass.sound)

pub forget-requires-clause-later : goal.forget-requires-clause-later
forget-requires-clause-later g c = let seen = seen_of c.args.pass.now in let sort = sort_of g.N.Node.layout g.N.Node.ranged in let n : ℕ = c.args.arena.now.table.shared.table_id.slots in let g₀ : ℕ → NodeState = graph_after seen in let f₀ : ℕ → Frame = frame_after (blank_of sort) seen in let good = good_now (c.sound_law.ensures.good sort n seen c.requires.pass.sound) in let facts = c.sound_law.ensures.facts sort n seen c.requires.pass.sound in let none = by_others_none c.args.pass.now.caller seen in let at = (goal.at.forget-requires-clause-later g c).After-node_law-3 in
    c.tree_asks_law.ensures.forget g₀ f₀ c.args.parent.now.node c.args.node.now.node c.args.right.now.node (g.N.Node.body c.args.parent.now.body) (g.N.Node.body c.args.node.now.body) (g.N.Node.body c.args.right.now.body) good facts (absorbs g at seen none c.requires.pass.sound)

pub shape-requires-clause-may : goal.shape-requires-clause-may
shape-requires-clause-may g c κs within = λ h grows sound. let sort = sort_of g.N.Node.layout g.N.Node.ranged in let n : ℕ = c.args.arena.now.table.shared.table_id.slots in let same : c.args.arena.now.nodes ≡ n = omega arith in let so = subst (λ (z : ℕ). Sound sort BeginsTree TreeStep z h) same sound in
    let at = (goal.at.shape-requires-clause-may g c).After-node_law-3 in let good = good_now (c.sound_law.ensures.good sort n h so) in let facts = c.sound_law.ensures.facts sort n h so in let g₁ : ℕ → NodeState = graph_after h in let f₁ : ℕ → Frame = frame_after (blank_of sort) h in let no_link = c.unlinked_law.ensures.no_link in
    let u : Body = (g.N.Node.body c.args.parent.now.body) in let b : Body = (g.N.Node.body c.args.node.now.body) in let q : Body = (g.N.Node.body c.args.right.now.body) in let left = c.absorb.ensures.left in let above = c.forget.ensures in
    let step = c.tree_steps_law.ensures.absorb_under g₁ f₁ c.args.parent.now.node c.args.node.now.node c.args.right.now.node u b q good facts (absorbs g at h grows so) (subst IsPlain above (plain (g.N.Node.body c.forget.new.self) c.node_law-4.ensures.sound c.node_law-4.ensures.framed (no_link c.forget.new.self))) (subst IsPlain left (plain (g.N.Node.body c.absorb.new.self) c.node_law-5.ensures.sound c.node_law-5.ensures.framed (no_link c.absorb.new.self))) in
    subst (TreeStep g₁ f₁) (λ k. sym (changed_to sort g.N.Node.body (record { node = c.args.parent.now.node; body = c.forget.new.self; live = c.args.parent.now.live }) (forgot c.args.right.now.node u) c.requires.parent.live above) k ∷ sym (changed_to sort g.N.Node.body (record { node = c.args.node.now.node; body = c.absorb.new.self; live = c.args.node.now.live }) (absorbed b q) c.requires.node.live left) k ∷ record { node = c.args.right.now.node; state = BecomesFree } ∷ []) step

pub returns-clause-places : goal.returns-clause-places
returns-clause-places g c = let sort = sort_of g.N.Node.layout g.N.Node.ranged in let shows = g.N.Node.body in let n : ℕ = c.args.arena.now.table.shared.table_id.slots in let me : ℕ = c.args.pass.now.caller in let seen = seen_of c.args.pass.now in
    let at = (goal.at.returns-clause-places g c).After-node_law-3 in let shaped = c.shape.ensures.shaped.adds in let h : List Event = shaped.rest ++ seen in let so = (subst (Sound sort BeginsTree TreeStep n) shaped.is c.shape.ensures.pass.sound).0 in let grows : GrowsByOthers me seen h = record { rest = shaped.rest; is = refl; others = shaped.others } in
    let good = good_now (c.sound_law.ensures.good sort n h so) in let facts = c.sound_law.ensures.facts sort n h so in let g₁ : ℕ → NodeState = graph_after h in let f₁ : ℕ → Frame = frame_after (blank_of sort) h in let no_link = c.unlinked_law.ensures.no_link in
    let o : ℕ = c.args.parent.now.node in let i : ℕ = c.args.node.now.node in let j : ℕ = c.args.right.now.node in let u : Body = shows c.args.parent.now.body in let b : Body = shows c.args.node.now.body in let q : Body = shows c.args.right.now.body in let left = c.absorb.ensures.left in let above = c.forget.ensures in
    let mine = (stays sort n me seen h (λ k sound. c.sound_law.ensures.lawful sort n k sound) grows c.requires.pass.sound so i c.requires.node.has).turn in
    let x : Hand g.row.N.Denot = record { node = i; body = c.absorb.new.self; live = c.args.node.now.live } in let z : Hand g.row.N.Denot = record { node = o; body = c.forget.new.self; live = c.args.parent.now.live } in
    let changes : (change_of shows z ∷ change_of shows x ∷ record { node = j; state = BecomesFree } ∷ []) ≡ shapes.absorb_under o i j u b q = λ k. changed_to sort shows z (forgot j u) c.requires.parent.live above k ∷ changed_to sort shows x (absorbed b q) c.requires.node.live left k ∷ record { node = j; state = BecomesFree } ∷ [] in
    let same : graph_after (seen_of c.shape.new.pass) ≡ graph_with (shapes.absorb_under o i j u b q) g₁ = ap graph_after shaped.is ∙ ap (λ (xs : List Change). graph_with xs g₁) changes in
    let y = c.tree_insets_law.ensures.absorb_under g₁ f₁ o i j u b q good facts (absorbs g at h grows so) (subst IsPlain above (plain (shows c.forget.new.self) c.node_law-4.ensures.sound c.node_law-4.ensures.framed (no_link c.forget.new.self))) (subst IsPlain left (plain (shows c.absorb.new.self) c.node_law-5.ensures.sound c.node_law-5.ensures.framed (no_link c.absorb.new.self))) in
    subst (λ (k : ℕ → NodeState). HasPlacesOf (graph_after seen) k i i) (sym same) (under_places (graph_after seen) g₁ (graph_with (shapes.absorb_under o i j u b q) g₁) o i j (c.sound_law.ensures.beside sort n me i seen h grows mine so) (c.sound_law.ensures.keyset sort n me i seen h grows mine so) y)

pub returns-clause-leads : goal.returns-clause-leads
returns-clause-leads g c = let sort = sort_of g.N.Node.layout g.N.Node.ranged in let shows = g.N.Node.body in let n : ℕ = c.args.arena.now.table.shared.table_id.slots in let me : ℕ = c.args.pass.now.caller in let seen = seen_of c.args.pass.now in
    let at = (goal.at.returns-clause-leads g c).After-node_law-3 in let shaped = c.shape.ensures.shaped.adds in let h : List Event = shaped.rest ++ seen in let so = (subst (Sound sort BeginsTree TreeStep n) shaped.is c.shape.ensures.pass.sound).0 in let grows : GrowsByOthers me seen h = record { rest = shaped.rest; is = refl; others = shaped.others } in
    let good = good_now (c.sound_law.ensures.good sort n h so) in let facts = c.sound_law.ensures.facts sort n h so in let g₁ : ℕ → NodeState = graph_after h in let f₁ : ℕ → Frame = frame_after (blank_of sort) h in let no_link = c.unlinked_law.ensures.no_link in
    let o : ℕ = c.args.parent.now.node in let i : ℕ = c.args.node.now.node in let j : ℕ = c.args.right.now.node in let u : Body = shows c.args.parent.now.body in let b : Body = shows c.args.node.now.body in let q : Body = shows c.args.right.now.body in let left = c.absorb.ensures.left in let above = c.forget.ensures in
    let mine = (stays sort n me seen h (λ k sound. c.sound_law.ensures.lawful sort n k sound) grows c.requires.pass.sound so i c.requires.node.has).turn in
    let x : Hand g.row.N.Denot = record { node = i; body = c.absorb.new.self; live = c.args.node.now.live } in let z : Hand g.row.N.Denot = record { node = o; body = c.forget.new.self; live = c.args.parent.now.live } in
    let changes : (change_of shows z ∷ change_of shows x ∷ record { node = j; state = BecomesFree } ∷ []) ≡ shapes.absorb_under o i j u b q = λ k. changed_to sort shows z (forgot j u) c.requires.parent.live above k ∷ changed_to sort shows x (absorbed b q) c.requires.node.live left k ∷ record { node = j; state = BecomesFree } ∷ [] in
    let same : graph_after (seen_of c.shape.new.pass) ≡ graph_with (shapes.absorb_under o i j u b q) g₁ = ap graph_after shaped.is ∙ ap (λ (xs : List Change). graph_with xs g₁) changes in
    let y = c.tree_insets_law.ensures.absorb_under g₁ f₁ o i j u b q good facts (absorbs g at h grows so) (subst IsPlain above (plain (shows c.forget.new.self) c.node_law-4.ensures.sound c.node_law-4.ensures.framed (no_link c.forget.new.self))) (subst IsPlain left (plain (shows c.absorb.new.self) c.node_law-5.ensures.sound c.node_law-5.ensures.framed (no_link c.absorb.new.self))) in
    let after : List Event = seen_of c.shape.new.pass in
    let shown : record_at (graph_after after) o ≡ Some (record_of (forgot j u)) = record_is sort shows after z c.requires.parent.live (c.shape.ensures.bodies.0 (λ dead. let off : true ≡ false = sym c.requires.parent.live ∙ dead in absurd (let q' : ⊥ = cc in q'))) ∙ ap (λ (w : Body). Some (record_of w)) above in
    under_leads (graph_after seen) g₁ (graph_after after) o i j (record_of (forgot j u)) (c.sound_law.ensures.beside sort n me i seen h grows mine so) (subst (λ (k : ℕ → NodeState). AbsorbsInsetUnder g₁ k o i j) (sym same) y) shown

pub returns-clause-dels : goal.returns-clause-dels
returns-clause-dels g c = λ low. let sort = sort_of g.N.Node.layout g.N.Node.ranged in let shows = g.N.Node.body in let n : ℕ = c.args.arena.now.table.shared.table_id.slots in let me : ℕ = c.args.pass.now.caller in let seen = seen_of c.args.pass.now in let k = seen_of c.shape.new.pass in let so = c.shape.ensures.shaped.adds in let r = c.requires in
    let o : ℕ = c.args.parent.now.node in let i : ℕ = c.args.node.now.node in let j : ℕ = c.args.right.now.node in let u : Body = shows c.args.parent.now.body in let b : Body = shows c.args.node.now.body in let q : Body = shows c.args.right.now.body in
    let x : Hand g.row.N.Denot = record { node = i; body = c.absorb.new.self; live = c.args.node.now.live } in let z : Hand g.row.N.Denot = record { node = o; body = c.forget.new.self; live = c.args.parent.now.live } in
    let changes : (change_of shows z ∷ change_of shows x ∷ record { node = j; state = BecomesFree } ∷ []) ≡ shapes.absorb_under o i j u b q = λ k. changed_to sort shows z (forgot j u) r.parent.live c.forget.ensures k ∷ changed_to sort shows x (absorbed b q) r.node.live c.absorb.ensures.left k ∷ record { node = j; state = BecomesFree } ∷ [] in
    let had_as = had sort shows BeginsTree TreeStep n me seen k (λ h sound. c.sound_law.ensures.lawful sort n h sound) _ so r.pass.sound c.shape.ensures.pass.sound in
    does_with (MayDel sort) me _ seen k so (by_parent o i j u b q (had_as c.args.parent.now r.parent) (had_as c.args.node.now r.node) (had_as c.args.right.now r.right) low changes)
