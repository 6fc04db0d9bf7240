use Rattle.std.proofs.Common.{◌≡◌, ◌⊎◌, ◌<◌, ℕ, Bool, true, false, cond, length, refl, sym, ap, ◌∙◌, subst, inl, inr, ⊎_elim, arith}
use Rattle.std.specs.Prelude.{Option, Some, None, IsTrue}
use Rattle.ks_keysets.specs.declared.Span.{Span}
use Rattle.ks_keysets.specs.Keyset.{InInset}
use Rattle.ks_history.specs.Trace.{graph_after}
use Rattle.ks_history.specs.Frames.{frame_after}
use Rattle.ks_node.specs.Asks.{CanSplitAt, IsGoodCut}
use Rattle.ks_node.specs.Body.{Body, content_of, is_branch}
use Rattle.ks_node.specs.Edges.{edges_of}
use Rattle.ks_node.specs.Laws.Spans.{length_edges}
use Rattle.ks_bodies.specs.Shapes.{CanAdopt}
use Rattle.ks_flow.specs.Tree.{IsInset}
use Rattle.ks_bodies.specs.Stands.{Stands}
use Rattle.ks_arena.specs.Sound.{sort_of, blank_of}
use Rattle.ks_arena.specs.Clauses.{seen_of}
use Rattle.ks_put.specs.Parts.{BranchCanAt, GrowAll}
use Rattle.ks_put.proofs.Cutting.{stands_now, cut_inside, Whole, whole_of}
use Rattle.ks_put.proofs.cuts.cut_below.Given.{Over}
use Rattle.ks_put.proofs.cuts.cut_below.Goals as goal
use Rattle.ks_put.proofs.cuts.cut_below.Goals.{After-cut, then-parent-eq0, else-parent-eq0}

above : (g : Over) (c : After-cut g) → Stands (graph_after (seen_of c.args.pass.now)) (frame_after (blank_of (sort_of g.N.Node.layout g.N.Node.ranged)) (seen_of c.args.pass.now)) c.args.parent.now.node (g.N.Node.body c.args.parent.now.body)
above g c = stands_now (sort_of g.N.Node.layout g.N.Node.ranged) g.N.Node.body (seen_of c.args.pass.now) c.args.parent.now c.requires.above.live c.requires.above.matches (record { sound = c.node_law.ensures.sound; framed = c.node_law.ensures.framed; no_link = c.unlinked_law.ensures.no_link c.args.parent.now.body })

at_node : (g : Over) (c : After-cut g) → Stands (graph_after (seen_of c.args.pass.now)) (frame_after (blank_of (sort_of g.N.Node.layout g.N.Node.ranged)) (seen_of c.args.pass.now)) c.args.node.now.node (g.N.Node.body c.args.node.now.body)
at_node g c = stands_now (sort_of g.N.Node.layout g.N.Node.ranged) g.N.Node.body (seen_of c.args.pass.now) c.args.node.now c.requires.node.0 c.requires.node.1 (record { sound = c.node_law-2.ensures.sound; framed = c.node_law-2.ensures.framed; no_link = c.unlinked_law.ensures.no_link c.args.node.now.body })

whole : (g : Over) (c : After-cut g) (o : Option Span) → ((s : Span) → o ≡ Some s → IsInset (graph_after (seen_of c.args.pass.now)) c.args.node.now.node s.low s.last) → Whole (graph_after (seen_of c.args.pass.now)) c.args.node.now.node (g.N.Node.body c.args.node.now.body) o
whole g c o at = let sort = sort_of g.N.Node.layout g.N.Node.ranged in let n : ℕ = c.args.arena.now.table.shared.table_id.slots in let h = seen_of c.args.pass.now in let sound = c.requires.pass.sound in let good = ((c.search_law.ensures sort n).good h sound) in let facts = (c.search_law.ensures sort n).facts h sound in let b : Body = g.N.Node.body c.args.node.now.body in let i : ℕ = c.args.node.now.node in
    whole_of (graph_after h) i b o (c.tree_spans_law.ensures.some (graph_after h) (frame_after (blank_of sort) h) i b good facts (at_node g c)) (λ s inset. c.tree_spans_law.ensures.suits (graph_after h) (frame_after (blank_of sort) h) i b s good facts (at_node g c) inset) at

-- the span of the node that was passed, or any
span_is : (g : Over) (c : After-cut g) → Whole (graph_after (seen_of c.args.pass.now)) c.args.node.now.node (g.N.Node.body c.args.node.now.body) c.if-parent-eq0.span
span_is g c = let sort = sort_of g.N.Node.layout g.N.Node.ranged in let n : ℕ = c.args.arena.now.table.shared.table_id.slots in let h = seen_of c.args.pass.now in let sound = c.requires.pass.sound in let good = ((c.search_law.ensures sort n).good h sound) in let facts = (c.search_law.ensures sort n).facts h sound in let b : Body = g.N.Node.body c.args.node.now.body in let u : Body = g.N.Node.body c.args.parent.now.body in let i : ℕ = c.args.node.now.node in
    elim c.if-parent-eq0.branch [
      | then-parent-eq0 w ↦ whole g c c.if-parent-eq0.span (λ s e. c.tree_spans_law.ensures.below (graph_after h) (frame_after (blank_of sort) h) i c.args.place s u b good facts (subst (λ (z : ℕ). Stands (graph_after h) (frame_after (blank_of sort) h) z u) w.if-parent-eq0.true (above g c)) (at_node g c) c.requires.above.leads (w.span_for-span.ensures.edge s (sym w.span-is ∙ e)))
      | else-parent-eq0 w ↦ whole g c c.if-parent-eq0.span (λ s e. absurd (let q : None ≡ Some s = sym w.span-is ∙ e in let z : ⊥ = cc in z))
    ]

good_cut : (g : Over) (c : After-cut g) → IsGoodCut (g.N.Node.body c.args.node.now.body) (span_is g c).span c.cut.result
good_cut g c = let w = span_is g c in c.cut.ensures.good w.span w.suits w.given

within : (g : Over) (c : After-cut g) → InInset (graph_after (seen_of c.args.pass.now)) c.args.node.now.node c.cut.result × CanSplitAt (g.N.Node.body c.args.node.now.body) c.cut.result
within g c = cut_inside (graph_after (seen_of c.args.pass.now)) c.args.node.now.node c.cut.result (g.N.Node.body c.args.node.now.body) (span_is g c).span (span_is g c).inset (good_cut g c)

pub returns-clause-cut : goal.returns-clause-cut
returns-clause-cut g c = within g c

-- the cut is that of the span that was passed
is_cut : (g : Over) (c : After-cut g) → c.cut.result ≡ g.N.Node.cut_at (content_of (g.N.Node.body c.args.node.now.body)) c.if-parent-eq0.span
is_cut g c = c.cut.ensures.is ∙ ap (λ (t : Bool). g.N.Node.cut_at (content_of (g.N.Node.body c.args.node.now.body)) (cond t (g.N.Node.body c.args.node.now.body).range c.if-parent-eq0.span)) c.unlinked_law.ensures.by_span

-- the parent is a branch, if only branches have edges
branch_is : (t : Bool) (u : Body) → is_branch u ≡ t → (is_branch u ≡ false → length u.starts ≡ 0) → length (edges_of u) ≡ length u.starts → 0 < length (edges_of u) → IsTrue (is_branch u)
branch_is true u e none same some = e
branch_is false u e none same some = absurd (omega (arith, none e, same, some))

leaf_or : (t : Bool) (b : Body) → is_branch b ≡ t → (is_branch b ≡ false) ⊎ IsTrue (is_branch b)
leaf_or true b e = inr e
leaf_or false b e = inl e

pub returns-clause-open : goal.returns-clause-open
returns-clause-open g c = λ branchy room. let sort = sort_of g.N.Node.layout g.N.Node.ranged in let n : ℕ = c.args.arena.now.table.shared.table_id.slots in let h = seen_of c.args.pass.now in let sound = c.requires.pass.sound in let good = ((c.search_law.ensures sort n).good h sound) in let facts = (c.search_law.ensures sort n).facts h sound in
    let b : Body = g.N.Node.body c.args.node.now.body in let u : Body = g.N.Node.body c.args.parent.now.body in let i : ℕ = c.args.node.now.node in let p : ℕ = c.args.parent.now.node in let same = is_cut g c in let w = span_is g c in let at = within g c in
    let above_can : GrowAll g.N.Node.grows_at g.N.Node.body g.N.Node.branches_adopt g.N.Node.halves_have_room → BranchCanAt g.N.Node.can_adopt_at u c.cut.result = λ second. (let t = c.unlinked_law.ensures.adopting second.1 c.args.parent.now.body in let to = c.requires.above.leads in
    let branch : IsTrue (is_branch u) = branch_is (is_branch u) u refl t.bare (length_edges u c.node_law.ensures.sound c.node_law.ensures.framed (c.unlinked_law.ensures.no_link c.args.parent.now.body)) (omega (arith, to.1)) in
    let can : CanAdopt (graph_after h) (frame_after (blank_of sort) h) p i u = record { stands = above g c; branch = branch; place = c.args.place; leads = to } in
    (branch, t.inside c.cut.result branch (room second) (c.tree_asks_law.ensures.adopt (graph_after h) (frame_after (blank_of sort) h) p i c.cut.result u b good facts can (at_node g c) at.0 at.1.0.0).0 (c.tree_asks_law.ensures.adopt_free (graph_after h) (frame_after (blank_of sort) h) p i c.cut.result u b good facts can (at_node g c) at.0 at.1.0.0))) in
    ⊎_elim
    (λ first. ⊎_elim
    (λ leaf. inl (leaf, subst (λ (z : ℕ). IsTrue (g.N.Node.can_adopt_at (content_of b) z)) (sym same) (first c.args.node.now.body w.span c.if-parent-eq0.span c.requires.full w.suits w.given (subst (IsGoodCut b w.span) same (good_cut g c)))))
    (λ branch. inr (above_can (branchy branch)))
    (leaf_or (is_branch b) b refl))
    (λ second. inr (above_can second))
    (c.unlinked_law.ensures.sort c.requires.at_root)
