use Rattle.std.proofs.Common.{◌≡◌, ◌⊎◌, ◌∙◌, ℕ, cond, Bool, true, false, refl, sym, ap, subst, inl, inr, ⊎_elim}
use Rattle.std.specs.Prelude.{Some, None, IsTrue}
use Rattle.ks_keysets.specs.declared.Span.{Span}
use Rattle.ks_keysets.specs.Record.{top}
use Rattle.ks_history.specs.Trace.{graph_after}
use Rattle.ks_history.specs.Frames.{frame_after}
use Rattle.ks_node.specs.Body.{Body, all_places, content_of, is_branch}
use Rattle.ks_node.specs.Asks.{IsGoodCut}
use Rattle.ks_node.specs.Room.{in_place}
use Rattle.ks_flow.specs.Tree.{IsInset}
use Rattle.ks_bodies.specs.Stands.{Stands}
use Rattle.ks_arena.specs.Sound.{sort_of, blank_of}
use Rattle.ks_arena.specs.Clauses.{seen_of}
use Rattle.ks_put.proofs.Cutting.{stands_now, cut_inside, Whole, whole_of}
use Rattle.ks_put.proofs.Keeping.{whole_root}
use Rattle.ks_put.proofs.cuts.cut_whole.Given.{Over}
use Rattle.ks_put.proofs.cuts.cut_whole.Goals as goal
use Rattle.ks_put.proofs.cuts.cut_whole.Goals.{After-cut, then-node-eq0, else-node-eq0}

at_node : (g : Over) (c : After-cut g) → Stands (graph_after (seen_of c.args.pass.now)) (frame_after (blank_of (sort_of g.N.Node.layout g.N.Node.ranged)) (seen_of c.args.pass.now)) c.args.node.now.node (g.N.Node.body c.args.node.now.body)
at_node g c = stands_now (sort_of g.N.Node.layout g.N.Node.ranged) g.N.Node.body (seen_of c.args.pass.now) c.args.node.now c.requires.node.0 c.requires.node.1 (record { sound = c.node_law.ensures.sound; framed = c.node_law.ensures.framed; no_link = c.unlinked_law.ensures.no_link c.args.node.now.body })

-- the root may hold all places
root_inset : (g : Over) (c : After-cut g) → c.args.node.now.node ≡ 0 → IsInset (graph_after (seen_of c.args.pass.now)) c.args.node.now.node 0 top
root_inset g c root = let sort = sort_of g.N.Node.layout g.N.Node.ranged in let h = seen_of c.args.pass.now in let b : Body = g.N.Node.body c.args.node.now.body in
    subst (λ (i : ℕ). IsInset (graph_after h) i 0 top) (sym root) (c.tree_spans_law.ensures.root (graph_after h) (frame_after (blank_of sort) h) b (subst (λ (i : ℕ). Stands (graph_after h) (frame_after (blank_of sort) h) i b) root (at_node g c)))

same_span : (s r : Span) → Some s ≡ Some r → r ≡ s
same_span s r e = let q : s ≡ r = cc in sym q

-- the span that is passed: of the root all places, else none
passed : (g : Over) (c : After-cut g) (s : Span) → c.if-node-eq0.span ≡ Some s → IsInset (graph_after (seen_of c.args.pass.now)) c.args.node.now.node s.low s.last
passed g c s is = elim c.if-node-eq0.branch [
  | then-node-eq0 w ↦ subst (λ (r : Span). IsInset (graph_after (seen_of c.args.pass.now)) c.args.node.now.node r.low r.last) (sym (same_span all_places s (sym w.span-is ∙ is))) (root_inset g c w.if-node-eq0.true)
  | else-node-eq0 w ↦ absurd (let q : None ≡ Some s = sym w.span-is ∙ is in let z : ⊥ = cc in z)
]

span_is : (g : Over) (c : After-cut g) → Whole (graph_after (seen_of c.args.pass.now)) c.args.node.now.node (g.N.Node.body c.args.node.now.body) c.if-node-eq0.span
span_is g c = let sort = sort_of g.N.Node.layout g.N.Node.ranged in let n : ℕ = c.args.arena.now.table.shared.table_id.slots in let h = seen_of c.args.pass.now in let sound = c.requires.pass.sound in let good = ((c.search_law.ensures sort n).good h sound) in let facts = (c.search_law.ensures sort n).facts h sound in let b : Body = g.N.Node.body c.args.node.now.body in let i : ℕ = c.args.node.now.node in
    whole_of (graph_after h) i b c.if-node-eq0.span (c.tree_spans_law.ensures.some (graph_after h) (frame_after (blank_of sort) h) i b good facts (at_node g c)) (λ s inset. c.tree_spans_law.ensures.suits (graph_after h) (frame_after (blank_of sort) h) i b s good facts (at_node g c) inset) (passed g c)

good_cut : (g : Over) (c : After-cut g) → IsGoodCut (g.N.Node.body c.args.node.now.body) (span_is g c).span c.cut.result
good_cut g c = let w = span_is g c in c.cut.ensures.good w.span w.suits w.given

pub returns-clause-cut : goal.returns-clause-cut
returns-clause-cut g c = cut_inside (graph_after (seen_of c.args.pass.now)) c.args.node.now.node c.cut.result (g.N.Node.body c.args.node.now.body) (span_is g c).span (span_is g c).inset (good_cut g c)

-- a node of a type that does not grow in place is the root
all_passed : (g : Over) (c : After-cut g) → in_place g.N.Node.layout ≡ false → c.if-node-eq0.span ≡ Some all_places
all_passed g c no_place = elim c.if-node-eq0.branch [
  | then-node-eq0 w ↦ w.span-is
  | else-node-eq0 w ↦ absurd (w.if-node-eq0.false (whole_root (in_place g.N.Node.layout) c.args.node.now.node c.requires.whole no_place))
]

pub returns-clause-grows : goal.returns-clause-grows
returns-clause-grows g c = λ grows. let w = span_is g c in c.cut.ensures.grows w.span w.suits w.given grows (all_passed g c)

-- the cut is that of the span that was passed
is_cut : (g : Over) (c : After-cut g) → c.cut.result ≡ g.N.Node.cut_at (content_of (g.N.Node.body c.args.node.now.body)) c.if-node-eq0.span
is_cut g c = c.cut.ensures.is ∙ ap (λ (t : Bool). g.N.Node.cut_at (content_of (g.N.Node.body c.args.node.now.body)) (cond t (g.N.Node.body c.args.node.now.body).range c.if-node-eq0.span)) c.unlinked_law.ensures.by_span

leaf_or : (t : Bool) (b : Body) → is_branch b ≡ t → (is_branch b ≡ false) ⊎ IsTrue (is_branch b)
leaf_or true b e = inr e
leaf_or false b e = inl e

place_or : (t : Bool) → (t ≡ false) ⊎ IsTrue t
place_or true = inr refl
place_or false = inl refl

pub returns-clause-open : goal.returns-clause-open
returns-clause-open g c = λ branchy. let b : Body = g.N.Node.body c.args.node.now.body in let same = is_cut g c in let w = span_is g c in
    ⊎_elim
    (λ no_place. ⊎_elim
    (λ first. ⊎_elim
    (λ leaf. inr (leaf, subst (λ (z : ℕ). IsTrue (g.N.Node.can_adopt_at (content_of b) z)) (sym same) (first c.args.node.now.body w.span c.if-node-eq0.span c.requires.full w.suits w.given (subst (IsGoodCut b w.span) same (good_cut g c)))))
    (λ branch. inl ((branchy branch).0 c.args.node.now.body))
    (leaf_or (is_branch b) b refl))
    (λ second. inl (second.0 c.args.node.now.body))
    (c.unlinked_law.ensures.sort no_place))
    (λ stays. inl ((c.unlinked_law.ensures.stands stays).0 c.args.node.now.body).can)
    (place_or (in_place g.N.Node.layout))
