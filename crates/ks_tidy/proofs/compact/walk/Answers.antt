use Rattle.std.proofs.Common.{◌∙◌, ◌≤◌, ◌+◌, ◌%◌, ◌^◌, ℕ, suc, sym, subst, arith, inl}
use Rattle.ks_keysets.specs.Keyset.{Good}
use Rattle.ks_keysets.specs.Record.{top, LeadsOn}
use Rattle.ks_history.specs.Trace.{graph_after}
use Rattle.ks_history.specs.Frames.{frame_after}
use Rattle.ks_flow.specs.Tree.{Tree}
use Rattle.ks_node.specs.Body.{Body}
use Rattle.ks_node.specs.Edges.{record_of}
use Rattle.ks_node.specs.Laws.Ways.{next_leads, here_stays}
use Rattle.ks_arena.specs.Sound.{sort_of, blank_of}
use Rattle.ks_arena.specs.Clauses.{seen_of}
use Rattle.ks_shape.specs.Laws.Search.{Laws}
use Rattle.ks_shape.specs.Laws.Stretches.{stretches_as, stretches_on}
use Rattle.ks_shape.specs.Frees.{Undisturbed}
use Rattle.ks_shape.specs.Laws.Frees.{frees_as, frees_take, counts_as, counts_of, undisturbed_as}
use Rattle.ks_tidy.specs.Pair.{IsPair}
use Rattle.ks_tidy.proofs.Onward.{IsTested, counts_next, quiet_before, tight_on, visit_tests, walk_begins, walk_down, walk_ends}
use Rattle.ks_tidy.proofs.compact.walk.Given.{Over}
use Rattle.ks_tidy.proofs.compact.walk.Goals as goal
use Rattle.ks_tidy.proofs.compact.walk.Goals.{After-tight_law, After-node_law}

laws : (g : Over) (c : After-tight_law g) → Laws (sort_of g.N.Node.layout g.N.Node.ranged) c.args.arena.now.table.shared.table_id.slots
laws g c = c.search_law.ensures (sort_of g.N.Node.layout g.N.Node.ranged) c.args.arena.now.table.shared.table_id.slots

good : (g : Over) (c : After-tight_law g) → Good (graph_after (seen_of c.args.pass.now))
good g c = (laws g c).good (seen_of c.args.pass.now) c.requires.pass.0.sound

facts : (g : Over) (c : After-tight_law g) → Tree (graph_after (seen_of c.args.pass.now)) (frame_after (blank_of (sort_of g.N.Node.layout g.N.Node.ranged)) (seen_of c.args.pass.now))
facts g c = (laws g c).facts (seen_of c.args.pass.now) c.requires.pass.0.sound

pub loop-init : goal.loop-init
loop-init g c = let at = (goal.at.loop-init g c).After-tight_law in let sort = sort_of g.N.Node.layout g.N.Node.ranged in let s = seen_of c.args.pass.now in let h = seen_of c.enter-path.new.pass in let me : ℕ = c.args.pass.now.caller in let b : ℕ = c.enter-path.new.pass.caller in let e = c.enter-path.ensures in (
  e.pass,
  e.caller,
  subst (λ (z : ℕ). IsPair sort g.N.Node.body z c.args.place h c.enter-path.result) (sym e.caller) (record { path = e.path; rooted = λ none. inl e.root.1 }),
  stretches_as b me s h (sym e.caller) e.stretch,
  counts_as b me 0 s h (sym e.caller) (counts_of me 0 s h (omega arith) (frees_take me 0 s h e.took)),
  omega (arith, c.ranges.place),
  λ quiet. walk_begins sort g.N.Node.body s c.args.place c.enter-path.result (c.tight_law.ensures.begins g.N.Node.layout (graph_after s) (frame_after (blank_of sort) s) c.args.place (good g at) (facts g at) (omega (arith, c.ranges.place))) e.root,
)

-- the node to which the walk came is tested
tested : (g : Over) (c : After-node_law g) → Undisturbed c.loop.pass.caller (seen_of c.args.pass.now) (seen_of c.visit-here.new.pass) → IsTested (sort_of g.N.Node.layout g.N.Node.ranged) g.N.Node.body (seen_of c.args.pass.now) c.args.place c.loop.end c.visit-here.result.path
tested g c quiet = let inv = c.loop.invariant in let e = c.visit-here.ensures in
    visit_tests (sort_of g.N.Node.layout g.N.Node.ranged) g.N.Node.body c.loop.pass.caller c.args.place c.loop.end inv.4.count e.counts.count (seen_of c.args.pass.now) (seen_of c.loop.pass) (seen_of c.visit-here.new.pass) c.loop.path c.visit-here.result.path inv.4.frees e.counts.frees inv.6 e.same e.fits
    c.tests_law.ensures.no_only_child e.pair e.no_sole quiet

pub loop-preserved : goal.loop-preserved
loop-preserved g c = let at = (goal.at.loop-preserved g c).After-node_law in let before = (goal.at.loop-preserved g c).After-tight_law in let shows = g.N.Node.body in let sort = sort_of g.N.Node.layout g.N.Node.ranged in let p : ℕ = c.args.place in
    let s = seen_of c.args.pass.now in let h = seen_of c.loop.pass in let k = seen_of c.visit-here.new.pass in let m = seen_of c.go_down-path.new.pass in let a : ℕ = c.loop.pass.caller in let b : ℕ = c.visit-here.new.pass.caller in let d : ℕ = c.go_down-path.new.pass.caller in
    let inv = c.loop.invariant in let v = c.visit-here.ensures in let e = c.go_down-path.ensures in let x = c.visit-here.result.path in let body : Body = shows x.node.body in let upto : ℕ = c.visit-here.result.end in (
      e.pass,
      e.caller ∙ v.caller ∙ inv.1,
      subst (λ (z : ℕ). IsPair sort shows z p m c.go_down-path.result) (sym e.caller) e.pair,
      stretches_on b d s k m e.caller (stretches_on a b s h k v.caller inv.3 v.stretch) e.stretch,
      counts_next a b d c.loop.freed c.visit-here.result.freed s h k m v.caller e.caller inv.4 v.counts e.frees,
      v.run.above,
      λ quiet.
          let still : Undisturbed a s k = quiet_before a inv.4.count v.counts.count s h k m inv.4.frees v.counts.frees (frees_as a b k m v.caller e.frees) (undisturbed_as a d s m (e.caller ∙ v.caller) quiet) in
          walk_down sort shows p c.loop.end upto c.in-Go.child s x c.go_down-path.result
          (λ n i r. c.tight_law.ensures.goes_down g.N.Node.layout (graph_after s) (frame_after (blank_of sort) s) p c.loop.end upto n i r (good g before) (facts g before))
          (tested g at still)
          (next_leads body p c.in-Go.child c.node_law.ensures.sound (omega (arith, c.ranges.place)) (sym c.next-in-loop.ensures ∙ c.in-Go.is))
          v.run
          (record { sound = c.node_law.ensures.sound; framed = c.node_law.ensures.framed; no_link = c.unlinked_law.ensures.no_link x.node.body })
          e.parent e.child,
    )

pub returns-in-Here-clause-stretch : goal.returns-in-Here-clause-stretch
returns-in-Here-clause-stretch g c = let s = seen_of c.args.pass.now in let h = seen_of c.loop.pass in let k = seen_of c.visit-here.new.pass in let m = seen_of c.leave.new.pass in let a : ℕ = c.loop.pass.caller in let b : ℕ = c.visit-here.new.pass.caller in let d : ℕ = c.leave.new.pass.caller in
    let inv = c.loop.invariant in let v = c.visit-here.ensures in let e = c.leave.ensures in
    stretches_as c.args.pass.now.caller d s m (e.caller ∙ v.caller ∙ inv.1) (stretches_on b d s k m e.caller (stretches_on a b s h k v.caller inv.3 v.stretch) e.stretch)

pub returns-in-Here-clause-counts : goal.returns-in-Here-clause-counts
returns-in-Here-clause-counts g c = let s = seen_of c.args.pass.now in let h = seen_of c.loop.pass in let k = seen_of c.visit-here.new.pass in let m = seen_of c.leave.new.pass in let a : ℕ = c.loop.pass.caller in let b : ℕ = c.visit-here.new.pass.caller in let d : ℕ = c.leave.new.pass.caller in
    let inv = c.loop.invariant in let v = c.visit-here.ensures in let e = c.leave.ensures in
    counts_as c.args.pass.now.caller d ((c.loop.freed + c.visit-here.result.freed) % 2 ^ 32) s m (e.caller ∙ v.caller ∙ inv.1) (counts_next a b d c.loop.freed c.visit-here.result.freed s h k m v.caller e.caller inv.4 v.counts e.frees)

pub returns-in-Here-clause-upto : goal.returns-in-Here-clause-upto
returns-in-Here-clause-upto g c = c.visit-here.ensures.run.above

pub returns-in-Here-clause-tight : goal.returns-in-Here-clause-tight
returns-in-Here-clause-tight g c = λ quiet tight. let at = (goal.at.returns-in-Here-clause-tight g c).After-node_law in let before = (goal.at.returns-in-Here-clause-tight g c).After-tight_law in let shows = g.N.Node.body in let sort = sort_of g.N.Node.layout g.N.Node.ranged in let p : ℕ = c.args.place in
    let s = seen_of c.args.pass.now in let h = seen_of c.loop.pass in let k = seen_of c.visit-here.new.pass in let m = seen_of c.leave.new.pass in let me : ℕ = c.args.pass.now.caller in let a : ℕ = c.loop.pass.caller in let b : ℕ = c.visit-here.new.pass.caller in
    let inv = c.loop.invariant in let v = c.visit-here.ensures in let e = c.leave.ensures in let x = c.visit-here.result.path in let body : Body = shows x.node.body in let upto : ℕ = c.visit-here.result.end in
    let place : p ≤ top = omega (arith, c.ranges.place) in
    let still : Undisturbed a s k = quiet_before a inv.4.count v.counts.count s h k m inv.4.frees v.counts.frees (frees_as a b k m v.caller e.frees) (undisturbed_as a me s m (sym inv.1) quiet) in
    let is : IsTested sort shows s p c.loop.end x = tested g at still in
    let off : LeadsOn (record_of body) p → ⊥ = here_stays body p c.node_law.ensures.sound (sym c.next-in-loop.ensures ∙ c.in-Here.is) in
    tight_on sort me (suc upto) s m quiet
    (walk_ends sort shows a p c.loop.end upto s k x still is v.pair ((laws g before).facts k v.pass.sound) place c.node_law.ensures.sound (sym c.next-in-loop.ensures ∙ c.in-Here.is)
    (λ below. c.tight_law.ensures.ends g.N.Node.layout (graph_after s) (frame_after (blank_of sort) s) p c.loop.end upto x.node.node (record_of body) (good g before) (facts g before) is.comes is.is is.fits off v.run below)
    tight)
