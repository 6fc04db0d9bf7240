use Rattle.ks_history.specs.Done.{coupling}
use Rattle.ks_history.specs.Laws.Underway.{underway_first}
use Rattle.ks_arena.specs.Clauses.{seen_of}
use Rattle.ks_arena.specs.Visits.{held_at}
use Rattle.std.proofs.Common.{ap, sym, subst, ℕ, ◌∙◌}
use Rattle.ks_flow.specs.declared.discipline.Tree.{Tree}
use Rattle.ks_arena.specs.declared.held.Pass.{Pass}
use Rattle.ks_history.specs.Underway.{Underway}
use Rattle.ks_arena.specs.Sound.{sort_of}
use Rattle.ks_shape.specs.OnWay.{IsOnWay}
use Rattle.ks_shape.specs.Does.{DoesOnly, MaySearch}
use Rattle.ks_shape.specs.Laws.Does.{does_to}
use Rattle.ks_coupling.proofs.descent.find.Goals as goal

pub loop-init : goal.loop-init
loop-init g c = let e = c.visit_root-visited.ensures in let s = seen_of c.args.pass.now in let h = seen_of c.visit_root-visited.new.pass in (
  e.pass,
  e.caller,
  subst (λ (z : ℕ). IsOnWay (sort_of g.N.Node.layout g.N.Node.ranged) g.N.Node.body z c.args.place h (held_at c.visit_root-visited.result)) (sym e.caller) e.way,
  λ op. subst (λ (z : ℕ). Underway coupling z op s h) (sym e.caller) (e.under coupling op s (underway_first coupling c.args.pass.now.caller op s c.requires.pass.1)),
  subst (λ (z : ℕ). DoesOnly MaySearch z s h) (sym e.caller) e.leaves,
  e.lies,
)

pub loop-preserved : goal.loop-preserved
loop-preserved g c = let sort = sort_of g.N.Node.layout g.N.Node.ranged in let e = c.go_on-visited.ensures in let s = seen_of c.args.pass.now in let q = c.next-in-loop.new.pass in let k = seen_of c.go_on-visited.new.pass in let inv = c.loop.invariant in let same = c.next-in-loop.ensures.same in (
  e.pass,
  e.caller ∙ ap (λ (z : Pass g.row.N.Denot Tree). z.caller) same ∙ inv.1,
  subst (λ (z : ℕ). IsOnWay sort g.N.Node.body z c.args.place k (held_at c.go_on-visited.result)) (sym e.caller) e.way,
  (λ op. subst (λ (z : ℕ). Underway coupling z op s k) (sym e.caller) (e.under op s (subst (λ (z : Pass g.row.N.Denot Tree). Underway coupling z.caller op s (seen_of z)) (sym same) (inv.3 op)))),
  does_to MaySearch q.caller c.go_on-visited.new.pass.caller s (seen_of q) k e.caller (subst (λ (z : Pass g.row.N.Denot Tree). DoesOnly MaySearch z.caller s (seen_of z)) (sym same) inv.4) e.leaves,
  e.lies,
)
