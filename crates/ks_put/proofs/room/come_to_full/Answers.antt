use Rattle.std.proofs.Common.{◌∙◌, ℕ, ap, sym, subst}
use Rattle.ks_flow.specs.declared.discipline.Tree.{Tree}
use Rattle.ks_arena.specs.declared.held.Pass.{Pass}
use Rattle.ks_arena.specs.Sound.{sort_of}
use Rattle.ks_arena.specs.Clauses.{seen_of}
use Rattle.ks_arena.specs.Visits.{held_at}
use Rattle.ks_shape.specs.OnWay.{IsOnWay}
use Rattle.ks_shape.specs.Stretches.{Stretches}
use Rattle.ks_shape.specs.Laws.Stretches.{stretches_as, stretches_both, stretches_on}
use Rattle.ks_shape.specs.Does.{DoesOnly, MaySearch}
use Rattle.ks_shape.specs.Laws.Does.{does_to}
use Rattle.ks_put.proofs.room.come_to_full.Goals as goal

pub loop-preserved : goal.loop-preserved
loop-preserved g c = let e = c.in-Ok.ensures in let s = seen_of c.args.pass.now in let q = c.next-in-loop.new.pass in let k = seen_of c.go_below.new.pass in let inv = c.loop.invariant in let same = c.next-in-loop.ensures.same in (
  e.pass,
  e.caller ∙ ap (λ (z : Pass g.row.N.Denot Tree). z.caller) same ∙ inv.1,
  subst (λ (z : ℕ). IsOnWay (sort_of g.N.Node.layout g.N.Node.ranged) g.N.Node.body z c.args.place k (held_at c.in-Ok.below)) (sym e.caller) e.way,
  e.lies,
  e.room,
  stretches_on q.caller c.go_below.new.pass.caller s (seen_of q) k e.caller (subst (λ (z : Pass g.row.N.Denot Tree). Stretches z.caller s (seen_of z)) (sym same) inv.5) e.stretch,
  does_to MaySearch q.caller c.go_below.new.pass.caller s (seen_of q) k e.caller (subst (λ (z : Pass g.row.N.Denot Tree). DoesOnly MaySearch z.caller s (seen_of z)) (sym same) inv.6) e.leaves,
)

pub returns-in-Err-clause-leaves : goal.returns-in-Err-clause-leaves
returns-in-Err-clause-leaves g c = let e = c.in-Err.ensures in let s = seen_of c.args.pass.now in let q = c.next-in-loop.new.pass in let k = seen_of c.go_below.new.pass in let inv = c.loop.invariant in let same = c.next-in-loop.ensures.same in
    subst (λ (z : ℕ). DoesOnly MaySearch z s k) (e.caller ∙ ap (λ (z : Pass g.row.N.Denot Tree). z.caller) same ∙ inv.1)
    (does_to MaySearch q.caller c.go_below.new.pass.caller s (seen_of q) k e.caller (subst (λ (z : Pass g.row.N.Denot Tree). DoesOnly MaySearch z.caller s (seen_of z)) (sym same) inv.6) e.leaves)

pub returns-in-Err-clause-stretch : goal.returns-in-Err-clause-stretch
returns-in-Err-clause-stretch g c = let e = c.in-Err.ensures in let s = seen_of c.args.pass.now in let q = c.next-in-loop.new.pass in let k = seen_of c.go_below.new.pass in let inv = c.loop.invariant in let same = c.next-in-loop.ensures.same in
    stretches_as c.args.pass.now.caller q.caller s k (ap (λ (z : Pass g.row.N.Denot Tree). z.caller) same ∙ inv.1)
    (stretches_both q.caller s (seen_of q) k (subst (λ (z : Pass g.row.N.Denot Tree). Stretches z.caller s (seen_of z)) (sym same) inv.5) e.stretch)
