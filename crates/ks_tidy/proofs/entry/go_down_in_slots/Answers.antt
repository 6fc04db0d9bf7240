use Rattle.std.proofs.Common.{◌∙◌, ℕ, length, refl, ap, subst, arith}
use Rattle.ks_flow.specs.declared.discipline.Tree.{Tree}
use Rattle.ks_arena.specs.declared.held.Pass.{Pass}
use Rattle.ks_arena.specs.Sound.{sort_of}
use Rattle.ks_arena.specs.Clauses.{seen_of}
use Rattle.ks_arena.specs.Visits.{held_at}
use Rattle.ks_shape.specs.OnWay.{IsOnWay}
use Rattle.ks_shape.specs.Laws.Stretches.{stretches_here}
use Rattle.ks_shape.specs.Does.{MaySearch}
use Rattle.ks_shape.specs.Laws.Does.{does_none}
use Rattle.ks_tidy.proofs.Passing.{leaves_on, stretch_on}
use Rattle.ks_tidy.proofs.entry.go_down_in_slots.Goals as goal

pub loop-init : goal.loop-init
loop-init g c = let me : ℕ = c.args.pass.now.caller in let h = seen_of c.args.pass.now in let r = c.requires in (
  r.pass,
  refl,
  r.way,
  r.lies,
  r.goes,
  stretches_here me h (omega (arith, ap length r.way.alone)),
  does_none MaySearch me h,
)

pub loop-preserved : goal.loop-preserved
loop-preserved g c = let me : ℕ = c.args.pass.now.caller in let e = c.in-Ok.ensures in let s = seen_of c.args.pass.now in let k = seen_of c.go_below.new.pass in let inv = c.loop.invariant in let same = c.only_child.ensures.same in let own = ap (λ (z : Pass g.row.N.Denot Tree). z.caller) same ∙ inv.1 in (
  e.pass,
  e.caller ∙ own,
  subst (λ (z : ℕ). IsOnWay (sort_of g.N.Node.layout g.N.Node.ranged) g.N.Node.body z c.args.place k (held_at c.in-Ok.next.visited)) own e.way,
  e.lies,
  e.goes,
  stretch_on me s c.loop.pass c.only_child.new.pass k inv.1 same inv.5 e.stretch,
  leaves_on me s c.loop.pass c.only_child.new.pass k inv.1 same inv.6 e.leaves,
)

pub returns-in-Err-clause-leaves : goal.returns-in-Err-clause-leaves
returns-in-Err-clause-leaves g c = let inv = c.loop.invariant in leaves_on c.args.pass.now.caller (seen_of c.args.pass.now) c.loop.pass c.only_child.new.pass (seen_of c.go_below.new.pass) inv.1 c.only_child.ensures.same inv.6 c.in-Err.ensures.leaves

pub returns-in-Err-clause-stretch : goal.returns-in-Err-clause-stretch
returns-in-Err-clause-stretch g c = let inv = c.loop.invariant in stretch_on c.args.pass.now.caller (seen_of c.args.pass.now) c.loop.pass c.only_child.new.pass (seen_of c.go_below.new.pass) inv.1 c.only_child.ensures.same inv.5 c.in-Err.ensures.stretch
