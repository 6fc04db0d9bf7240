use Rattle.std.proofs.Common.{◌≡◌, ◌∙◌, ℕ, suc, sym, ap, subst}
use Rattle.std.specs.Prelude.{Option}
use Rattle.ks_history.specs.declared.Event.TheVariants.{Give}
use Rattle.ks_history.specs.Done.{coupling}
use Rattle.ks_history.specs.Passes.{GrowsWith}
use Rattle.ks_history.specs.Underway.{Underway}
use Rattle.ks_history.specs.Laws.Stays.{lawful_in_turn}
use Rattle.ks_arena.specs.declared.held.Held.{Held as Hand}
use Rattle.ks_arena.specs.Sound.{sort_of}
use Rattle.ks_arena.specs.Clauses.{seen_of}
use Rattle.ks_shape.specs.OnWay.{IsOnWay}
use Rattle.ks_shape.specs.OnPath.{GaveIf, IsOnPath}
use Rattle.ks_shape.specs.Down.{IsDown}
use Rattle.ks_shape.specs.Laws.Down.{down_edge, down_give, down_take}
use Rattle.ks_shape.specs.Does.{MaySearch}
use Rattle.ks_shape.specs.Laws.Does.{does_on}
use Rattle.ks_coupling.proofs.try_descent.try_go_on.Goals as goal

pub let_go-requires-clause-path : goal.let_go-requires-clause-path
let_go-requires-clause-path g c = subst (λ (z : ℕ). IsOnPath (sort_of g.N.Node.layout g.N.Node.ranged) g.N.Node.body z c.args.place (seen_of c.try_step_down.new.pass) c.in-Ok.path) (sym c.try_step_down.ensures.caller) c.in-Ok.ensures.path

pub returns-in-Ok-clause-came : goal.returns-in-Ok-clause-came
returns-in-Ok-clause-came g c = λ start steps down. let sort = sort_of g.N.Node.layout g.N.Node.ranged in let slots : ℕ = c.args.arena.now.table.shared.table_id.slots in let n : ℕ = c.args.arena.now.nodes in let me : ℕ = c.args.pass.now.caller in let b : ℕ = c.try_step_down.new.pass.caller in let i : ℕ = c.args.held.node in let j : ℕ = c.args.child in
    let h = seen_of c.args.pass.now in let k = seen_of c.try_step_down.new.pass in let l = seen_of c.let_go.new.pass in let e = c.try_step_down.ensures in let o = c.in-Ok.ensures in let f = c.let_go.ensures in let y = c.let_go.result in let law = c.sound_law.ensures in let next = c.child_law.ensures in
    let gave : GrowsWith me (Give me i) k l = subst (λ (z : ℕ). GrowsWith z (Give z i) k l) e.caller (subst (λ (z : Option (Hand g.row.N.Denot)). GaveIf b z k l) o.parent f.gave) in
    let child : y.node ≡ j = ap (λ (z : Hand g.row.N.Denot). z.node) f.node ∙ o.took.0 in (
      subst (λ (z : ℕ). IsOnWay sort g.N.Node.body z c.args.place l y) e.caller f.way,
      subst (λ (z : ℕ). IsDown n me start l (suc (suc steps)) 1 (suc steps) z) (sym child)
          (down_give n me start k l (suc (suc steps)) 1 (suc steps) j i gave (lawful_in_turn l (law.lawful sort slots l f.pass.sound))
          (down_take n me start h k (suc steps) 1 (suc steps) j j next.below o.took.1 (lawful_in_turn k (law.lawful sort slots k e.pass.sound))
          (down_edge n me start h (suc steps) 1 steps i j next.node next.is next.among down))),
    )

pub returns-in-Ok-clause-under : goal.returns-in-Ok-clause-under
returns-in-Ok-clause-under g c = λ op start under. let k = seen_of c.try_step_down.new.pass in let l = seen_of c.let_go.new.pass in
    subst (λ (z : ℕ). Underway coupling z op start k → Underway coupling z op start l) c.try_step_down.ensures.caller (c.let_go.ensures.under op start) (c.try_step_down.ensures.under op start under)

pub returns-in-Err-clause-came : goal.returns-in-Err-clause-came
returns-in-Err-clause-came g c = λ start steps down. (c.in-Err.ensures.path, c.in-Err.ensures.busy start down.took.grows)

pub returns-in-Ok-clause-leaves : goal.returns-in-Ok-clause-leaves
returns-in-Ok-clause-leaves g c = does_on MaySearch c.args.pass.now.caller c.try_step_down.new.pass.caller (seen_of c.args.pass.now) (seen_of c.try_step_down.new.pass) (seen_of c.let_go.new.pass) c.try_step_down.ensures.caller c.try_step_down.ensures.leaves c.let_go.ensures.leaves
