use Rattle.std.proofs.Common.{◌≡◌, ◌∙◌, ℕ, List, sym, ap, subst}
use Rattle.std.specs.Prelude.{Option}
use Rattle.ks_history.specs.declared.Event.{Event}
use Rattle.ks_history.specs.Done.{coupling}
use Rattle.ks_history.specs.Underway.{Underway}
use Rattle.ks_history.specs.Laws.Begins.{begins_self}
use Rattle.ks_history.specs.Laws.Descent.{took_none}
use Rattle.ks_history.specs.Laws.Underway.{underway_first}
use Rattle.ks_arena.specs.declared.held.Held.{Held as Hand}
use Rattle.ks_arena.specs.Sound.{sort_of}
use Rattle.ks_arena.specs.Clauses.{seen_of}
use Rattle.ks_shape.specs.OnWay.{IsOnWay}
use Rattle.ks_shape.specs.OnPath.{GaveIf, IsOnPath}
use Rattle.ks_shape.specs.Down.{IsDown}
use Rattle.ks_shape.specs.Laws.Down.{down_root}
use Rattle.ks_shape.specs.Does.{MaySearch}
use Rattle.ks_shape.specs.Laws.Does.{does_on}
use Rattle.ks_coupling.proofs.try_descent.try_begin.Goals as goal

pub let_go-requires-clause-path : goal.let_go-requires-clause-path
let_go-requires-clause-path g c = subst (λ (z : ℕ). IsOnPath (sort_of g.N.Node.layout g.N.Node.ranged) g.N.Node.body z c.args.place (seen_of c.try_enter.new.pass) c.in-Ok.root) (sym c.try_enter.ensures.caller) c.in-Ok.ensures.path

pub returns-in-Ok-clause-came : goal.returns-in-Ok-clause-came
returns-in-Ok-clause-came g c = let n : ℕ = c.args.arena.now.nodes in let me : ℕ = c.args.pass.now.caller in let b : ℕ = c.try_enter.new.pass.caller in let h = seen_of c.args.pass.now in let k = seen_of c.try_enter.new.pass in let l = seen_of c.let_go.new.pass in let o = c.in-Ok.ensures in let f = c.let_go.ensures in let y = c.let_go.result in
    let same : l ≡ k = subst (λ (z : Option (Hand g.row.N.Denot)). GaveIf b z k l) o.root f.gave in
    let root : y.node ≡ 0 = ap (λ (z : Hand g.row.N.Denot). z.node) f.node ∙ o.took.0 in (
      subst (λ (z : ℕ). IsOnWay (sort_of g.N.Node.layout g.N.Node.ranged) g.N.Node.body z c.args.place l y) c.try_enter.ensures.caller f.way,
      subst (λ (t : List Event). IsDown n me h t 1 1 0 y.node) (sym same) (subst (λ (z : ℕ). IsDown n me h k 1 1 0 z) (sym root) (down_root n me h h k 0 o.took.1 (took_none me h))),
    )

pub returns-in-Ok-clause-under : goal.returns-in-Ok-clause-under
returns-in-Ok-clause-under g c = λ op. let me : ℕ = c.args.pass.now.caller in let h = seen_of c.args.pass.now in let k = seen_of c.try_enter.new.pass in let l = seen_of c.let_go.new.pass in
    subst (λ (z : ℕ). Underway coupling z op h k → Underway coupling z op h l) c.try_enter.ensures.caller (c.let_go.ensures.under op h) (c.try_enter.ensures.under coupling op h (underway_first coupling me op h c.requires.pass.1))

pub returns-in-Err-clause-came : goal.returns-in-Err-clause-came
returns-in-Err-clause-came g c = let h = seen_of c.args.pass.now in (c.in-Err.ensures.path, c.in-Err.ensures.busy h (begins_self h))

pub returns-in-Err-clause-under : goal.returns-in-Err-clause-under
returns-in-Err-clause-under g c = λ op. let h = seen_of c.args.pass.now in c.try_enter.ensures.under coupling op h (underway_first coupling c.args.pass.now.caller op h c.requires.pass.1)

pub returns-in-Ok-clause-leaves : goal.returns-in-Ok-clause-leaves
returns-in-Ok-clause-leaves g c = does_on MaySearch c.args.pass.now.caller c.try_enter.new.pass.caller (seen_of c.args.pass.now) (seen_of c.try_enter.new.pass) (seen_of c.let_go.new.pass) c.try_enter.ensures.caller c.try_enter.ensures.leaves c.let_go.ensures.leaves
