use Rattle.std.proofs.Common.{ℕ, arith, sym, subst}
use Rattle.ks_history.specs.declared.Op.{Op}
use Rattle.ks_history.specs.declared.Op.TheVariants.{Del}
use Rattle.ks_history.specs.Alone.{ActsAlone}
use Rattle.ks_history.specs.Laws.Alone.{alone_then}
use Rattle.ks_history.specs.Done.{Done, coupling}
use Rattle.ks_history.specs.Map.{told}
use Rattle.ks_history.specs.Underway.{Underway}
use Rattle.ks_arena.specs.Sound.{sort_of}
use Rattle.ks_arena.specs.Clauses.{seen_of}
use Rattle.ks_shape.specs.Laws.Stretches.{stretches_begins}
use Rattle.ks_tidy.specs.Pair.{IsPair}
use Rattle.ks_shape.specs.Laws.Does.{does_on}
use Rattle.ks_shape.specs.Does.{MayDel}
use Rattle.ks_coupling.proofs.calls.CouplingTemplateArenaTree.del.Goals as goal

pub del_on-requires-clause-pair : goal.del_on-requires-clause-pair
del_on-requires-clause-pair g c = subst (λ (z : ℕ). IsPair (sort_of g.N.Node.layout g.N.Node.ranged) g.N.Node.body z c.args.place (seen_of c.come_down-path.new.pass) c.come_down-path.result.path) (sym c.come_down-path.ensures.caller) c.come_down-path.ensures.pair

pub returns-clause-done : goal.returns-clause-done
returns-clause-done g c = let s = seen_of c.args.pass.now in let h = seen_of c.come_down-path.new.pass in let k = seen_of c.del_on.new.pass in let op : Op = Del c.args.place in let e = c.come_down-path.ensures in let x = c.del_on.result in
    let under : Underway coupling c.come_down-path.new.pass.caller op s h = subst (λ (z : ℕ). Underway coupling z op s h) (sym e.caller) (e.stretch coupling op (omega arith)) in
    subst (λ (z : ℕ). Done g.N.Node.layout coupling c.args.arena.now.nodes z op s k (told x.found) x.number) e.caller (c.del_on.ensures.done coupling s under)

pub returns-clause-tidy : goal.returns-clause-tidy
returns-clause-tidy g c = λ leaves removed alone. let me : ℕ = c.args.pass.now.caller in let s = seen_of c.args.pass.now in let h = seen_of c.come_down-path.new.pass in let k = seen_of c.del_on.new.pass in
    let then : ActsAlone me h k = alone_then me s h k (stretches_begins me s h c.come_down-path.ensures.stretch) c.del_on.ensures.begins alone in
    c.del_on.ensures.tidy removed (subst (λ (z : ℕ). ActsAlone z h k) (sym c.come_down-path.ensures.caller) then)

pub returns-clause-dels : goal.returns-clause-dels
returns-clause-dels g c = does_on (MayDel (sort_of g.N.Node.layout g.N.Node.ranged)) c.args.pass.now.caller c.come_down-path.new.pass.caller (seen_of c.args.pass.now) (seen_of c.come_down-path.new.pass) (seen_of c.del_on.new.pass) c.come_down-path.ensures.caller c.come_down-path.ensures.dels c.del_on.ensures.dels
