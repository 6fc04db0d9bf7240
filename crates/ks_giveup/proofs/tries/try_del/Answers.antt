use Rattle.std.proofs.Common.{ℕ, refl, sym, subst, ◌≤◌, length, ap, arith}
use Rattle.ks_history.specs.declared.Op.{Op}
use Rattle.ks_history.specs.declared.Op.TheVariants.{Del}
use Rattle.ks_history.specs.Done.{Done, give_up}
use Rattle.ks_history.specs.Map.{told}
use Rattle.ks_history.specs.Underway.{Underway}
use Rattle.ks_history.specs.Laws.Underway.{left_of}
use Rattle.ks_arena.specs.Clauses.{seen_of}
use Rattle.ks_history.specs.Own.{hand}
use Rattle.ks_giveup.proofs.Way.{ends_goes}
use Rattle.ks_arena.specs.Sound.{sort_of}
use Rattle.ks_shape.specs.Laws.Does.{search_dels_on, searched_dels}
use Rattle.ks_giveup.proofs.tries.try_del.Goals as goal

pub returns-in-Err-clause-tried : goal.returns-in-Err-clause-tried
returns-in-Err-clause-tried g c = let e = c.in-Err.ensures in record { left = left_of give_up c.args.pass.now.caller (Del c.args.place) (seen_of c.args.pass.now) (seen_of c.try_find.new.pass) (e.under (Del c.args.place)) e.came.0; cause = e.came.1 (Del c.args.place) refl }

pub returns-in-Ok-clause-tried : goal.returns-in-Ok-clause-tried
returns-in-Ok-clause-tried g c = let s = seen_of c.args.pass.now in let h = seen_of c.try_find.new.pass in let k = seen_of c.try_del_alone.new.pass in let op : Op = Del c.args.place in let e = c.in-Ok.ensures in let x = c.try_del_alone.result in
    let under : Underway give_up c.try_find.new.pass.caller op s h = subst (λ (z : ℕ). Underway give_up z op s h) (sym e.caller) (e.under op) in
    subst (λ (z : ℕ). Done g.N.Node.layout give_up c.args.arena.now.nodes z op s k (told x.found) x.number) e.caller (c.try_del_alone.ensures.done give_up s under)

pub returns-in-Err-clause-goes : goal.returns-in-Err-clause-goes
returns-in-Err-clause-goes g c = c.in-Err.ensures.goes

pub returns-in-Ok-clause-goes : goal.returns-in-Ok-clause-goes
returns-in-Ok-clause-goes g c = let e = c.in-Ok.ensures in let k = seen_of c.try_find.new.pass in
    ends_goes c.args.pass.now.caller c.try_find.new.pass.caller c.args.place (Del c.args.place) (seen_of c.args.pass.now) k (seen_of c.try_del_alone.new.pass) e.caller (subst (λ (z : ℕ). length (hand z k) ≤ 1) (sym e.caller) (omega (arith, ap length e.came.alone))) e.goes c.try_del_alone.ensures.done

pub returns-in-Ok-clause-dels : goal.returns-in-Ok-clause-dels
returns-in-Ok-clause-dels g c = search_dels_on (sort_of g.N.Node.layout g.N.Node.ranged) c.args.pass.now.caller c.try_find.new.pass.caller (seen_of c.args.pass.now) (seen_of c.try_find.new.pass) (seen_of c.try_del_alone.new.pass) c.try_find.ensures.caller c.try_find.ensures.leaves c.try_del_alone.ensures.dels

pub returns-in-Err-clause-dels : goal.returns-in-Err-clause-dels
returns-in-Err-clause-dels g c = searched_dels (sort_of g.N.Node.layout g.N.Node.ranged) c.args.pass.now.caller (seen_of c.args.pass.now) (seen_of c.try_find.new.pass) c.try_find.ensures.leaves
