use Rattle.std.proofs.Common.{refl, ◌≤◌, ℕ, length, ap, arith, sym, subst}
use Rattle.ks_history.specs.declared.Op.TheVariants.{Get}
use Rattle.ks_history.specs.Done.{give_up}
use Rattle.ks_history.specs.Laws.Underway.{left_of}
use Rattle.ks_arena.specs.Clauses.{seen_of}
use Rattle.ks_history.specs.Own.{hand}
use Rattle.ks_giveup.proofs.Way.{ends_goes}
use Rattle.ks_shape.specs.Does.{MaySearch}
use Rattle.ks_shape.specs.Laws.Does.{does_on}
use Rattle.ks_giveup.proofs.tries.try_get.Goals as goal

pub returns-in-Err-clause-tried : goal.returns-in-Err-clause-tried
returns-in-Err-clause-tried g c = let e = c.in-Err.ensures in record { left = left_of give_up c.args.pass.now.caller (Get c.args.place) (seen_of c.args.pass.now) (seen_of c.try_find.new.pass) (e.under (Get c.args.place)) e.came.0; cause = e.came.1 (Get c.args.place) refl }

pub returns-in-Err-clause-goes : goal.returns-in-Err-clause-goes
returns-in-Err-clause-goes g c = c.in-Err.ensures.goes

pub returns-in-Ok-clause-goes : goal.returns-in-Ok-clause-goes
returns-in-Ok-clause-goes g c = let e = c.in-Ok.ensures in let k = seen_of c.try_find.new.pass in
    ends_goes c.args.pass.now.caller c.try_find.new.pass.caller c.args.place (Get c.args.place) (seen_of c.args.pass.now) k (seen_of c.get_here.new.pass) e.caller (subst (λ (z : ℕ). length (hand z k) ≤ 1) (sym e.caller) (omega (arith, ap length e.came.alone))) e.goes c.get_here.ensures.done

pub returns-in-Ok-clause-leaves : goal.returns-in-Ok-clause-leaves
returns-in-Ok-clause-leaves g c = does_on MaySearch c.args.pass.now.caller c.try_find.new.pass.caller (seen_of c.args.pass.now) (seen_of c.try_find.new.pass) (seen_of c.get_here.new.pass) c.try_find.ensures.caller c.try_find.ensures.leaves c.get_here.ensures.leaves
