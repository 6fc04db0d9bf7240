use Rattle.std.proofs.Common.{refl}
use Rattle.ks_history.specs.declared.Op.TheVariants.{Get}
use Rattle.ks_history.specs.Done.{coupling}
use Rattle.ks_history.specs.Laws.Underway.{left_of}
use Rattle.ks_arena.specs.Clauses.{seen_of}
use Rattle.ks_shape.specs.Does.{MaySearch}
use Rattle.ks_shape.specs.Laws.Does.{does_on}
use Rattle.ks_coupling.proofs.tries.try_get.Goals as goal

pub returns-in-Err-clause-tried : goal.returns-in-Err-clause-tried
returns-in-Err-clause-tried g c = let e = c.in-Err.ensures in record { left = left_of coupling c.args.pass.now.caller (Get c.args.place) (seen_of c.args.pass.now) (seen_of c.try_find.new.pass) (e.under (Get c.args.place)) e.came.0; cause = e.came.1 (Get c.args.place) refl }

pub returns-in-Ok-clause-leaves : goal.returns-in-Ok-clause-leaves
returns-in-Ok-clause-leaves g c = does_on MaySearch c.args.pass.now.caller c.try_find.new.pass.caller (seen_of c.args.pass.now) (seen_of c.try_find.new.pass) (seen_of c.get_here.new.pass) c.try_find.ensures.caller c.try_find.ensures.leaves c.get_here.ensures.leaves
