use Rattle.ks_arena.specs.Clauses.{seen_of}
use Rattle.ks_shape.specs.Does.{MaySearch}
use Rattle.ks_shape.specs.Laws.Does.{does_on}
use Rattle.ks_coupling.proofs.descent.go_on.Goals as goal

pub returns-clause-leaves : goal.returns-clause-leaves
returns-clause-leaves g c = does_on MaySearch c.args.pass.now.caller c.visit_below-below.new.pass.caller (seen_of c.args.pass.now) (seen_of c.visit_below-below.new.pass) (seen_of c.leave_above.new.pass) c.visit_below-below.ensures.caller c.visit_below-below.ensures.leaves c.leave_above.ensures.leaves
