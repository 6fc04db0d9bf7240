use Rattle.ks_arena.specs.Clauses.{seen_of}
use Rattle.ks_shape.specs.Does.{MaySearch}
use Rattle.ks_shape.specs.Laws.Does.{does_on}
use Rattle.ks_coupling.proofs.calls.CouplingTemplateArenaTree.swap.Goals as goal

pub returns-clause-leaves : goal.returns-clause-leaves
returns-clause-leaves g c = does_on MaySearch c.args.pass.now.caller c.find-held.new.pass.caller (seen_of c.args.pass.now) (seen_of c.find-held.new.pass) (seen_of c.swap_here.new.pass) c.find-held.ensures.caller c.find-held.ensures.leaves c.swap_here.ensures.leaves
