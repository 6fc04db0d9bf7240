use Rattle.std.proofs.Common.{length, ap, arith}
use Rattle.ks_history.specs.declared.Op.TheVariants.{Swap}
use Rattle.ks_arena.specs.Clauses.{seen_of}
use Rattle.ks_giveup.proofs.Way.{ends_goes}
use Rattle.ks_shape.specs.Does.{MaySearch}
use Rattle.ks_shape.specs.Laws.Does.{does_on}
use Rattle.ks_giveup.proofs.calls.swap.Goals as goal

pub returns-clause-goes : goal.returns-clause-goes
returns-clause-goes g c = let e = c.find-held.ensures in
    ends_goes c.args.pass.now.caller c.find-held.new.pass.caller c.args.place (Swap c.args.place c.args.old c.args.new) (seen_of c.args.pass.now) (seen_of c.find-held.new.pass) (seen_of c.swap_here.new.pass) e.caller (omega (arith, ap length e.ends.alone)) e.goes c.swap_here.ensures.done

pub returns-clause-leaves : goal.returns-clause-leaves
returns-clause-leaves g c = does_on MaySearch c.args.pass.now.caller c.find-held.new.pass.caller (seen_of c.args.pass.now) (seen_of c.find-held.new.pass) (seen_of c.swap_here.new.pass) c.find-held.ensures.caller c.find-held.ensures.leaves c.swap_here.ensures.leaves
