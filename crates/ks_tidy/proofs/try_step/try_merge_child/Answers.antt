use Rattle.std.proofs.Common.{length, arith, ap}
use Rattle.ks_arena.specs.Clauses.{seen_of}
use Rattle.ks_shape.specs.Laws.Stretches.{stretches_here}
use Rattle.ks_shape.specs.Laws.Frees.{frees_here}
use Rattle.ks_arena.specs.Sound.{sort_of}
use Rattle.ks_shape.specs.Does.{MayDel}
use Rattle.ks_shape.specs.Laws.Does.{does_none}
use Rattle.ks_tidy.proofs.try_step.try_merge_child.Goals as goal

pub returns-in-None-right_of-clause-stretch : goal.returns-in-None-right_of-clause-stretch
returns-in-None-right_of-clause-stretch g c = stretches_here c.args.pass.now.caller (seen_of c.args.pass.now) (omega (arith, ap length c.requires.pair.path.hands))

pub returns-in-None-right_of-clause-frees : goal.returns-in-None-right_of-clause-frees
returns-in-None-right_of-clause-frees g c = frees_here c.args.pass.now.caller (seen_of c.args.pass.now)

pub returns-in-None-right_of-clause-dels : goal.returns-in-None-right_of-clause-dels
returns-in-None-right_of-clause-dels g c = λ low. does_none (MayDel (sort_of g.N.Node.layout g.N.Node.ranged)) c.args.pass.now.caller (seen_of c.args.pass.now)
