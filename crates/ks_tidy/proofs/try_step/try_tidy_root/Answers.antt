use Rattle.std.proofs.Common.{length, arith, ap, ◌∙◌, sym}
use Rattle.ks_arena.specs.Clauses.{seen_of}
use Rattle.ks_shape.specs.Laws.Stretches.{stretches_here}
use Rattle.ks_shape.specs.Laws.Frees.{frees_here}
use Rattle.ks_arena.specs.Sound.{sort_of}
use Rattle.ks_shape.specs.Does.{MayDel}
use Rattle.ks_shape.specs.Laws.Does.{does_none}
use Rattle.ks_tidy.proofs.try_step.try_tidy_root.Goals as goal

pub returns-else-low-clause-stretch : goal.returns-else-low-clause-stretch
returns-else-low-clause-stretch g c = stretches_here c.args.pass.now.caller (seen_of c.args.pass.now) (omega (arith, ap length c.requires.pair.path.hands))

pub returns-else-low-clause-frees : goal.returns-else-low-clause-frees
returns-else-low-clause-frees g c = frees_here c.args.pass.now.caller (seen_of c.args.pass.now)

pub returns-in-None-clause-stretch : goal.returns-in-None-clause-stretch
returns-in-None-clause-stretch g c = stretches_here c.args.pass.now.caller (seen_of c.args.pass.now) (omega (arith, ap length c.requires.pair.path.hands))

pub returns-in-None-clause-frees : goal.returns-in-None-clause-frees
returns-in-None-clause-frees g c = frees_here c.args.pass.now.caller (seen_of c.args.pass.now)

pub returns-else-low-clause-dels : goal.returns-else-low-clause-dels
returns-else-low-clause-dels g c = does_none (MayDel (sort_of g.N.Node.layout g.N.Node.ranged)) c.args.pass.now.caller (seen_of c.args.pass.now)

pub returns-in-None-clause-dels : goal.returns-in-None-clause-dels
returns-in-None-clause-dels g c = does_none (MayDel (sort_of g.N.Node.layout g.N.Node.ranged)) c.args.pass.now.caller (seen_of c.args.pass.now)

pub returns-then-low-clause-dels : goal.returns-then-low-clause-dels
returns-then-low-clause-dels g c = c.try_merge_own.ensures.dels (sym c.is_low-low.ensures ∙ c.if-low.true)
