use Rattle.std.specs.Prelude.{Some, None}
use Rattle.ks_arena.specs.Sound.{sort_of}
use Rattle.ks_arena.specs.Clauses.{seen_of}
use Rattle.ks_tidy.proofs.Steps.{pair_as}
use Rattle.ks_tidy.proofs.try_step.try_tidy_once.Goals as goal

pub try_tidy_root-requires-clause-pair : goal.try_tidy_root-requires-clause-pair
try_tidy_root-requires-clause-pair g c = pair_as (sort_of g.N.Node.layout g.N.Node.ranged) g.N.Node.body c.args.pass.now.caller c.args.place (seen_of c.args.pass.now) c.args.path None c.in-None.is c.requires.pair

pub try_tidy_child-requires-clause-pair : goal.try_tidy_child-requires-clause-pair
try_tidy_child-requires-clause-pair g c = pair_as (sort_of g.N.Node.layout g.N.Node.ranged) g.N.Node.body c.args.pass.now.caller c.args.place (seen_of c.args.pass.now) c.args.path (Some c.in-Some.parent) c.in-Some.is c.requires.pair
