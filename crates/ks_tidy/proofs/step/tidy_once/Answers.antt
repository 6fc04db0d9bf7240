use Rattle.std.specs.Prelude.{Some, None}
use Rattle.ks_arena.specs.Sound.{sort_of}
use Rattle.ks_arena.specs.Clauses.{seen_of}
use Rattle.ks_tidy.proofs.Steps.{did_with, pair_as}
use Rattle.ks_tidy.proofs.step.tidy_once.Goals as goal

pub tidy_root-requires-clause-pair : goal.tidy_root-requires-clause-pair
tidy_root-requires-clause-pair g c = pair_as (sort_of g.N.Node.layout g.N.Node.ranged) g.N.Node.body c.args.pass.now.caller c.args.place (seen_of c.args.pass.now) c.args.path None c.in-None.is c.requires.pair

pub tidy_child-requires-clause-pair : goal.tidy_child-requires-clause-pair
tidy_child-requires-clause-pair g c = pair_as (sort_of g.N.Node.layout g.N.Node.ranged) g.N.Node.body c.args.pass.now.caller c.args.place (seen_of c.args.pass.now) c.args.path (Some c.in-Some.parent) c.in-Some.is c.requires.pair

pub returns-in-None-clause-step : goal.returns-in-None-clause-step
returns-in-None-clause-step g c = did_with (sort_of g.N.Node.layout g.N.Node.ranged) g.N.Node.body c.args.pass.now.caller (seen_of c.args.pass.now) (seen_of c.tidy_root.new.pass) c.args.thorough c.args.path None c.tidy_root.result c.in-None.is c.tidy_root.ensures.step

pub returns-in-Some-clause-step : goal.returns-in-Some-clause-step
returns-in-Some-clause-step g c = did_with (sort_of g.N.Node.layout g.N.Node.ranged) g.N.Node.body c.args.pass.now.caller (seen_of c.args.pass.now) (seen_of c.tidy_child.new.pass) c.args.thorough c.args.path (Some c.in-Some.parent) c.tidy_child.result c.in-Some.is c.tidy_child.ensures.step
