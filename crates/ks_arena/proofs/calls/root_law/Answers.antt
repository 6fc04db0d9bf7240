use Rattle.std.proofs.Common.{arith}
use Rattle.ks_arena.specs.Sound.{sort_of}
use Rattle.ks_arena.proofs.Calling.{root_inset}
use Rattle.ks_arena.proofs.calls.root_law.Goals as goal

pub returns : goal.returns
returns g c = λ root h node live m. root_inset (sort_of g.N.Node.layout g.N.Node.ranged) g.N.Node.body h root c.args.place live m node (omega (arith, c.ranges.place))
