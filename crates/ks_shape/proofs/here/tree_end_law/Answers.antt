use Rattle.std.proofs.Common.{arith}
use Rattle.ks_arena.specs.Sound.{sort_of}
use Rattle.ks_arena.specs.Clauses.{seen_of}
use Rattle.ks_shape.specs.Laws.OnWay.{ends_here}
use Rattle.ks_shape.proofs.here.tree_end_law.Goals as goal

pub returns : goal.returns
returns g c = let sort = sort_of g.N.Node.layout g.N.Node.ranged in let p = c.args.pass.now in let h = seen_of p in
    ends_here sort g.N.Node.body p.caller c.args.place h c.args.held.now c.requires.way (c.sound_law.ensures.facts sort c.args.arena.now.table.shared.table_id.slots h c.requires.pass.sound) (omega (arith, c.ranges.place)) c.requires.here
