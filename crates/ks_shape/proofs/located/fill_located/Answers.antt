use Rattle.ks_arena.specs.Sound.{sort_of}
use Rattle.ks_arena.specs.Clauses.{seen_of}
use Rattle.ks_shape.specs.Fills.{ended_at}
use Rattle.ks_shape.specs.Laws.Located.{done_where, ended_within, where_within}
use Rattle.ks_shape.proofs.located.fill_located.Goals as goal

pub returns-in-Ok-clause-at : goal.returns-in-Ok-clause-at
returns-in-Ok-clause-at g c = λ template start under. done_where (g.N.Node.body (ended_at c.args.found).body) c.ended-node.result.1 c.ended-node.ensures.node c.ended-node.ensures.range (c.in-Ok.ensures.at template start under)

pub returns-in-Ok-clause-within : goal.returns-in-Ok-clause-within
returns-in-Ok-clause-within g c = where_within (g.N.Node.body (ended_at c.args.found).body) c.ended-node.result.1 c.args.place c.ended-node.ensures.range
    (ended_within (sort_of g.N.Node.layout g.N.Node.ranged) g.N.Node.body c.args.arena.now.nodes c.args.pass.now.caller c.args.place (seen_of c.args.pass.now) c.args.found c.requires.found)
