use Rattle.ks_arena.specs.Sound.{sort_of}
use Rattle.ks_arena.specs.Clauses.{seen_of}
use Rattle.ks_shape.specs.Laws.Does.{searched_dels}
use Rattle.ks_link.proofs.calls_near.LinkMoveHintingArenaLink.del_from.Goals as goal

pub returns-clause-dels : goal.returns-clause-dels
returns-clause-dels g c = searched_dels (sort_of g.N.Node.layout g.N.Node.ranged) c.args.pass.now.caller (seen_of c.args.pass.now) (seen_of c.del_near.new.pass) c.del_near.ensures.leaves
