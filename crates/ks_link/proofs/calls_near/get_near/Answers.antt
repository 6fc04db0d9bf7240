use Rattle.ks_history.specs.declared.Op.TheVariants.{Get}
use Rattle.ks_history.specs.Done.{link_move}
use Rattle.ks_arena.specs.Sound.{sort_of}
use Rattle.ks_arena.specs.Clauses.{seen_of}
use Rattle.ks_shape.specs.Does.{MaySearch}
use Rattle.ks_shape.specs.Laws.Does.{does_on}
use Rattle.ks_shape.specs.Laws.Located.{finishes_on, hint_on, was_above_on}
use Rattle.ks_link.proofs.calls_near.get_near.Goals as goal

pub returns-clause-leaves : goal.returns-clause-leaves
returns-clause-leaves g c = let e = c.find_near-held.ensures in does_on MaySearch c.args.pass.now.caller c.find_near-held.new.pass.caller (seen_of c.args.pass.now) (seen_of c.find_near-held.new.pass) (seen_of c.get_located.new.pass) e.caller e.leaves c.get_located.ensures.leaves

pub returns-clause-at : goal.returns-clause-at
returns-clause-at g c = let e = c.find_near-held.ensures in finishes_on c.get_located.result link_move (seen_of c.args.pass.now) c.args.pass.now.caller c.find_near-held.new.pass.caller (seen_of c.find_near-held.new.pass) e.caller (e.under (Get c.args.place)) c.get_located.ensures.at

pub returns-clause-above : goal.returns-clause-above
returns-clause-above g c = let sort = sort_of g.N.Node.layout g.N.Node.ranged in let e = c.find_near-held.ensures in let s = seen_of c.args.pass.now in let k = seen_of c.find_near-held.new.pass in let l = seen_of c.get_located.new.pass in
    rw c.get_located.ensures.above (was_above_on sort c.args.place s k l c.get_located.ensures.over.begins c.find_near-held.result.above e.above)

pub returns-clause-first : goal.returns-clause-first
returns-clause-first g c = let e = c.find_near-held.ensures in hint_on c.args.arena.now.nodes c.args.pass.now.caller (seen_of c.args.pass.now) (seen_of c.find_near-held.new.pass) (seen_of c.get_located.new.pass) e.leaves.grows c.get_located.ensures.over.begins c.args.hint e.first
