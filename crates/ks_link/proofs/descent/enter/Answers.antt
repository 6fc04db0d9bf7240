use Rattle.ks_history.specs.Done.{link_move}
use Rattle.ks_history.specs.Laws.Underway.{underway_first}
use Rattle.ks_arena.specs.Sound.{sort_of}
use Rattle.ks_arena.specs.Clauses.{seen_of}
use Rattle.ks_arena.specs.Visits.{held_at}
use Rattle.ks_link.proofs.Ways.{root_arrives}
use Rattle.ks_link.proofs.descent.enter.Goals as goal

pub returns-clause-way : goal.returns-clause-way
returns-clause-way g c = let sort = sort_of g.N.Node.layout g.N.Node.ranged in let k = seen_of c.visit_root.new.pass in let e = c.visit_root.ensures in
    root_arrives sort g.N.Node.body c.args.pass.now.caller c.args.place k (held_at c.visit_root.result) e.way e.root (c.sound_law.ensures.facts sort c.args.arena.now.table.shared.table_id.slots k e.pass.sound)

pub returns-clause-under : goal.returns-clause-under
returns-clause-under g c = λ op. let h = seen_of c.args.pass.now in c.visit_root.ensures.under link_move op h (underway_first link_move c.args.pass.now.caller op h c.requires.pass.1)
