use Rattle.ks_history.specs.Laws.Begins.{good_now}
use Rattle.ks_arena.specs.Sound.{sort_of}
use Rattle.ks_arena.specs.Clauses.{seen_of}
use Rattle.ks_link.proofs.Ways.{ends_along}
use Rattle.ks_link.proofs.descent.span_law.Goals as goal

pub returns : goal.returns
returns g c = λ q from upto. let sort = sort_of g.N.Node.layout g.N.Node.ranged in let n = c.args.arena.now.table.shared.table_id.slots in let p = c.args.pass.now in let h = seen_of p in let law = c.sound_law.ensures in let sound = c.requires.pass.sound in
    ends_along sort g.N.Node.body p.caller c.args.low q h c.args.held.now c.requires.way (law.facts sort n h sound) c.node_law.ensures.sound c.requires.ends.here (good_now (law.good sort n h sound)) from upto
