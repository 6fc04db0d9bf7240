use Rattle.ks_history.specs.Laws.Stays.{lawful_in_turn}
use Rattle.ks_history.specs.Laws.Hand.{is_hand}
use Rattle.ks_arena.specs.Sound.{sort_of}
use Rattle.ks_arena.specs.Clauses.{seen_of}
use Rattle.ks_arena.proofs.Parts.{part_ready}
use Rattle.ks_arena.proofs.arena.Arena.part_law.Goals as goal

pub returns : goal.returns
returns g c = let p = c.args.pass.now in let r = c.requires in let are = lawful_in_turn (seen_of p) (c.sound_law.ensures.lawful (sort_of g.N.Node.layout g.N.Node.ranged) c.args.self.now.table.shared.table_id.slots (seen_of p) r.pass.sound) in
    part_ready (sort_of g.N.Node.layout g.N.Node.ranged) g.N.Node.body c.args.self.now.nodes p.caller c.args.low c.args.last (seen_of p) c.args.held.now c.args.pairs.now ((is_hand (seen_of p) p.caller are).held c.args.held.now.node r.holds) r.body.0 r.body.1 r.inside c.node_law.ensures.sound r.here r.pairs
