use Rattle.ks_history.specs.Trace.{graph_after}
use Rattle.ks_history.specs.Laws.Stays.{lawful_in_turn}
use Rattle.ks_history.specs.Laws.Begins.{by_others_keeps}
use Rattle.ks_history.specs.Laws.Hand.{is_hand}
use Rattle.ks_arena.specs.Sound.{sort_of}
use Rattle.ks_arena.specs.Clauses.{seen_of}
use Rattle.ks_arena.proofs.Calling.{put_full, add_full, full_at}
use Rattle.ks_history.specs.Laws.Dues.{full_kept}
use Rattle.ks_arena.proofs.arena.Arena.full_law.Goals as goal

pub returns-clause-put : goal.returns-clause-put
returns-clause-put g c = let p = c.args.pass.now in let r = c.requires in let are = lawful_in_turn (seen_of p) (c.sound_law.ensures.lawful (sort_of g.N.Node.layout g.N.Node.ranged) c.args.self.now.table.shared.table_id.slots (seen_of p) r.pass.sound) in
    put_full (sort_of g.N.Node.layout g.N.Node.ranged) g.N.Node.body c.args.self.now.nodes p.caller c.args.place (seen_of p) c.args.held.now ((is_hand (seen_of p) p.caller are).held c.args.held.now.node r.holds) r.body.0 r.body.1 r.inside c.node_law.ensures.sound r.here r.no_branch r.full r.absent r.none_free.0 r.none_free.1 r.none_free.2 r.none_free.3 c.args.value

pub returns-clause-add : goal.returns-clause-add
returns-clause-add g c = let p = c.args.pass.now in let r = c.requires in let are = lawful_in_turn (seen_of p) (c.sound_law.ensures.lawful (sort_of g.N.Node.layout g.N.Node.ranged) c.args.self.now.table.shared.table_id.slots (seen_of p) r.pass.sound) in
    add_full (sort_of g.N.Node.layout g.N.Node.ranged) g.N.Node.body c.args.self.now.nodes p.caller c.args.place (seen_of p) c.args.held.now ((is_hand (seen_of p) p.caller are).held c.args.held.now.node r.holds) r.body.0 r.body.1 r.inside c.node_law.ensures.sound r.here r.no_branch r.full r.absent r.none_free.0 r.none_free.1 r.none_free.2 r.none_free.3 c.args.value

pub returns-clause-still : goal.returns-clause-still
returns-clause-still g c = λ h grows so. let p = c.args.pass.now in let r = c.requires in let law = c.sound_law.ensures.lawful (sort_of g.N.Node.layout g.N.Node.ranged) c.args.self.now.table.shared.table_id.slots in
    let holds = (is_hand (seen_of p) p.caller (lawful_in_turn (seen_of p) (law (seen_of p) r.pass.sound))).held c.args.held.now.node r.holds in
    full_kept g.N.Node.layout (graph_after (seen_of p)) (graph_after h) c.args.held.now.node c.args.place (by_others_keeps p.caller c.args.held.now.node (seen_of p) h grows (lawful_in_turn h (law h so)) holds).state
    (full_at (sort_of g.N.Node.layout g.N.Node.ranged) g.N.Node.body c.args.self.now.nodes p.caller c.args.place (seen_of p) c.args.held.now holds r.body.0 r.body.1 r.inside c.node_law.ensures.sound r.here r.no_branch r.full r.absent r.none_free.0 r.none_free.1 r.none_free.2 r.none_free.3)
