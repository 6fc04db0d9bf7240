use Rattle.std.proofs.Common.{refl, sym, ap, subst}
use Rattle.ks_history.specs.declared.Op.TheVariants.{Del}
use Rattle.ks_history.specs.Map.{told}
use Rattle.ks_arena.specs.declared.held.Held.{Held as Hand}
use Rattle.ks_arena.specs.Sound.{sort_of}
use Rattle.ks_arena.specs.Clauses.{IsReady, seen_of}
use Rattle.ks_shape.specs.Laws.SearchEnd.{unbranched}
use Rattle.ks_shape.proofs.Concludes.{framed_before}
use Rattle.ks_shape.proofs.here.del_here.Goals as goal

pub del-found-requires : goal.del-found-requires
del-found-requires g c = unbranched (sort_of g.N.Node.layout g.N.Node.ranged) g.N.Node.body c.args.pass.now.caller c.args.place (seen_of c.args.pass.now) c.args.held c.requires.ends c.node_law.ensures.sound

pub conclude_found-number-requires-clause-ready : goal.conclude_found-number-requires-clause-ready
conclude_found-number-requires-clause-ready g c κs within = let x : Hand g.row.N.Denot = record { node = c.args.held.node; body = c.del-found.new.self; live = c.args.held.live } in
    subst (IsReady (sort_of g.N.Node.layout g.N.Node.ranged) g.N.Node.body c.args.arena.now.nodes c.args.pass.now.caller (seen_of c.args.pass.now) x (Del c.args.place)) (ap told (sym c.del-found.ensures.answer))
    (c.del_law.ensures x refl c.requires.ends.live c.del-found.ensures.body)

pub returns-clause-at : goal.returns-clause-at
returns-clause-at g c = λ template start under. let b = g.N.Node.body c.args.held.body in framed_before b (g.N.Node.body c.del-found.new.self) _ c.del-found.ensures.body (c.conclude_found-number.ensures.at template start under)
