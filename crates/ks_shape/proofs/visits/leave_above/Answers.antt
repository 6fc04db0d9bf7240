use Rattle.std.proofs.Common.{◌≡◌, ℕ, ◌∙◌, inl, sym, subst}
use Rattle.ks_history.specs.Hand.{AreOnce}
use Rattle.ks_history.specs.Own.{hand, drop_one}
use Rattle.ks_history.specs.Laws.Hand.{is_hand}
use Rattle.ks_arena.specs.Sound.{sort_of}
use Rattle.ks_arena.specs.Clauses.{seen_of}
use Rattle.ks_arena.specs.Visits.{held_at}
use Rattle.ks_shape.specs.Laws.Search.{Laws}
use Rattle.ks_shape.specs.Laws.Does.{searches_give}
use Rattle.ks_shape.proofs.Ways.{goes_alone, alone_stretch, alone_under}
use Rattle.ks_shape.proofs.visits.leave_above.Given.{Over}
use Rattle.ks_shape.proofs.visits.leave_above.Goals as goal
use Rattle.ks_shape.proofs.visits.leave_above.Goals.{After-leave}

laws : (g : Over) (c : After-leave g) → Laws (sort_of g.N.Node.layout g.N.Node.ranged) c.args.arena.now.table.shared.table_id.slots
laws g c = c.search_law.ensures (sort_of g.N.Node.layout g.N.Node.ranged) c.args.arena.now.table.shared.table_id.slots

hands : (g : Over) (c : After-leave g) → hand c.args.pass.now.caller (seen_of c.leave.new.pass) ≡ drop_one c.args.above.node (hand c.args.pass.now.caller (seen_of c.args.pass.now))
hands g c = subst (λ (z : ℕ). hand z (seen_of c.leave.new.pass) ≡ drop_one c.args.above.node (hand c.args.pass.now.caller (seen_of c.args.pass.now))) c.leave.ensures.caller c.leave.ensures.hand

pub returns-clause-way : goal.returns-clause-way
returns-clause-way g c = let at = (goal.at.returns-clause-way g c).After-leave in let path = c.requires.path in
    goes_alone (sort_of g.N.Node.layout g.N.Node.ranged) g.N.Node.body c.args.arena.now.table.shared.table_id.slots c.args.pass.now.caller c.args.place (laws g at) (seen_of c.args.pass.now) (seen_of c.leave.new.pass) (held_at c.args.visited.now) (held_at c.args.above) c.requires.pass.sound c.leave.ensures.pass.sound path.hands (path.live, path.matches) path.inside c.leave.ensures.gave (hands g at) c.leave.ensures.rest.still

pub returns-clause-stretch : goal.returns-clause-stretch
returns-clause-stretch g c = let at = (goal.at.returns-clause-stretch g c).After-leave in let path = c.requires.path in
    alone_stretch (sort_of g.N.Node.layout g.N.Node.ranged) g.N.Node.body c.args.arena.now.table.shared.table_id.slots c.args.pass.now.caller c.args.place (laws g at) (seen_of c.args.pass.now) (seen_of c.leave.new.pass) (held_at c.args.visited.now) (held_at c.args.above) c.requires.pass.sound c.leave.ensures.pass.sound path.hands (path.live, path.matches) path.inside c.leave.ensures.gave (hands g at)

pub returns-clause-under : goal.returns-clause-under
returns-clause-under g c = λ op start under. let at = (goal.at.returns-clause-under g c).After-leave in let path = c.requires.path in
    alone_under (sort_of g.N.Node.layout g.N.Node.ranged) g.N.Node.body c.args.arena.now.table.shared.table_id.slots c.args.pass.now.caller c.args.place (laws g at) (seen_of c.args.pass.now) (seen_of c.leave.new.pass) (held_at c.args.visited.now) (held_at c.args.above) c.requires.pass.sound c.leave.ensures.pass.sound path.hands (path.live, path.matches) path.inside c.leave.ensures.gave (hands g at) op start under

pub returns-clause-leaves : goal.returns-clause-leaves
returns-clause-leaves g c = searches_give c.args.pass.now.caller c.args.above.node (seen_of c.args.pass.now) (seen_of c.leave.new.pass) c.leave.ensures.gave

pub returns-clause-lies : goal.returns-clause-lies
returns-clause-lies g c = let at = (goal.at.returns-clause-lies g c).After-leave in let h = seen_of c.args.pass.now in let me = c.args.pass.now.caller in
    c.leave.ensures.slots c.args.visited.now.node (λ same. (subst AreOnce c.requires.path.hands (is_hand h me ((laws g at).turns h c.requires.pass.sound)).once).0 (inl (sym same))) ∙ c.requires.lies
