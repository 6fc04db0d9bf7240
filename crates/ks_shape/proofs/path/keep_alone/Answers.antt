use Rattle.std.proofs.Common.{◌≡◌, ◌≤◌, ℕ, [], ◌∷◌, length, List, ap, subst, arith}
use Rattle.std.specs.Prelude.{Option, Some, None}
use Rattle.ks_history.specs.Own.{hand, drop_one}
use Rattle.ks_arena.specs.declared.held.Held.{Held as Hand}
use Rattle.ks_arena.specs.Sound.{sort_of}
use Rattle.ks_arena.specs.Clauses.{seen_of, hand_of}
use Rattle.ks_shape.specs.Laws.Search.{Laws}
use Rattle.ks_shape.specs.Laws.Stretches.{stretches_here}
use Rattle.ks_shape.specs.OnPath.{numbers}
use Rattle.ks_shape.proofs.Ways.{goes_alone, alone_stretch, alone_under}
use Rattle.ks_shape.proofs.path.keep_alone.Given.{Over}
use Rattle.ks_shape.proofs.path.keep_alone.Goals as goal
use Rattle.ks_shape.proofs.path.keep_alone.Goals.{After-at}
use Rattle.ks_shape.specs.Does.{MaySearch}
use Rattle.ks_shape.specs.Laws.Does.{does_none, searches_give}

laws : (g : Over) (c : After-at g) → Laws (sort_of g.N.Node.layout g.N.Node.ranged) c.args.arena.now.table.shared.table_id.slots
laws g c = c.search_law.ensures (sort_of g.N.Node.layout g.N.Node.ranged) c.args.arena.now.table.shared.table_id.slots

both : (g : Over) (c : After-at g) → hand c.args.pass.now.caller (seen_of c.args.pass.now) ≡ c.args.node.node ∷ c.in-Some.other.node ∷ []
both g c = subst (λ (z : Option (Hand g.row.N.Denot)). hand c.args.pass.now.caller (seen_of c.args.pass.now) ≡ c.args.node.node ∷ numbers z) c.in-Some.is c.requires.hands

hands : (g : Over) (c : After-at g) → hand c.args.pass.now.caller (seen_of c.give.new.pass) ≡ drop_one c.in-Some.other.node (hand c.args.pass.now.caller (seen_of c.args.pass.now))
hands g c = subst (λ (z : ℕ). hand z (seen_of c.give.new.pass) ≡ drop_one c.in-Some.other.node (hand c.args.pass.now.caller (seen_of c.args.pass.now))) c.give.ensures.caller c.give.ensures.hand

pub returns-in-Some-clause-way : goal.returns-in-Some-clause-way
returns-in-Some-clause-way g c = goes_alone (sort_of g.N.Node.layout g.N.Node.ranged) g.N.Node.body c.args.arena.now.table.shared.table_id.slots c.args.pass.now.caller c.args.place (laws g c) (seen_of c.args.pass.now) (seen_of c.give.new.pass) c.args.node c.in-Some.other c.requires.pass.sound c.give.ensures.pass.sound (both g c) c.requires.node c.requires.inside c.give.ensures.gave (hands g c) c.give.ensures.rest.still

pub returns-in-Some-clause-stretch : goal.returns-in-Some-clause-stretch
returns-in-Some-clause-stretch g c = alone_stretch (sort_of g.N.Node.layout g.N.Node.ranged) g.N.Node.body c.args.arena.now.table.shared.table_id.slots c.args.pass.now.caller c.args.place (laws g c) (seen_of c.args.pass.now) (seen_of c.give.new.pass) c.args.node c.in-Some.other c.requires.pass.sound c.give.ensures.pass.sound (both g c) c.requires.node c.requires.inside c.give.ensures.gave (hands g c)

pub returns-in-Some-clause-under : goal.returns-in-Some-clause-under
returns-in-Some-clause-under g c = λ op start under. alone_under (sort_of g.N.Node.layout g.N.Node.ranged) g.N.Node.body c.args.arena.now.table.shared.table_id.slots c.args.pass.now.caller c.args.place (laws g c) (seen_of c.args.pass.now) (seen_of c.give.new.pass) c.args.node c.in-Some.other c.requires.pass.sound c.give.ensures.pass.sound (both g c) c.requires.node c.requires.inside c.give.ensures.gave (hands g c) op start under

few : {N : Type 0} (o : Option (Hand N)) (hs : List ℕ) (i : ℕ) → hs ≡ i ∷ numbers o → length hs ≤ 3
few None hs i is = omega (arith, ap length is)
few (Some y) hs i is = omega (arith, ap length is)

pub returns-in_default-clause-stretch : goal.returns-in_default-clause-stretch
returns-in_default-clause-stretch g c = stretches_here c.args.pass.now.caller (seen_of c.args.pass.now) (few c.args.other (hand_of c.args.pass.now) c.args.node.node c.requires.hands)

pub returns-in-Some-clause-leaves : goal.returns-in-Some-clause-leaves
returns-in-Some-clause-leaves g c = searches_give c.args.pass.now.caller c.in-Some.other.node (seen_of c.args.pass.now) (seen_of c.give.new.pass) c.give.ensures.gave

pub returns-in_default-clause-leaves : goal.returns-in_default-clause-leaves
returns-in_default-clause-leaves g c = does_none MaySearch c.args.pass.now.caller (seen_of c.args.pass.now)
