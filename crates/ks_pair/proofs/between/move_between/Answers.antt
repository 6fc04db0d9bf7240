use Rattle.std.proofs.Common.{ℕ, ◌≡◌, ◌∙◌, refl, sym, ap, subst, true, false}
use Rattle.std.specs.Prelude.{Option, Some, None, is_some}
use Rattle.ks_history.specs.Trace.{held, turn_after}
use Rattle.ks_history.specs.Laws.Hand.{is_hand}
use Rattle.ks_history.specs.Laws.Stays.{lawful_in_turn}
use Rattle.ks_node.specs.Body.{Body, value_at}
use Rattle.ks_arena.specs.declared.held.Held.{Held as Hand}
use Rattle.ks_arena.specs.Sound.{sort_of}
use Rattle.ks_arena.specs.Clauses.{seen_of}
use Rattle.ks_history.specs.declared.Op.TheVariants.{Move}
use Rattle.ks_history.specs.Laws.Underway.{underway_both}
use Rattle.ks_arena.specs.Laws.Writes.{ends_below_own}
use Rattle.ks_pair.proofs.Decided.{one_of, other_of, three_may}
use Rattle.ks_pair.proofs.Ready.{no_branch, none_of, nothing_between, kept_between, full_between, moved_between}
use Rattle.ks_pair.proofs.between.move_between.Goals as goal

pub conclude_between-number-requires-clause-ready : goal.conclude_between-number-requires-clause-ready
conclude_between-number-requires-clause-ready g c κs within = let sort = sort_of g.N.Node.layout g.N.Node.ranged in let shows = g.N.Node.body in let n : ℕ = c.args.arena.now.nodes in let me : ℕ = c.args.pass.now.caller in let h = seen_of c.args.pass.now in let x : Hand g.row.N.Denot = c.args.first in let y : Hand g.row.N.Denot = c.args.second in let r = c.requires in
    let hold = is_hand h me (lawful_in_turn h (c.sound_law.ensures.lawful sort c.args.arena.now.table.shared.table_id.slots h r.pass.sound)) in
    let mine : turn_after h x.node ≡ held me = hold.held x.node (one_of me x.node y.node h r.holds) in let mine' : turn_after h y.node ≡ held me = hold.held y.node (other_of me x.node y.node h r.holds) in
    nothing_between sort shows n me c.args.from c.args.to h x y mine mine' r.first r.second c.node_law.ensures.sound c.node_law-2.ensures.sound r.holds.0 (sym c.get.ensures ∙ c.in_default.is)

pub conclude_between-number-requires-then-is_some-clause-ready : goal.conclude_between-number-requires-then-is_some-clause-ready
conclude_between-number-requires-then-is_some-clause-ready g c κs within = let sort = sort_of g.N.Node.layout g.N.Node.ranged in let shows = g.N.Node.body in let n : ℕ = c.args.arena.now.nodes in let me : ℕ = c.args.pass.now.caller in let h = seen_of c.args.pass.now in let x : Hand g.row.N.Denot = c.args.first in let y : Hand g.row.N.Denot = c.args.second in let r = c.requires in
    let hold = is_hand h me (lawful_in_turn h (c.sound_law.ensures.lawful sort c.args.arena.now.table.shared.table_id.slots h r.pass.sound)) in
    let mine : turn_after h x.node ≡ held me = hold.held x.node (one_of me x.node y.node h r.holds) in let mine' : turn_after h y.node ≡ held me = hold.held y.node (other_of me x.node y.node h r.holds) in
    kept_between sort shows n me c.args.from c.args.to h x y mine mine' r.first r.second c.node_law.ensures.sound c.node_law-2.ensures.sound r.holds.0 c.in-Some.value (sym c.get.ensures ∙ c.in-Some.is) (subst (λ (z : Option ℕ). is_some z ≡ true) c.get-2.ensures (sym c.is_some.ensures ∙ c.if-is_some.true))

pub conclude_between-number-requires-then-refused-clause-ready : goal.conclude_between-number-requires-then-refused-clause-ready
conclude_between-number-requires-then-refused-clause-ready g c κs within = let sort = sort_of g.N.Node.layout g.N.Node.ranged in let shows = g.N.Node.body in let n : ℕ = c.args.arena.now.nodes in let me : ℕ = c.args.pass.now.caller in let h = seen_of c.args.pass.now in let x : Hand g.row.N.Denot = c.args.first in let y : Hand g.row.N.Denot = c.args.second in let r = c.requires in
    let hold = is_hand h me (lawful_in_turn h (c.sound_law.ensures.lawful sort c.args.arena.now.table.shared.table_id.slots h r.pass.sound)) in
    let mine : turn_after h x.node ≡ held me = hold.held x.node (one_of me x.node y.node h r.holds) in let mine' : turn_after h y.node ≡ held me = hold.held y.node (other_of me x.node y.node h r.holds) in
    let was = r.refused c.if-refused.true in
    full_between sort shows n me c.args.from c.args.to h x y mine mine' r.first r.second c.node_law.ensures.sound c.node_law-2.ensures.sound r.holds.0 c.in-Some.value (sym c.get.ensures ∙ c.in-Some.is) (none_of (value_at (shows y.body).pairs c.args.to) (subst (λ (z : Option ℕ). is_some z ≡ false) c.get-2.ensures (sym c.is_some.ensures ∙ c.if-is_some.false))) (sym c.is_full.ensures ∙ c.if-is_full.true) was.0 was.1 was.2 was.3

pub returns-then-is_full-clause-step : goal.returns-then-is_full-clause-step
returns-then-is_full-clause-step g c = (c.if-refused.false, λ template from to start under. let me : ℕ = c.args.pass.now.caller in underway_both template me (Move from to) start (seen_of c.args.pass.now) (seen_of c.give_both.new.pass) under (c.give_both.ensures.stretch template (Move from to) (three_may template from to)))

pub put-requires-clause-no_branch : goal.put-requires-clause-no_branch
put-requires-clause-no_branch g c = no_branch (sort_of g.N.Node.layout g.N.Node.ranged) g.N.Node.body (seen_of c.args.pass.now) c.args.second c.args.to c.requires.second c.node_law-2.ensures.sound

pub put-requires-clause-below_own : goal.put-requires-clause-below_own
put-requires-clause-below_own g c = let ends = c.requires.second.ends in ends_below_own (g.N.Node.body c.args.second.body) c.args.to c.node_law-2.ensures.sound ends.0 ends.1 ends.2

pub del-requires : goal.del-requires
del-requires g c = no_branch (sort_of g.N.Node.layout g.N.Node.ranged) g.N.Node.body (seen_of c.args.pass.now) c.args.first c.args.from c.requires.first c.node_law.ensures.sound

pub conclude_between-number-requires-2-clause-ready : goal.conclude_between-number-requires-2-clause-ready
conclude_between-number-requires-2-clause-ready g c κs within = let sort = sort_of g.N.Node.layout g.N.Node.ranged in let shows = g.N.Node.body in let n : ℕ = c.args.arena.now.nodes in let me : ℕ = c.args.pass.now.caller in let h = seen_of c.args.pass.now in let x : Hand g.row.N.Denot = c.args.first in let y : Hand g.row.N.Denot = c.args.second in let r = c.requires in
    let hold = is_hand h me (lawful_in_turn h (c.sound_law.ensures.lawful sort c.args.arena.now.table.shared.table_id.slots h r.pass.sound)) in
    let mine : turn_after h x.node ≡ held me = hold.held x.node (one_of me x.node y.node h r.holds) in let mine' : turn_after h y.node ≡ held me = hold.held y.node (other_of me x.node y.node h r.holds) in
    let x' : Hand g.row.N.Denot = record { node = x.node; body = c.del.new.self; live = x.live } in let y' : Hand g.row.N.Denot = record { node = y.node; body = c.put.new.self; live = y.live } in
    moved_between sort shows n me c.args.from c.args.to h x y mine mine' r.first r.second c.node_law.ensures.sound c.node_law-2.ensures.sound r.holds.0 c.in-Some.value (sym c.get.ensures ∙ c.in-Some.is) (none_of (value_at (shows y.body).pairs c.args.to) (subst (λ (z : Option ℕ). is_some z ≡ false) c.get-2.ensures (sym c.is_some.ensures ∙ c.if-is_some.false))) x' y' refl r.first.live refl r.second.live c.del.ensures.body c.put.ensures.body
