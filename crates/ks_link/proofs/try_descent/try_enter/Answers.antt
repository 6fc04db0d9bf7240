use Rattle.std.proofs.Common.{ℕ, sym, ap, ◌∙◌, arith}
use Rattle.ks_keysets.specs.Keyset.{record_at, IsLive}
use Rattle.ks_history.specs.declared.Event.TheVariants.{Take}
use Rattle.ks_history.specs.Trace.{graph_after}
use Rattle.ks_history.specs.Frames.{frame_after}
use Rattle.ks_history.specs.Done.{link_move, first_taken}
use Rattle.ks_history.specs.Laws.Underway.{underway_first, underway_others}
use Rattle.ks_node.specs.Edges.{record_of}
use Rattle.ks_arena.specs.Sound.{sort_of, blank_of}
use Rattle.ks_arena.specs.Clauses.{seen_of}
use Rattle.ks_shape.specs.Laws.Single.{record_is, takes}
use Rattle.ks_shape.specs.Laws.Makes.{makes_others, makes_with}
use Rattle.ks_link.proofs.Places.{root_low}
use Rattle.ks_link.proofs.Ways.{arrives}
use Rattle.ks_shape.specs.Does.{MaySearch}
use Rattle.ks_shape.specs.Laws.Does.{does_others, searches_take}
use Rattle.ks_link.proofs.try_descent.try_enter.Goals as goal

pub returns-in-Held-clause-entered : goal.returns-in-Held-clause-entered
returns-in-Held-clause-entered g c = let sort = sort_of g.N.Node.layout g.N.Node.ranged in let n : ℕ = c.args.arena.now.table.shared.table_id.slots in let shows = g.N.Node.body in let k = seen_of c.try_take.new.pass in let e = c.in-Held.ensures in let x = c.in-Held.root in let took = e.took in
    let live : IsLive (graph_after k) 0 = (record_of (shows x.body), ap (λ (i : ℕ). record_at (graph_after k) i) (sym took.node) ∙ record_is sort shows k x took.live took.matches) in
    let low = root_low (graph_after k) (frame_after (blank_of sort) k) (c.sound_law.ensures.facts sort n k e.pass.sound) live in
    (arrives sort shows c.args.pass.now.caller c.args.place 0 (seen_of c.args.pass.now) k x c.requires.pass.1 took (omega (arith, low)), took.node)

pub returns-in-Held-clause-under : goal.returns-in-Held-clause-under
returns-in-Held-clause-under g c = λ op. let me : ℕ = c.args.pass.now.caller in let h = seen_of c.args.pass.now in
    takes (sort_of g.N.Node.layout g.N.Node.ranged) g.N.Node.body link_move me 0 op h h (seen_of c.try_take.new.pass) c.in-Held.root (λ k e. first_taken e tt) c.requires.pass.1 c.in-Held.ensures.took (underway_first link_move me op h c.requires.pass.1)

pub returns-in-Held-clause-makes : goal.returns-in-Held-clause-makes
returns-in-Held-clause-makes g c = let me : ℕ = c.args.pass.now.caller in makes_with me (Take me 0) (seen_of c.args.pass.now) (seen_of c.try_take.new.pass) tt c.in-Held.ensures.took.grows

pub returns-in-Busy-clause-under : goal.returns-in-Busy-clause-under
returns-in-Busy-clause-under g c = λ op. let me : ℕ = c.args.pass.now.caller in let h = seen_of c.args.pass.now in
    underway_others link_move me op h h (seen_of c.try_take.new.pass) c.in-Busy.ensures.took.0.grows (underway_first link_move me op h c.requires.pass.1)

pub returns-in-Busy-clause-makes : goal.returns-in-Busy-clause-makes
returns-in-Busy-clause-makes g c = makes_others c.args.pass.now.caller (seen_of c.args.pass.now) (seen_of c.try_take.new.pass) c.in-Busy.ensures.took.0.grows

pub returns-in-Held-clause-leaves : goal.returns-in-Held-clause-leaves
returns-in-Held-clause-leaves g c = searches_take c.args.pass.now.caller 0 (seen_of c.args.pass.now) (seen_of c.try_take.new.pass) c.in-Held.ensures.took.grows

pub returns-in-Busy-clause-leaves : goal.returns-in-Busy-clause-leaves
returns-in-Busy-clause-leaves g c = does_others MaySearch c.args.pass.now.caller (seen_of c.args.pass.now) (seen_of c.try_take.new.pass) c.in-Busy.ensures.took.0.grows
