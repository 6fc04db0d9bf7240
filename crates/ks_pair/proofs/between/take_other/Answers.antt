use Rattle.std.proofs.Common.{ℕ, ◌≡◌, List, refl, sym, inl, subst}
use Rattle.ks_history.specs.declared.Op.TheVariants.{Move}
use Rattle.ks_history.specs.Done.{give_up}
use Rattle.ks_history.specs.Own.{hand}
use Rattle.ks_history.specs.Passes.{Has}
use Rattle.ks_history.specs.Laws.Underway.{underway_both, underway_others}
use Rattle.ks_arena.specs.Sound.{sort_of}
use Rattle.ks_arena.specs.Clauses.{seen_of}
use Rattle.ks_shape.specs.Does.{MaySearch}
use Rattle.ks_shape.specs.Laws.Does.{does_on, does_others, searches_take}
use Rattle.ks_shape.specs.Stretches.{Stretches}
use Rattle.ks_pair.specs.Both.{HoldsTwo}
use Rattle.ks_pair.specs.Laws.Ends.{admits}
use Rattle.ks_pair.proofs.Decided.{takes_other, three_may, took_two}
use Rattle.ks_pair.proofs.between.take_other.Goals as goal

pub returns-then-ends_at-clause-leaves : goal.returns-then-ends_at-clause-leaves
returns-then-ends_at-clause-leaves g c = let sort = sort_of g.N.Node.layout g.N.Node.ranged in let shows = g.N.Node.body in let me : ℕ = c.args.pass.now.caller in let h = seen_of c.args.pass.now in let t = c.try_take.ensures in let d : ℕ = c.try_take.new.pass.caller in let k = seen_of c.try_take.new.pass in let i : ℕ = c.args.held.node in
    searches_take me c.args.other h k c.in-Held.ensures.took.grows

pub returns-then-ends_at-clause-came : goal.returns-then-ends_at-clause-came
returns-then-ends_at-clause-came g c = let sort = sort_of g.N.Node.layout g.N.Node.ranged in let shows = g.N.Node.body in let me : ℕ = c.args.pass.now.caller in let h = seen_of c.args.pass.now in let t = c.try_take.ensures in let d : ℕ = c.try_take.new.pass.caller in let k = seen_of c.try_take.new.pass in let i : ℕ = c.args.held.node in
    let facts = c.sound_law.ensures.facts sort c.args.arena.now.table.shared.table_id.slots k t.pass.sound in let at = c.requires.ends in
    let has : Has (hand me h) i = subst (λ (z : List ℕ). Has z i) (sym at.alone) (inl refl) in (
      subst (λ (z : ℕ). HoldsTwo z k i c.in-Held.taken.node) (sym t.caller) (took_two sort shows me i c.args.other h k c.in-Held.taken at.alone c.if-other-held.false c.in-Held.ensures.took),
      admits sort shows c.args.first k c.args.held facts at.live (t.rest.still c.args.held has at.matches) c.ranged_law.ensures (at.within.0, at.within.1, at.here),
      admits sort shows c.args.second k c.in-Held.taken facts c.in-Held.ensures.took.live c.in-Held.ensures.took.matches c.ends_at.ensures.ranged (c.ends_at.ensures.ends c.if-ends_at.true),
    )

pub returns-then-ends_at-clause-under : goal.returns-then-ends_at-clause-under
returns-then-ends_at-clause-under g c = λ from to start under. let sort = sort_of g.N.Node.layout g.N.Node.ranged in let shows = g.N.Node.body in let me : ℕ = c.args.pass.now.caller in let h = seen_of c.args.pass.now in let t = c.try_take.ensures in let d : ℕ = c.try_take.new.pass.caller in let k = seen_of c.try_take.new.pass in let i : ℕ = c.args.held.node in
    takes_other sort shows me i c.args.other from to start h k c.in-Held.taken c.requires.ends.alone c.in-Held.ensures.took under

pub returns-else-ends_at-clause-leaves : goal.returns-else-ends_at-clause-leaves
returns-else-ends_at-clause-leaves g c = let sort = sort_of g.N.Node.layout g.N.Node.ranged in let shows = g.N.Node.body in let me : ℕ = c.args.pass.now.caller in let h = seen_of c.args.pass.now in let t = c.try_take.ensures in let d : ℕ = c.try_take.new.pass.caller in let k = seen_of c.try_take.new.pass in let i : ℕ = c.args.held.node in
    does_on MaySearch me d h k (seen_of c.give_both.new.pass) t.caller (searches_take me c.args.other h k c.in-Held.ensures.took.grows) c.give_both.ensures.leaves

pub returns-else-ends_at-clause-under : goal.returns-else-ends_at-clause-under
returns-else-ends_at-clause-under g c = λ from to start under. let sort = sort_of g.N.Node.layout g.N.Node.ranged in let shows = g.N.Node.body in let me : ℕ = c.args.pass.now.caller in let h = seen_of c.args.pass.now in let t = c.try_take.ensures in let d : ℕ = c.try_take.new.pass.caller in let k = seen_of c.try_take.new.pass in let i : ℕ = c.args.held.node in
    let l = seen_of c.give_both.new.pass in
    underway_both give_up me (Move from to) start k l (takes_other sort shows me i c.args.other from to start h k c.in-Held.taken c.requires.ends.alone c.in-Held.ensures.took under) (subst (λ (z : ℕ). Stretches z k l) t.caller c.give_both.ensures.stretch give_up (Move from to) (three_may give_up from to))

pub returns-in-Busy-clause-leaves : goal.returns-in-Busy-clause-leaves
returns-in-Busy-clause-leaves g c = let sort = sort_of g.N.Node.layout g.N.Node.ranged in let shows = g.N.Node.body in let me : ℕ = c.args.pass.now.caller in let h = seen_of c.args.pass.now in let t = c.try_take.ensures in let d : ℕ = c.try_take.new.pass.caller in let k = seen_of c.try_take.new.pass in let i : ℕ = c.args.held.node in
    does_on MaySearch me d h k (seen_of c.give_last-in-Busy.new.pass) t.caller (does_others MaySearch me h k c.in-Busy.ensures.took.0.grows) c.give_last-in-Busy.ensures.leaves

pub returns-in-Busy-clause-under : goal.returns-in-Busy-clause-under
returns-in-Busy-clause-under g c = λ from to start under. let sort = sort_of g.N.Node.layout g.N.Node.ranged in let shows = g.N.Node.body in let me : ℕ = c.args.pass.now.caller in let h = seen_of c.args.pass.now in let t = c.try_take.ensures in let d : ℕ = c.try_take.new.pass.caller in let k = seen_of c.try_take.new.pass in let i : ℕ = c.args.held.node in
    let l = seen_of c.give_last-in-Busy.new.pass in
    underway_both give_up me (Move from to) start k l (underway_others give_up me (Move from to) start h k c.in-Busy.ensures.took.0.grows under) (subst (λ (z : ℕ). Stretches z k l) t.caller c.give_last-in-Busy.ensures.stretch give_up (Move from to) (three_may give_up from to))

pub returns-in-Gone-clause-leaves : goal.returns-in-Gone-clause-leaves
returns-in-Gone-clause-leaves g c = let sort = sort_of g.N.Node.layout g.N.Node.ranged in let shows = g.N.Node.body in let me : ℕ = c.args.pass.now.caller in let h = seen_of c.args.pass.now in let t = c.try_take.ensures in let d : ℕ = c.try_take.new.pass.caller in let k = seen_of c.try_take.new.pass in let i : ℕ = c.args.held.node in
    does_on MaySearch me d h k (seen_of c.give_last-in-Gone.new.pass) t.caller (does_others MaySearch me h k c.in-Gone.ensures.took.0.grows) c.give_last-in-Gone.ensures.leaves

pub returns-in-Gone-clause-under : goal.returns-in-Gone-clause-under
returns-in-Gone-clause-under g c = λ from to start under. let sort = sort_of g.N.Node.layout g.N.Node.ranged in let shows = g.N.Node.body in let me : ℕ = c.args.pass.now.caller in let h = seen_of c.args.pass.now in let t = c.try_take.ensures in let d : ℕ = c.try_take.new.pass.caller in let k = seen_of c.try_take.new.pass in let i : ℕ = c.args.held.node in
    let l = seen_of c.give_last-in-Gone.new.pass in
    underway_both give_up me (Move from to) start k l (underway_others give_up me (Move from to) start h k c.in-Gone.ensures.took.0.grows under) (subst (λ (z : ℕ). Stretches z k l) t.caller c.give_last-in-Gone.ensures.stretch give_up (Move from to) (three_may give_up from to))
