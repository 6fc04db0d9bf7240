use Rattle.std.proofs.Common.{refl, sym, ap, ◌∙◌, subst, ◌≡◌, ◌++◌, ℕ, List, arith}
use mathlib.Core.Option.{none}
use Rattle.atomic_table.specs.Table.{step}
use Rattle.ks_history.specs.declared.Event.{Event}
use Rattle.ks_history.specs.declared.Event.TheVariants.{Call}
use Rattle.ks_history.specs.Trace.{graph_after, state_with}
use Rattle.ks_history.specs.Write.{written}
use Rattle.ks_history.specs.Due.{IsDue}
use Rattle.ks_history.specs.Stays.{StaysHeld}
use Rattle.ks_history.specs.Laws.Stays.{cond_here, cond_else}
use Rattle.ks_arena.specs.Sound.{sort_of, blank_of}
use Rattle.ks_arena.specs.Clauses.{Matches, KeptBut}
use Rattle.ks_arena.specs.Plays.{decided}
use Rattle.ks_arena.proofs.Moves.{decides_ok}
use Rattle.ks_arena.proofs.Ready.{may_call}
use Rattle.ks_arena.proofs.Hold.{holds_it, makes_grows}
use Rattle.ks_arena.proofs.After.{matches_live, pass_again, Counted, counted, stays_then}
use Rattle.ks_arena.proofs.Rest.{decided_of}
use Rattle.ks_arena.proofs.arena.Arena.count.Given.{Over}
use Rattle.ks_arena.proofs.arena.Arena.count.Goals as goal
use Rattle.ks_arena.proofs.arena.Arena.count.Goals.{After-fetch_add}

pub fetch_add-requires-clause-may : goal.fetch_add-requires-clause-may
fetch_add-requires-clause-may g c κs within = let p = c.args.pass.now in let r = c.requires.pass in let n : ℕ = c.args.self.now.table.shared.table_id.slots in
    let same : c.args.self.now.nodes ≡ n = omega arith in (
      r.table,
      omega arith,
      decides_ok (sort_of g.N.Node.layout g.N.Node.ranged) g.D.Discipline.begins g.D.Discipline.step g.N.Node.body n _ p.seat.me p.caller c.args.held.now.node g.W.Decision.op g.W.Decision.reply _ c.requires.said r.own r.bare r.few (holds_it _ _ _ _ _ r.carries r.slots c.requires.holds)
          (may_call (sort_of g.N.Node.layout g.N.Node.ranged) c.laws.ensures c.walks_law.ensures.opening n p.caller c.args.held.now.node g.W.Decision.op g.W.Decision.reply p.seat.me.0.seen c.requires.ready.meets (subst (λ (z : ℕ). IsDue g.N.Node.layout z p.seat.me.0.seen (Call p.caller c.args.held.now.node g.W.Decision.op g.W.Decision.reply)) same c.requires.ready.due)),
    )

abbrev event : (g : Over) (c : After-fetch_add g) → Event
event g c = Call c.args.pass.now.caller c.args.held.now.node g.W.Decision.op g.W.Decision.reply

told : (g : Over) (c : After-fetch_add g) → decided (sort_of g.N.Node.layout g.N.Node.ranged) g.D.Discipline.begins g.D.Discipline.step g.N.Node.body (step c.args.self.now.table.shared.table_id.slots 0 1 0 none) (event g c) c.args.pass.now.seat.me c.fetch_add.result c.fetch_add.new.seat.me
told g c = subst (λ (z : Event). decided (sort_of g.N.Node.layout g.N.Node.ranged) g.D.Discipline.begins g.D.Discipline.step g.N.Node.body (step c.args.self.now.table.shared.table_id.slots 0 1 0 none) z c.args.pass.now.seat.me c.fetch_add.result c.fetch_add.new.seat.me) c.requires.said c.fetch_add.ensures.seat.2

after : (g : Over) (c : After-fetch_add g) → Counted (sort_of g.N.Node.layout g.N.Node.ranged) g.D.Discipline.begins g.D.Discipline.step c.args.self.now.table.shared.table_id.slots c.args.pass.now.caller (event g c) c.args.pass.now.seat.me c.fetch_add.new.seat.me
after g c = let r = c.requires.pass in counted (sort_of g.N.Node.layout g.N.Node.ranged) g.D.Discipline.begins g.D.Discipline.step _ c.args.pass.now.caller (event g c) c.args.pass.now.seat.me c.fetch_add.new.seat.me refl (λ h j. refl) (λ h. refl) r.own r.carries r.slots (told g c).1 (told g c).0

pub returns-clause-pass : goal.returns-clause-pass
returns-clause-pass g c = let a = after g c in pass_again (sort_of g.N.Node.layout g.N.Node.ranged) g.D.Discipline.begins g.D.Discipline.step _ _ c.args.pass.now _ c.fetch_add.new.seat.me c.requires.pass refl c.fetch_add.ensures.seat.0 refl a.follows a.carries a.slots a.sounds a.knows

kept : (g : Over) (c : After-fetch_add g) → KeptBut c.args.held.now.node c.args.pass.now.caller c.args.pass.now.seat.me.0.seen c.fetch_add.new.seat.me.0.seen
kept g c = λ j ne x. let a = after g c in let i : ℕ = c.args.held.now.node in let h : List Event = a.grows.rest ++ c.args.pass.now.seat.me.0.seen in let k = a.before j x in
    subst (StaysHeld c.args.pass.now.caller j c.args.pass.now.seat.me.0.seen) (sym a.grows.is) (stays_then c.args.pass.now.caller (event g c) c.args.pass.now.seat.me.0.seen h j k k.turn (cond_else j i (state_with (written g.W.Decision.op g.W.Decision.reply) (graph_after h i)) (graph_after h j) ne) (λ blank. refl))

pub returns-clause-decided : goal.returns-clause-decided
returns-clause-decided g c = let a = after g c in decided_of c.args.self.now c.args.pass.now _ c.requires.pass c.args.held.now g.W.Decision.op g.W.Decision.reply _
    (record { grows = makes_grows _ _ _ _ c.args.pass.now.caller c.requires.pass.own (told g c).0; number = (told g c).2 }) a.hand_is a.mine_is (kept g c)

pub returns-clause-body : goal.returns-clause-body
returns-clause-body g c = let a = after g c in let i : ℕ = c.args.held.now.node in let h : List Event = a.grows.rest ++ c.args.pass.now.seat.me.0.seen in let o = g.W.Decision.op in let y = g.W.Decision.reply in let r = c.requires.pass in
    let k = a.before i (holds_it _ _ _ _ _ r.carries r.slots c.requires.holds) in
    subst (λ (z : List Event). Matches (sort_of g.N.Node.layout g.N.Node.ranged) g.N.Node.body z c.args.held.now) (sym a.grows.is) record {
      is = matches_live (sort_of g.N.Node.layout g.N.Node.ranged) g.N.Node.body c.args.held.now.live _ _ c.args.held.now.body c.requires.ready.live
          (cond_here i i (state_with (written o y) (graph_after h i)) (graph_after h i) refl ∙ ap (state_with (written o y)) k.state ∙ c.requires.ready.state) (k.frame (blank_of (sort_of g.N.Node.layout g.N.Node.ranged)) ∙ c.requires.ready.frame);
    }
