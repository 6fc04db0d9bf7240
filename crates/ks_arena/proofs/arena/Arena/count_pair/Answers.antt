use Rattle.std.proofs.Common.{refl, sym, subst, ◌≡◌, ◌++◌, ℕ, List, arith}
use mathlib.Core.Option.{none}
use Rattle.atomic_table.specs.Table.{step}
use Rattle.ks_history.specs.declared.Event.{Event}
use Rattle.ks_history.specs.declared.Event.TheVariants.{Twin}
use Rattle.ks_history.specs.declared.Op.{Op}
use Rattle.ks_history.specs.declared.Reply.{Reply}
use Rattle.ks_history.specs.Trace.{graph_after}
use Rattle.ks_history.specs.Write.{written, taken_out, put_in}
use Rattle.ks_history.specs.Due.{IsDue}
use Rattle.ks_history.specs.Stays.{StaysHeld}
use Rattle.ks_history.specs.Laws.Stays.{twice_else}
use Rattle.ks_arena.specs.Sound.{sort_of}
use Rattle.ks_arena.specs.Clauses.{Matches}
use Rattle.ks_arena.specs.AtTwo.{second_of, KeptButTwo, SecondMatches}
use Rattle.ks_arena.specs.Plays.{decided}
use Rattle.ks_arena.proofs.Moves.{twin_ok}
use Rattle.ks_arena.proofs.Ready.{may_twin}
use Rattle.ks_arena.proofs.Hold.{holds_it, makes_grows}
use Rattle.ks_arena.proofs.After.{pass_again, Counted, counted, stays_then}
use Rattle.ks_arena.proofs.Rest.{decided_at_two}
use Rattle.ks_arena.proofs.AtTwo.{first_is, second_is}
use Rattle.ks_arena.proofs.arena.Arena.count_pair.Given.{Over}
use Rattle.ks_arena.proofs.arena.Arena.count_pair.Goals as goal
use Rattle.ks_arena.proofs.arena.Arena.count_pair.Goals.{After-fetch_add}

pub fetch_add-requires-clause-may : goal.fetch_add-requires-clause-may
fetch_add-requires-clause-may g c κs within =
    let p = c.args.pass.now in let r = c.requires.pass in let n : ℕ = c.args.self.now.table.shared.table_id.slots in
    let j : ℕ = second_of c.args.first.now c.args.second in
    let o : Op = g.W.Decision.op in let y : Reply = g.W.Decision.reply in
    let same : c.args.self.now.nodes ≡ n = omega arith in (
      r.table,
      omega arith,
      twin_ok (sort_of g.N.Node.layout g.N.Node.ranged) g.D.Discipline.begins g.D.Discipline.step g.N.Node.body n _ p.seat.me p.caller c.args.first.now.node j o y _ c.requires.said r.own r.bare r.few
          (holds_it _ _ _ _ _ r.carries r.slots c.requires.holds.0) (holds_it _ _ _ _ _ r.carries r.slots c.requires.holds.1)
          (may_twin (sort_of g.N.Node.layout g.N.Node.ranged) c.laws.ensures c.walks_law.ensures.opening n p.caller c.args.first.now.node j o y p.seat.me.0.seen c.requires.ready.meets
          (subst (λ (z : ℕ). IsDue g.N.Node.layout z p.seat.me.0.seen (Twin p.caller c.args.first.now.node j o y)) same c.requires.ready.due)),
    )

abbrev event : (g : Over) (c : After-fetch_add g) → Event
event g c = Twin c.args.pass.now.caller c.args.first.now.node (second_of c.args.first.now c.args.second) g.W.Decision.op g.W.Decision.reply

told : (g : Over) (c : After-fetch_add g) → decided (sort_of g.N.Node.layout g.N.Node.ranged) g.D.Discipline.begins g.D.Discipline.step g.N.Node.body (step c.args.self.now.table.shared.table_id.slots 0 1 0 none) (event g c) c.args.pass.now.seat.me c.fetch_add.result c.fetch_add.new.seat.me
told g c = subst (λ (z : Event). decided (sort_of g.N.Node.layout g.N.Node.ranged) g.D.Discipline.begins g.D.Discipline.step g.N.Node.body (step c.args.self.now.table.shared.table_id.slots 0 1 0 none) z c.args.pass.now.seat.me c.fetch_add.result c.fetch_add.new.seat.me) c.requires.said c.fetch_add.ensures.seat.2

after : (g : Over) (c : After-fetch_add g) → Counted (sort_of g.N.Node.layout g.N.Node.ranged) g.D.Discipline.begins g.D.Discipline.step c.args.self.now.table.shared.table_id.slots c.args.pass.now.caller (event g c) c.args.pass.now.seat.me c.fetch_add.new.seat.me
after g c = let r = c.requires.pass in counted (sort_of g.N.Node.layout g.N.Node.ranged) g.D.Discipline.begins g.D.Discipline.step _ c.args.pass.now.caller (event g c) c.args.pass.now.seat.me c.fetch_add.new.seat.me refl (λ h j. refl) (λ h. refl) r.own r.carries r.slots (told g c).1 (told g c).0

pub returns-clause-pass : goal.returns-clause-pass
returns-clause-pass g c = let a = after g c in pass_again (sort_of g.N.Node.layout g.N.Node.ranged) g.D.Discipline.begins g.D.Discipline.step _ _ c.args.pass.now _ c.fetch_add.new.seat.me c.requires.pass refl c.fetch_add.ensures.seat.0 refl a.follows a.carries a.slots a.sounds a.knows

kept : (g : Over) (c : After-fetch_add g) → KeptButTwo c.args.first.now.node (second_of c.args.first.now c.args.second) c.args.pass.now.caller c.args.pass.now.seat.me.0.seen c.fetch_add.new.seat.me.0.seen
kept g c = λ n ne other x. let a = after g c in let h : List Event = a.grows.rest ++ c.args.pass.now.seat.me.0.seen in let k = a.before n x in let w = written g.W.Decision.op g.W.Decision.reply in
    subst (StaysHeld c.args.pass.now.caller n c.args.pass.now.seat.me.0.seen) (sym a.grows.is) (stays_then c.args.pass.now.caller (event g c) c.args.pass.now.seat.me.0.seen h n k k.turn
    (twice_else (taken_out w) (put_in w) c.args.first.now.node (second_of c.args.first.now c.args.second) (graph_after h) n ne other) (λ blank. refl))

pub returns-clause-decided : goal.returns-clause-decided
returns-clause-decided g c = let a = after g c in decided_at_two c.args.self.now c.args.pass.now _ c.requires.pass c.args.first.now c.args.second g.W.Decision.op g.W.Decision.reply _
    (record { grows = makes_grows _ _ _ _ c.args.pass.now.caller c.requires.pass.own (told g c).0; number = (told g c).2 }) a.hand_is a.mine_is (kept g c)

pub returns-clause-first : goal.returns-clause-first
returns-clause-first g c = let a = after g c in let h : List Event = a.grows.rest ++ c.args.pass.now.seat.me.0.seen in let r = c.requires.pass in let ready = c.requires.ready in
    subst (λ (z : List Event). Matches (sort_of g.N.Node.layout g.N.Node.ranged) g.N.Node.body z c.args.first.now) (sym a.grows.is)
    (first_is (sort_of g.N.Node.layout g.N.Node.ranged) g.N.Node.body c.args.pass.now.caller g.W.Decision.op g.W.Decision.reply c.args.pass.now.seat.me.0.seen h c.args.first.now c.args.second ready.live ready.frame ready.written
    (a.before c.args.first.now.node (holds_it _ _ _ _ _ r.carries r.slots c.requires.holds.0)))

pub returns-clause-second : goal.returns-clause-second
returns-clause-second g c = let a = after g c in let h : List Event = a.grows.rest ++ c.args.pass.now.seat.me.0.seen in let r = c.requires.pass in let ready = c.requires.ready in
    subst (λ (z : List Event). SecondMatches (sort_of g.N.Node.layout g.N.Node.ranged) g.N.Node.body z c.args.second) (sym a.grows.is)
    (second_is (sort_of g.N.Node.layout g.N.Node.ranged) g.N.Node.body c.args.pass.now.caller g.W.Decision.op g.W.Decision.reply c.args.pass.now.seat.me.0.seen h c.args.first.now c.args.second ready.written
    (a.before (second_of c.args.first.now c.args.second) (holds_it _ _ _ _ _ r.carries r.slots c.requires.holds.1)))
