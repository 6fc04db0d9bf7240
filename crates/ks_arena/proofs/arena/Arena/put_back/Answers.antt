use Rattle.std.proofs.Common.{◌≡◌, ℕ, ◌<◌, refl, sym, ap, ◌∙◌, subst, arith, Bool, cond}
use Rattle.std.specs.Prelude.{Some}
use Rattle.ks_keysets.specs.declared.NodeState.{NodeState}
use Rattle.ks_keysets.specs.declared.Frame.{Frame}
use Rattle.ks_history.specs.Trace.{turn_given, graph_after}
use Rattle.ks_history.specs.Frames.{frame_after}
use Rattle.ks_arena.specs.Sound.{sort_of, blank_of}
use Rattle.ks_arena.specs.Rule.{turn_word}
use Rattle.ks_arena.specs.Plays.{Shows, drop_slot}
use Rattle.ks_arena.specs.declared.view.Mark.TheVariants.{Quiet}
use Rattle.ks_arena.specs.Clauses.{give_mark}
use Rattle.ks_arena.proofs.Moves.{GivesMark, brings_ok, gives_ok}
use Rattle.ks_arena.proofs.Hold.{top_rest, hand_near, holds_it}
use Rattle.ks_arena.proofs.After.{matches_shows, matches_mark, pass_marked, Ready, ready_with, Given, gave_it}
use Rattle.ks_arena.proofs.arena.Arena.put_back.Given.{Over}
use Rattle.ks_arena.proofs.arena.Arena.put_back.Goals as goal
use Rattle.ks_arena.proofs.arena.Arena.put_back.Goals.{After-store, then-live, else-live}

pub load-requires-clause-may : goal.load-requires-clause-may
load-requires-clause-may g c κs within = let p = c.args.pass.now in let r = c.requires.pass in let in_hand = r.carries.all c.args.held.node (holds_it _ p.seat.me.0.seen p.caller c.args.held.node p.seat.me.1 r.carries r.slots c.requires.holds) in let e : c.args.held.node < c.args.self.now.table.shared.table_id.slots = hand_near _ p.seat.me.0.seen p.caller _ _ r.carries.hands in_hand in (
  r.table,
  omega arith,
  brings_ok (sort_of g.N.Node.layout g.N.Node.ranged) g.D.Discipline.begins g.D.Discipline.step g.N.Node.body _ _ p.seat.me p.caller c.args.held.node _ c.turn_at-turn.ensures r.own r.bare r.carries.hands in_hand,
)

pub exchange-requires-clause-may : goal.exchange-requires-clause-may
exchange-requires-clause-may g c κs within = let told = c.load.ensures.seat.2 c.args.held.node c.turn_at-turn.ensures in (c.load.ensures.seat.0 ∙ c.requires.pass.table, (_, top_rest _ _ _ told.1))

pub store-requires-clause-may : goal.store-requires-clause-may
store-requires-clause-may g c κs within =
    let p = c.args.pass.now in let q = c.requires.pass in let seen = c.load.ensures.seat.2 c.args.held.node c.turn_at-turn.ensures in let r : Ready (sort_of g.N.Node.layout g.N.Node.ranged) g.D.Discipline.begins g.D.Discipline.step c.args.self.now.table.shared.table_id.slots p.caller c.args.held.node c.args.held.body p.seat.me c.exchange.new.seat.me = ready_with _ _ _ _ p.caller c.args.held.node c.args.held.body p.seat.me c.load.new.seat.me c.exchange.new.seat.me _ q.own (holds_it _ p.seat.me.0.seen p.caller c.args.held.node p.seat.me.1 q.carries q.slots c.requires.holds) q.carries seen.0 seen.1 c.exchange.ensures.3 in let near = r.near in let i : ℕ = c.args.held.node in let sort = sort_of g.N.Node.layout g.N.Node.ranged in
    let m = matches_shows sort g.D.Discipline.begins g.D.Discipline.step g.N.Node.body c.args.held.live (graph_after p.seat.me.0.seen i) (frame_after (blank_of sort) p.seat.me.0.seen i) c.args.held.body c.requires.body.is in
    let word : c.if-live.word ≡ cond c.args.held.live 1 0 = elim c.if-live.branch [ then-live w ↦ w.word-is ∙ sym (ap (λ (z : Bool). cond z 1 0) w.if-live.true) | else-live w ↦ w.word-is ∙ sym (ap (λ (z : Bool). cond z 1 0) w.if-live.false) ] in (
      c.exchange.ensures.0 ∙ (c.load.ensures.seat.0 ∙ c.requires.pass.table),
      omega arith,
      gives_ok sort g.D.Discipline.begins g.D.Discipline.step g.N.Node.body _ _ c.exchange.new.seat.me p.caller i _ c.args.held.body (drop_slot i p.seat.me.1) _ c.turn_at-turn.ensures (r.follows.callers ∙ c.requires.pass.own) r.follows.bare c.requires.pass.few r.near r.top r.stays.turn
          (subst (λ (z : NodeState × Frame). Shows sort g.D.Discipline.begins g.D.Discipline.step g.N.Node.body z.0 z.1 c.args.held.body) (λ k. (sym r.stays.state k, sym (r.stays.frame (blank_of sort)) k)) m.0)
          (word ∙ m.1 ∙ ap (λ (z : NodeState). turn_word (turn_given z)) (sym r.stays.state))
          (subst (λ (z : NodeState). GivesMark z i c.exchange.new.seat.me.0.mark) (sym r.stays.state) (matches_mark sort g.D.Discipline.begins g.D.Discipline.step g.N.Node.body c.args.held.live (graph_after p.seat.me.0.seen i) (frame_after (blank_of sort) p.seat.me.0.seen i) c.args.held.body i c.exchange.new.seat.me.0.mark c.requires.body.is (r.follows.mark ∙ c.requires.pass.mark))),
    )

done : (g : Over) (c : After-store g) → Given (sort_of g.N.Node.layout g.N.Node.ranged) g.D.Discipline.begins g.D.Discipline.step c.args.self.now.table.shared.table_id.slots c.args.pass.now.caller c.args.held.node c.args.pass.now.seat.me c.store.new.seat.me
done g c =
    let p = c.args.pass.now in let q = c.requires.pass in let seen = c.load.ensures.seat.2 c.args.held.node c.turn_at-turn.ensures in let r : Ready (sort_of g.N.Node.layout g.N.Node.ranged) g.D.Discipline.begins g.D.Discipline.step c.args.self.now.table.shared.table_id.slots p.caller c.args.held.node c.args.held.body p.seat.me c.exchange.new.seat.me = ready_with _ _ _ _ p.caller c.args.held.node c.args.held.body p.seat.me c.load.new.seat.me c.exchange.new.seat.me _ q.own (holds_it _ p.seat.me.0.seen p.caller c.args.held.node p.seat.me.1 q.carries q.slots c.requires.holds) q.carries seen.0 seen.1 c.exchange.ensures.3 in let own = r.follows.callers ∙ c.requires.pass.own in let told = c.store.ensures.seat.2 c.args.pass.now.caller c.args.held.node (Some c.args.held.body) _ own c.turn_at-turn.ensures r.top in
    gave_it _ _ _ _ c.args.pass.now.caller c.args.held.node c.args.held.body c.args.pass.now.seat.me c.exchange.new.seat.me c.store.new.seat.me c.requires.pass.own c.requires.pass.slots r told.0 told.1

pub returns-clause-pass : goal.returns-clause-pass
returns-clause-pass g c = let d = done g c in pass_marked _ _ _ (give_mark c.args.held.live c.args.held.node) Quiet _ _ c.args.pass.now _ c.store.new.seat.me c.requires.pass refl (c.store.ensures.seat.0 ∙ (c.exchange.ensures.0 ∙ c.load.ensures.seat.0)) refl d.follows d.carries d.slots d.sounds d.knows

pub returns-clause-gave : goal.returns-clause-gave
returns-clause-gave g c = (done g c).grows

pub returns-clause-hand : goal.returns-clause-hand
returns-clause-hand g c = (done g c).hand_is

pub returns-clause-mine : goal.returns-clause-mine
returns-clause-mine g c = (done g c).mine_is

pub returns-clause-kept : goal.returns-clause-kept
returns-clause-kept g c = (done g c).kept
