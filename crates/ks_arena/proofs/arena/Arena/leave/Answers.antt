use Rattle.std.proofs.Common.{ℕ, ◌<◌, ◌∷◌, refl, sym, ap, ◌∙◌, subst, arith}
use Rattle.std.specs.Prelude.{Some, true}
use Rattle.ks_keysets.specs.declared.NodeState.{NodeState}
use Rattle.ks_keysets.specs.declared.Frame.{Frame}
use Rattle.ks_history.specs.Trace.{turn_given, graph_after}
use Rattle.ks_history.specs.Frames.{frame_after}
use Rattle.ks_arena.specs.Sound.{sort_of, blank_of}
use Rattle.ks_arena.specs.Rule.{turn_word}
use Rattle.ks_arena.specs.Plays.{Shows, drop_slot, slot_in}
use Rattle.ks_arena.specs.declared.view.Mark.TheVariants.{Quiet}
use Rattle.ks_arena.proofs.Moves.{GivesMark, brings_ok, gives_ok}
use Rattle.ks_arena.proofs.Hold.{hand_held, hand_near}
use Rattle.ks_arena.proofs.Lies.{slot_held, slot_drop}
use Rattle.ks_arena.proofs.After.{matches_shows, matches_mark, pass_marked, Ready, ready, Given, gave_it}
use Rattle.ks_arena.proofs.Rest.{rest_but}
use Rattle.ks_arena.proofs.arena.Arena.leave.Given.{Over}
use Rattle.ks_arena.proofs.arena.Arena.leave.Goals as goal
use Rattle.ks_arena.proofs.arena.Arena.leave.Goals.{After-store}

pub load-requires-clause-may : goal.load-requires-clause-may
load-requires-clause-may g c κs within = let p = c.args.pass.now in let q = c.requires.pass in let in_hand = slot_held c.args.visited.node _ p.seat.me.1 c.requires.lies in let near : c.args.visited.node < c.args.self.now.table.shared.table_id.slots = hand_near _ p.seat.me.0.seen p.caller _ _ q.carries.hands in_hand in (
  q.table,
  omega arith,
  brings_ok (sort_of g.N.Node.layout g.N.Node.ranged) g.D.Discipline.begins g.D.Discipline.step g.N.Node.body _ _ p.seat.me p.caller c.args.visited.node _ c.turn_at-turn.ensures q.own q.bare q.carries.hands in_hand,
)

pub store-requires-clause-may : goal.store-requires-clause-may
store-requires-clause-may g c κs within =
    let p = c.args.pass.now in let q = c.requires.pass in let seen = c.load.ensures.seat.2 c.args.visited.node c.turn_at-turn.ensures in let r : Ready (sort_of g.N.Node.layout g.N.Node.ranged) g.D.Discipline.begins g.D.Discipline.step c.args.self.now.table.shared.table_id.slots p.caller c.args.visited.node c.args.visited.body.value p.seat.me c.load.new.seat.me = ready _ _ _ _ p.caller c.args.visited.node c.args.visited.body.value p.seat.me c.load.new.seat.me q.own (hand_held _ p.seat.me.0.seen p.caller p.seat.me.1 c.args.visited.node q.carries.hands (slot_held c.args.visited.node _ p.seat.me.1 c.requires.lies)) q.carries seen.0 (seen.1 ∙ ap (λ x. (c.args.visited.node, x) ∷ drop_slot c.args.visited.node p.seat.me.1) c.requires.lies) in
    let near = r.near in let i : ℕ = c.args.visited.node in let sort = sort_of g.N.Node.layout g.N.Node.ranged in let b = c.args.visited.body.value in
    let m = matches_shows sort g.D.Discipline.begins g.D.Discipline.step g.N.Node.body true (graph_after p.seat.me.0.seen i) (frame_after (blank_of sort) p.seat.me.0.seen i) b c.requires.body.is in (
      c.load.ensures.seat.0 ∙ q.table,
      omega arith,
      gives_ok sort g.D.Discipline.begins g.D.Discipline.step g.N.Node.body _ _ c.load.new.seat.me p.caller i _ b (drop_slot i p.seat.me.1) _ c.turn_at-turn.ensures (r.follows.callers ∙ q.own) r.follows.bare q.few r.near r.top r.stays.turn
          (subst (λ (z : NodeState × Frame). Shows sort g.D.Discipline.begins g.D.Discipline.step g.N.Node.body z.0 z.1 b) (λ k. (sym r.stays.state k, sym (r.stays.frame (blank_of sort)) k)) m.0)
          (m.1 ∙ ap (λ (z : NodeState). turn_word (turn_given z)) (sym r.stays.state))
          (subst (λ (z : NodeState). GivesMark z i c.load.new.seat.me.0.mark) (sym r.stays.state) (matches_mark sort g.D.Discipline.begins g.D.Discipline.step g.N.Node.body true (graph_after p.seat.me.0.seen i) (frame_after (blank_of sort) p.seat.me.0.seen i) b i c.load.new.seat.me.0.mark c.requires.body.is (r.follows.mark ∙ q.mark))),
    )

done : (g : Over) (c : After-store g) → Given (sort_of g.N.Node.layout g.N.Node.ranged) g.D.Discipline.begins g.D.Discipline.step c.args.self.now.table.shared.table_id.slots c.args.pass.now.caller c.args.visited.node c.args.pass.now.seat.me c.store.new.seat.me
done g c =
    let p = c.args.pass.now in let q = c.requires.pass in let seen = c.load.ensures.seat.2 c.args.visited.node c.turn_at-turn.ensures in let r : Ready (sort_of g.N.Node.layout g.N.Node.ranged) g.D.Discipline.begins g.D.Discipline.step c.args.self.now.table.shared.table_id.slots p.caller c.args.visited.node c.args.visited.body.value p.seat.me c.load.new.seat.me = ready _ _ _ _ p.caller c.args.visited.node c.args.visited.body.value p.seat.me c.load.new.seat.me q.own (hand_held _ p.seat.me.0.seen p.caller p.seat.me.1 c.args.visited.node q.carries.hands (slot_held c.args.visited.node _ p.seat.me.1 c.requires.lies)) q.carries seen.0 (seen.1 ∙ ap (λ x. (c.args.visited.node, x) ∷ drop_slot c.args.visited.node p.seat.me.1) c.requires.lies) in
    let told = c.store.ensures.seat.2 p.caller c.args.visited.node (Some c.args.visited.body.value) _ (r.follows.callers ∙ q.own) c.turn_at-turn.ensures r.top in
    gave_it _ _ _ _ p.caller c.args.visited.node c.args.visited.body.value p.seat.me c.load.new.seat.me c.store.new.seat.me q.own q.slots r told.0 told.1

pub returns-clause-pass : goal.returns-clause-pass
returns-clause-pass g c = let d = done g c in pass_marked _ _ _ Quiet Quiet _ _ c.args.pass.now _ c.store.new.seat.me c.requires.pass refl (c.store.ensures.seat.0 ∙ c.load.ensures.seat.0) refl d.follows d.carries d.slots d.sounds d.knows

pub returns-clause-gave : goal.returns-clause-gave
returns-clause-gave g c = (done g c).grows

pub returns-clause-hand : goal.returns-clause-hand
returns-clause-hand g c = (done g c).hand_is

pub returns-clause-mine : goal.returns-clause-mine
returns-clause-mine g c = (done g c).mine_is

pub returns-clause-rest : goal.returns-clause-rest
returns-clause-rest g c = rest_but c.args.self.now c.args.pass.now _ c.requires.pass c.args.visited.node ((done g c).kept)

pub returns-clause-slots : goal.returns-clause-slots
returns-clause-slots g c =
    let p = c.args.pass.now in let q = c.requires.pass in let seen = c.load.ensures.seat.2 c.args.visited.node c.turn_at-turn.ensures in let r : Ready (sort_of g.N.Node.layout g.N.Node.ranged) g.D.Discipline.begins g.D.Discipline.step c.args.self.now.table.shared.table_id.slots p.caller c.args.visited.node c.args.visited.body.value p.seat.me c.load.new.seat.me = ready _ _ _ _ p.caller c.args.visited.node c.args.visited.body.value p.seat.me c.load.new.seat.me q.own (hand_held _ p.seat.me.0.seen p.caller p.seat.me.1 c.args.visited.node q.carries.hands (slot_held c.args.visited.node _ p.seat.me.1 c.requires.lies)) q.carries seen.0 (seen.1 ∙ ap (λ x. (c.args.visited.node, x) ∷ drop_slot c.args.visited.node p.seat.me.1) c.requires.lies) in
    let told = c.store.ensures.seat.2 p.caller c.args.visited.node (Some c.args.visited.body.value) _ (r.follows.callers ∙ q.own) c.turn_at-turn.ensures r.top in
    λ j ne. ap (slot_in j) told.1 ∙ slot_drop c.args.visited.node j p.seat.me.1 ne
