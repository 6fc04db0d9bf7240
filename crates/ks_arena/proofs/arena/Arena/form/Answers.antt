use Rattle.std.proofs.Common.{refl, sym, subst, ◌≡◌, ◌++◌, ℕ, List, arith}
use mathlib.Core.Option.{none}
use Rattle.atomic_table.specs.Table.{step}
use Rattle.ks_keysets.specs.declared.Change.{Change}
use Rattle.ks_history.specs.declared.Event.{Event}
use Rattle.ks_history.specs.declared.Event.TheVariants.{Shape}
use Rattle.ks_history.specs.Own.{hand}
use Rattle.ks_history.specs.Trace.{graph_after}
use Rattle.ks_history.specs.Frames.{frame_after}
use Rattle.ks_history.specs.Stays.{StaysHeld}
use Rattle.ks_history.specs.Laws.Begins.{by_others_keeps}
use Rattle.ks_arena.specs.Sound.{sort_of, Sound}
use Rattle.ks_arena.specs.Plays.{formed}
use Rattle.ks_arena.specs.Clauses.{changes_of, AreShaped, KeptBesides}
use Rattle.ks_arena.specs.Laws.Beyond.{are_in_turn}
use Rattle.ks_arena.proofs.Moves.{forms_ok}
use Rattle.ks_arena.proofs.Hold.{holds_it}
use Rattle.ks_arena.proofs.After.{all_held, each_once, are_shaped, shaped_not, reframed_not, pass_again, Counted, counted, stays_then}
use Rattle.ks_arena.proofs.Rest.{shaped_of}
use Rattle.ks_arena.proofs.arena.Arena.form.Given.{Over}
use Rattle.ks_arena.proofs.arena.Arena.form.Goals as goal
use Rattle.ks_arena.proofs.arena.Arena.form.Goals.{After-fetch_add}

pub fetch_add-requires-clause-may : goal.fetch_add-requires-clause-may
fetch_add-requires-clause-may g c κs within = let p = c.args.pass.now in let r = c.requires.pass in let n : ℕ = c.args.self.now.table.shared.table_id.slots in let same : c.args.self.now.nodes ≡ n = omega arith in let xs : List Change = changes_of g.N.Node.body c.args.first.now c.args.second c.args.third in (
  r.table,
  omega arith,
  forms_ok (sort_of g.N.Node.layout g.N.Node.ranged) g.D.Discipline.begins g.D.Discipline.step g.N.Node.body n _ p.seat.me p.caller xs _ c.requires.said r.own r.bare r.few
      (λ h grows so. let are = are_in_turn (sort_of g.N.Node.layout g.N.Node.ranged) g.D.Discipline.begins g.D.Discipline.step n h so in (
        all_held h p.caller (hand p.caller p.seat.me.0.seen) xs (λ i has. (by_others_keeps p.caller i p.seat.me.0.seen h grows are (holds_it _ _ _ _ _ r.carries r.slots has)).turn) c.requires.holds,
        each_once xs c.requires.once,
        c.requires.may h grows (subst (λ (z : ℕ). Sound (sort_of g.N.Node.layout g.N.Node.ranged) g.D.Discipline.begins g.D.Discipline.step z h) (sym same) so),
      )),
)

abbrev changes : (g : Over) (c : After-fetch_add g) → List Change
changes g c = changes_of g.N.Node.body c.args.first.now c.args.second c.args.third

abbrev event : (g : Over) (c : After-fetch_add g) → Event
event g c = Shape c.args.pass.now.caller (changes g c)

told : (g : Over) (c : After-fetch_add g) → formed (sort_of g.N.Node.layout g.N.Node.ranged) g.D.Discipline.begins g.D.Discipline.step g.N.Node.body (step c.args.self.now.table.shared.table_id.slots 1 1 0 none) (event g c) c.args.pass.now.seat.me c.fetch_add.new.seat.me
told g c = subst (λ (z : Event). formed (sort_of g.N.Node.layout g.N.Node.ranged) g.D.Discipline.begins g.D.Discipline.step g.N.Node.body (step c.args.self.now.table.shared.table_id.slots 1 1 0 none) z c.args.pass.now.seat.me c.fetch_add.new.seat.me) c.requires.said c.fetch_add.ensures.seat.2

after : (g : Over) (c : After-fetch_add g) → Counted (sort_of g.N.Node.layout g.N.Node.ranged) g.D.Discipline.begins g.D.Discipline.step c.args.self.now.table.shared.table_id.slots c.args.pass.now.caller (event g c) c.args.pass.now.seat.me c.fetch_add.new.seat.me
after g c = let r = c.requires.pass in counted (sort_of g.N.Node.layout g.N.Node.ranged) g.D.Discipline.begins g.D.Discipline.step _ c.args.pass.now.caller (event g c) c.args.pass.now.seat.me c.fetch_add.new.seat.me refl (λ h j. refl) (λ h. refl) r.own r.carries r.slots (told g c).1 (told g c).0

pub returns-clause-pass : goal.returns-clause-pass
returns-clause-pass g c = let a = after g c in pass_again (sort_of g.N.Node.layout g.N.Node.ranged) g.D.Discipline.begins g.D.Discipline.step _ _ c.args.pass.now _ c.fetch_add.new.seat.me c.requires.pass refl c.fetch_add.ensures.seat.0 refl a.follows a.carries a.slots a.sounds a.knows

kept : (g : Over) (c : After-fetch_add g) → KeptBesides (changes g c) c.args.pass.now.caller c.args.pass.now.seat.me.0.seen c.fetch_add.new.seat.me.0.seen
kept g c = λ j ne x. let a = after g c in let h : List Event = a.grows.rest ++ c.args.pass.now.seat.me.0.seen in let k = a.before j x in
    subst (StaysHeld c.args.pass.now.caller j c.args.pass.now.seat.me.0.seen) (sym a.grows.is) (stays_then c.args.pass.now.caller (event g c) c.args.pass.now.seat.me.0.seen h j k k.turn (shaped_not (changes g c) j (graph_after h j) ne) (λ blank. reframed_not (changes g c) j (frame_after blank h j) ne))

pub returns-clause-shaped : goal.returns-clause-shaped
returns-clause-shaped g c = let a = after g c in shaped_of c.args.self.now c.args.pass.now _ c.requires.pass (changes g c) a.grows a.hand_is a.mine_is (kept g c)

pub returns-clause-bodies : goal.returns-clause-bodies
returns-clause-bodies g c = let a = after g c in subst (λ (z : List Event). AreShaped (sort_of g.N.Node.layout g.N.Node.ranged) g.N.Node.body z c.args.first.now c.args.second c.args.third) (sym a.grows.is) (are_shaped (sort_of g.N.Node.layout g.N.Node.ranged) g.N.Node.body (a.grows.rest ++ c.args.pass.now.seat.me.0.seen) c.args.pass.now.caller c.args.first.now c.args.second c.args.third c.requires.once)
