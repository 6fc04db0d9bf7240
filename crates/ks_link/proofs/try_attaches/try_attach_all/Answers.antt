use Rattle.std.proofs.Common.{ℕ, refl, sym, ap, ◌∙◌, length, subst, arith}
use Rattle.ks_history.specs.Done.{link_move}
use Rattle.ks_history.specs.Stretch.{Stretch}
use Rattle.ks_history.specs.Laws.Stretch.{stretch_both, stretch_here, stretch_begins}
use Rattle.ks_arena.specs.Sound.{sort_of}
use Rattle.ks_arena.specs.Clauses.{seen_of}
use Rattle.ks_link.proofs.Rooms.{all_later}
use Rattle.ks_shape.specs.Does.{DoesOnly, MayFill}
use Rattle.ks_shape.specs.Laws.Does.{does_none, fills_on}
use Rattle.ks_link.proofs.try_attaches.try_attach_all.Goals as goal

pub loop-to-init : goal.loop-to-init
loop-to-init g c = let h = seen_of c.args.pass.now in (c.requires.pass.0, c.requires.pass.1, refl, c.requires.off, stretch_here link_move c.args.pass.now.caller h h (omega (arith, ap length c.requires.pass.1)), λ place. does_none (MayFill (sort_of g.N.Node.layout g.N.Node.ranged) place) c.args.pass.now.caller h)

pub loop-to-preserved : goal.loop-to-preserved
loop-to-preserved g c = let sort = sort_of g.N.Node.layout g.N.Node.ranged in let n : ℕ = c.args.arena.now.table.shared.table_id.slots in let e = c.try_attach_on.ensures in let h = seen_of c.args.pass.now in let k = seen_of c.loop-to.pass in let l = seen_of c.try_attach_on.new.pass in let me : ℕ = c.loop-to.pass.caller in (
  e.pass.0,
  e.pass.1,
  e.caller ∙ c.loop-to.invariant.2,
  all_later sort k l c.args.waiting.now (c.sound_law.ensures.lasts sort n k l (stretch_begins link_move me k l e.stretch) e.pass.0.sound) c.loop-to.invariant.3,
  subst (λ (z : ℕ). Stretch link_move z h l) (sym e.caller) (stretch_both link_move me h k l c.loop-to.invariant.4 e.stretch),
  (λ place. fills_on (sort_of g.N.Node.layout g.N.Node.ranged) place me c.try_attach_on.new.pass.caller h k l e.caller (c.loop-to.invariant.5 place) (e.fills place)),
)

-- the kinds of its events

pub returns-clause-fills : goal.returns-clause-fills
returns-clause-fills g c = λ place. subst (λ (z : ℕ). DoesOnly (MayFill (sort_of g.N.Node.layout g.N.Node.ranged) place) z (seen_of c.args.pass.now) (seen_of c.loop-to.pass)) c.loop-to.invariant.2 (c.loop-to.invariant.5 place)
