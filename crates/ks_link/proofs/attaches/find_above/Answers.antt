use Rattle.std.proofs.Common.{ℕ, ◌<◌, sym, ap, ◌∙◌, subst, arith}
use Rattle.ks_keysets.specs.declared.Frame.{Frame}
use Rattle.ks_history.specs.Frames.{frame_after}
use Rattle.ks_arena.specs.Sound.{sort_of, blank_of}
use Rattle.ks_arena.specs.Clauses.{seen_of}
use Rattle.ks_shape.specs.Laws.Single.{shown}
use Rattle.ks_shape.specs.Makes.{MakesNone}
use Rattle.ks_shape.specs.Laws.Makes.{makes_both}
use Rattle.ks_link.specs.Descent.{IsOnWay}
use Rattle.ks_history.specs.Done.{link_move}
use Rattle.ks_history.specs.Stretch.{Stretch}
use Rattle.ks_history.specs.Laws.Stretch.{stretch_both, stretch_begins}
use Rattle.ks_link.proofs.Parting.{split_off_later}
use Rattle.ks_link.proofs.Ways.{root_arrives}
use Rattle.ks_shape.specs.Does.{DoesOnly, MaySearch}
use Rattle.ks_shape.specs.Laws.Does.{does_to}
use Rattle.ks_link.proofs.attaches.find_above.Goals as goal

pub loop-init : goal.loop-init
loop-init g c = let sort = sort_of g.N.Node.layout g.N.Node.ranged in let n : ℕ = c.args.arena.now.table.shared.table_id.slots in let shows = g.N.Node.body in let h = seen_of c.args.pass.now in let k = seen_of c.take_root-held.new.pass in let e = c.take_root-held.ensures in
    let me : ℕ = c.args.pass.now.caller in let x = c.take_root-held.result in
    let stretch : Stretch link_move me h k = e.stretch link_move in
    let off = split_off_later sort h k c.args.to (c.sound_law.ensures.lasts sort n h k (stretch_begins link_move me h k stretch) e.pass.sound) c.requires.off in
    let facts = c.sound_law.ensures.facts sort n k e.pass.sound in
    let way = root_arrives sort shows me c.args.to.cut k x e.way e.root facts in
    let high : (frame_after (blank_of sort) k c.args.to.node).level < (frame_after (blank_of sort) k 0).level = facts.highest c.args.to.node off.live off.no_root in
    let frame = (shown sort shows k x way.live way.matches).1 in (
      e.pass,
      e.caller,
      subst (λ (z : ℕ). IsOnWay sort shows z c.args.to.cut k x) (sym e.caller) way,
      omega (arith, high, off.level, ap (λ (f : Frame). f.level) frame, ap (λ (i : ℕ). (frame_after (blank_of sort) k i).level) e.root),
      subst (λ (z : ℕ). Stretch link_move z h k) (sym e.caller) stretch,
      subst (λ (z : ℕ). MakesNone z h k) (sym e.caller) e.makes,
      subst (λ (z : ℕ). DoesOnly MaySearch z h k) (sym e.caller) e.leaves,
    )

pub loop-preserved : goal.loop-preserved
loop-preserved g c = let sort = sort_of g.N.Node.layout g.N.Node.ranged in let shows = g.N.Node.body in let e = c.go_nearer-held.ensures in let h = seen_of c.args.pass.now in let k = seen_of c.loop.pass in let l = seen_of c.go_nearer-held.new.pass in let me : ℕ = c.loop.pass.caller in (
  e.pass,
  e.caller ∙ c.loop.invariant.1,
  subst (λ (z : ℕ). IsOnWay sort shows z c.args.to.cut l c.go_nearer-held.result) (sym e.caller) e.way,
  e.above,
  subst (λ (z : ℕ). Stretch link_move z h l) (sym e.caller) (stretch_both link_move me h k l c.loop.invariant.4 e.stretch),
  subst (λ (z : ℕ). MakesNone z h l) (sym e.caller) (makes_both me h k l (stretch_begins link_move me h k c.loop.invariant.4) (stretch_begins link_move me k l e.stretch) c.loop.invariant.5 e.makes),
  does_to MaySearch me c.go_nearer-held.new.pass.caller h k l e.caller c.loop.invariant.6 e.leaves,
)
