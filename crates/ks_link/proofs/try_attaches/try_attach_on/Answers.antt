use Rattle.std.proofs.Common.{ℕ, zero, suc, ◌<◌, ◌≤◌, Bool, true, false, cond, refl, sym, ap, ◌∙◌, length, subst, arith}
use Rattle.std.specs.Prelude.{is_some}
use Rattle.ks_keysets.specs.declared.NodeState.{NodeState}
use Rattle.ks_keysets.specs.Keyset.{record_at}
use Rattle.ks_history.specs.Trace.{graph_after}
use Rattle.ks_history.specs.Frames.{frame_after}
use Rattle.ks_history.specs.Done.{link_move}
use Rattle.ks_history.specs.Stretch.{Stretch}
use Rattle.ks_history.specs.Laws.Stretch.{stretch_both, stretch_here}
use Rattle.ks_flow.specs.Link.{lives_below}
use Rattle.ks_arena.specs.Sound.{sort_of, blank_of}
use Rattle.ks_arena.specs.Clauses.{seen_of}
use Rattle.ks_shape.specs.Does.{DoesOnly, MayFill}
use Rattle.ks_shape.specs.Laws.Does.{does_none, fills_on}
use Rattle.ks_link.proofs.try_attaches.try_attach_on.Goals as goal

-- no more nodes are live than there are
lives_few : (g : ℕ → NodeState) (n : ℕ) → lives_below g n ≤ n
lives_few g zero = omega arith
lives_few g (suc n) = go (is_some (record_at g n)) (lives_few g n)
  where
    go : (t : Bool) → lives_below g n ≤ n → cond t (suc (lives_below g n)) (lives_below g n) ≤ suc n
    go true le = omega (arith, le)
    go false le = omega (arith, le)

pub loop-next-init : goal.loop-next-init
loop-next-init g c = let h = seen_of c.args.pass.now in (c.requires.pass.0, c.requires.pass.1, refl, c.requires.off, stretch_here link_move c.args.pass.now.caller h h (omega (arith, ap length c.requires.pass.1)), λ place. does_none (MayFill (sort_of g.N.Node.layout g.N.Node.ranged) place) c.args.pass.now.caller h)

pub loop-next-smaller : goal.loop-next-smaller
loop-next-smaller g c = let sort = sort_of g.N.Node.layout g.N.Node.ranged in let n : ℕ = c.args.arena.now.table.shared.table_id.slots in let k = seen_of c.loop-next.pass in let inv = c.loop-next.invariant in let off = inv.3 in
    let high : (frame_after (blank_of sort) k c.loop-next.to.node).level < (frame_after (blank_of sort) k 0).level = (c.sound_law.ensures.facts sort n k inv.0.sound).highest c.loop-next.to.node off.live off.no_root in
    let few : (frame_after (blank_of sort) k 0).level < lives_below (graph_after k) n = c.link_level_law.ensures sort n k (omega arith) inv.0.sound in
    let below : c.loop-next.to.level < c.args.arena.now.nodes = omega (arith, off.level, high, few, lives_few (graph_after k) n) in
    omega (arith, below, c.try_attach_one.ensures.higher c.in-Some.next c.in-Some.is)

pub loop-next-preserved : goal.loop-next-preserved
loop-next-preserved g c = let e = c.try_attach_one.ensures in let h = seen_of c.args.pass.now in let k = seen_of c.loop-next.pass in let l = seen_of c.try_attach_one.new.pass in let me : ℕ = c.loop-next.pass.caller in let inv = c.loop-next.invariant in (
  e.pass.0,
  e.pass.1,
  e.caller ∙ inv.2,
  e.off c.in-Some.next c.in-Some.is,
  subst (λ (z : ℕ). Stretch link_move z h l) (sym e.caller) (stretch_both link_move me h k l inv.4 e.stretch),
  (λ place. fills_on (sort_of g.N.Node.layout g.N.Node.ranged) place me c.try_attach_one.new.pass.caller h k l e.caller (c.loop-next.invariant.5 place) (e.fills place)),
)

pub returns-in-None-clause-stretch : goal.returns-in-None-clause-stretch
returns-in-None-clause-stretch g c = let e = c.try_attach_one.ensures in let h = seen_of c.args.pass.now in let k = seen_of c.loop-next.pass in let l = seen_of c.try_attach_one.new.pass in let me : ℕ = c.loop-next.pass.caller in let inv = c.loop-next.invariant in
    subst (λ (z : ℕ). Stretch link_move z h l) inv.2 (stretch_both link_move me h k l inv.4 e.stretch)

-- the kinds of its events

pub returns-in-None-clause-fills : goal.returns-in-None-clause-fills
returns-in-None-clause-fills g c = λ place. let e = c.try_attach_one.ensures in let h = seen_of c.args.pass.now in let k = seen_of c.loop-next.pass in let l = seen_of c.try_attach_one.new.pass in let me : ℕ = c.loop-next.pass.caller in
    subst (λ (z : ℕ). DoesOnly (MayFill (sort_of g.N.Node.layout g.N.Node.ranged) place) z h l) c.loop-next.invariant.2 (fills_on (sort_of g.N.Node.layout g.N.Node.ranged) place me me h k l refl (c.loop-next.invariant.5 place) (e.fills place))
