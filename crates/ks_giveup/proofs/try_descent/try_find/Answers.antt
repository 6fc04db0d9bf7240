use Rattle.std.proofs.Common.{◌≡◌, ◌<◌, ◌≤◌, ◌+◌, ◌∙◌, ℕ, suc, [], inl, refl, sym, subst, arith}
use Rattle.ks_history.specs.Descent.{TookSince}
use Rattle.ks_history.specs.Done.{give_up}
use Rattle.ks_history.specs.Refusals.{FarDue}
use Rattle.ks_history.specs.Own.{hand}
use Rattle.ks_history.specs.Trace.{graph_after}
use Rattle.ks_history.specs.Underway.{Underway}
use Rattle.ks_history.specs.Laws.Begins.{begins_self, good_now}
use Rattle.ks_history.specs.Laws.Beside.{root_on_way}
use Rattle.ks_history.specs.Laws.Stays.{lawful_in_turn}
use Rattle.ks_history.specs.Laws.Underway.{underway_first}
use Rattle.ks_arena.specs.Sound.{sort_of}
use Rattle.ks_arena.specs.Clauses.{seen_of}
use Rattle.ks_shape.specs.Down.{IsDown}
use Rattle.ks_shape.specs.OnWay.{IsOnWay}
use Rattle.ks_shape.specs.Descents.{IsCauseAt}
use Rattle.ks_shape.specs.Does.{DoesOnly, MaySearch}
use Rattle.ks_shape.specs.Laws.Does.{does_both, does_none, does_to}
use Rattle.ks_giveup.specs.Goes.{Goes, at_first}
use Rattle.ks_giveup.specs.Tries.{WasOnWay}
use Rattle.ks_giveup.proofs.Visits.{IsNext, taken_next, left_next, led_on, none_next}
use Rattle.ks_giveup.proofs.Way.{goes_both}
use Rattle.ks_giveup.proofs.try_descent.try_find.Goals as goal

-- the invariant of the loop

pub loop-steps-init : goal.loop-steps-init
loop-steps-init g c = let sort = sort_of g.N.Node.layout g.N.Node.ranged in let slots : ℕ = c.args.arena.now.table.shared.table_id.slots in let me : ℕ = c.args.pass.now.caller in let h = seen_of c.args.pass.now in
    let root : WasOnWay me c.args.place h h 0 = record { moment = h; since = begins_self h; later = begins_self h; spare = tt; on_way = inl refl; inside = (root_on_way (graph_after h) c.args.place (good_now (c.sound_law.ensures.good sort slots h c.requires.pass.0.sound)) (omega (arith, c.ranges.place))).1 } in (
      c.requires.pass.0,
      c.requires.pass.1,
      refl,
      omega arith,
      (λ op. underway_first give_up me op h c.requires.pass.1),
      inl refl,
      root,
      inl (refl, refl, refl),
      at_first,
      does_none MaySearch me h,
    )

pub loop-steps-preserved : goal.loop-steps-preserved
loop-steps-preserved g c = let sort = sort_of g.N.Node.layout g.N.Node.ranged in let slots : ℕ = c.args.arena.now.table.shared.table_id.slots in let n : ℕ = c.args.arena.now.nodes in let s = seen_of c.args.pass.now in let h = seen_of c.loop-steps.pass in let k = seen_of c.try_visit.new.pass in let l = seen_of c.leave_held.new.pass in let steps : ℕ = c.loop-steps._steps in let node : ℕ = c.loop-steps.node in
    let inv = c.loop-steps.invariant in let law = c.sound_law.ensures in let v = c.in-Ok.ensures in let x = c.in-Ok.held in let e = c.leave_held.ensures in let a : ℕ = c.loop-steps.pass.caller in let b : ℕ = c.try_visit.new.pass.caller in let child : ℕ = c.in-Go.child in
    let came = v.came s inv.6 in let next = c.child_law.ensures in let one : suc steps ≡ steps + 1 = omega arith in
    let down : IsDown n b s k (suc steps) 1 steps x.node = subst (λ (z : ℕ). IsDown n z s k (suc steps) 1 steps x.node) (sym v.caller) (taken_next n a s h k steps x.node node (lawful_in_turn k (law.lawful sort slots k v.pass.sound)) came.1 came.2 inv.7) in
    let left : IsNext n b s l (suc steps) child = left_next sort slots n b c.args.place s k l steps x.node child (lawful_in_turn l (law.lawful sort slots l e.pass.0.sound)) next e.gave down in (
      e.pass.0,
      e.pass.1,
      e.caller ∙ v.caller ∙ inv.2,
      e.near,
      (λ op. subst (λ (z : ℕ). Underway give_up z op s l) (sym e.caller) (e.under op s (subst (λ (z : ℕ). Underway give_up z op s k) (sym v.caller) (v.under op s (inv.4 op))))),
      e.next,
      subst (λ (z : ℕ). WasOnWay z c.args.place s l child) (sym e.caller) (led_on sort slots n b c.args.place s k l x.node child down.took.grows next e.gave),
      subst (λ (z : ℕ). IsNext n c.leave_held.new.pass.caller s l z child) one (subst (λ (z : ℕ). IsNext n z s l (suc steps) child) (sym e.caller) left),
      subst (λ (z : ℕ). Goes z c.args.place s l) (sym e.caller) (goes_both (subst (λ (z : ℕ). Goes z c.args.place s k) (sym v.caller) (goes_both inv.8 v.goes)) e.goes),
      does_to MaySearch b c.leave_held.new.pass.caller s k l e.caller (does_to MaySearch a b s h k v.caller inv.9 v.leaves) e.leaves,
    )

-- the node that it has taken is on the search path

pub tree_end_law-requires-clause-way : goal.tree_end_law-requires-clause-way
tree_end_law-requires-clause-way g c = subst (λ (z : ℕ). IsOnWay (sort_of g.N.Node.layout g.N.Node.ranged) g.N.Node.body z c.args.place (seen_of c.try_visit.new.pass) c.in-Ok.held) (sym c.in-Ok.ensures.caller) (c.in-Ok.ensures.came (seen_of c.args.pass.now) c.loop-steps.invariant.6).0

pub child_law-requires-clause-way : goal.child_law-requires-clause-way
child_law-requires-clause-way g c = subst (λ (z : ℕ). IsOnWay (sort_of g.N.Node.layout g.N.Node.ranged) g.N.Node.body z c.args.place (seen_of c.try_visit.new.pass) c.in-Ok.held) (sym c.in-Ok.ensures.caller) (c.in-Ok.ensures.came (seen_of c.args.pass.now) c.loop-steps.invariant.6).0

pub leave_held-requires-clause-way : goal.leave_held-requires-clause-way
leave_held-requires-clause-way g c = (
  subst (λ (z : ℕ). IsOnWay (sort_of g.N.Node.layout g.N.Node.ranged) g.N.Node.body z c.args.place (seen_of c.try_visit.new.pass) c.in-Ok.held) (sym c.in-Ok.ensures.caller) (c.in-Ok.ensures.came (seen_of c.args.pass.now) c.loop-steps.invariant.6).0,
  sym c.next.ensures ∙ c.in-Go.is,
)

-- the search has ended: the root was taken once

pub returns-in-Here-clause-once : goal.returns-in-Here-clause-once
returns-in-Here-clause-once g c = let sort = sort_of g.N.Node.layout g.N.Node.ranged in let slots : ℕ = c.args.arena.now.table.shared.table_id.slots in let n : ℕ = c.args.arena.now.nodes in let s = seen_of c.args.pass.now in let h = seen_of c.loop-steps.pass in let k = seen_of c.try_visit.new.pass in let steps : ℕ = c.loop-steps._steps in let inv = c.loop-steps.invariant in let v = c.in-Ok.ensures in let a : ℕ = c.loop-steps.pass.caller in
    let came = v.came s inv.6 in let down : IsDown n a s k (suc steps) 1 steps c.in-Ok.held.node = taken_next n a s h k steps c.in-Ok.held.node c.loop-steps.node (lawful_in_turn k (c.sound_law.ensures.lawful sort slots k v.pass.sound)) came.1 came.2 inv.7 in
    subst (λ (z : ℕ). TookSince z s k 0 1) inv.2 (record { grows = down.took.grows; many = omega arith; root = down.took.root })

pub returns-in-Here-clause-goes : goal.returns-in-Here-clause-goes
returns-in-Here-clause-goes g c = let inv = c.loop-steps.invariant in subst (λ (z : ℕ). Goes z c.args.place (seen_of c.args.pass.now) (seen_of c.try_visit.new.pass)) inv.2 (goes_both inv.8 c.in-Ok.ensures.goes)

pub returns-in-Here-clause-under : goal.returns-in-Here-clause-under
returns-in-Here-clause-under g c = λ op. let inv = c.loop-steps.invariant in let s = seen_of c.args.pass.now in subst (λ (z : ℕ). Underway give_up z op s (seen_of c.try_visit.new.pass)) inv.2 (c.in-Ok.ensures.under op s (inv.4 op))

pub returns-in-Here-clause-leaves : goal.returns-in-Here-clause-leaves
returns-in-Here-clause-leaves g c = let inv = c.loop-steps.invariant in let s = seen_of c.args.pass.now in let k = seen_of c.try_visit.new.pass in
    subst (λ (z : ℕ). DoesOnly MaySearch z s k) inv.2 (does_both MaySearch c.loop-steps.pass.caller s (seen_of c.loop-steps.pass) k inv.9 c.in-Ok.ensures.leaves)

-- it is put off at a node

pub returns-in-Err-clause-came : goal.returns-in-Err-clause-came
returns-in-Err-clause-came g c = let s = seen_of c.args.pass.now in let k = seen_of c.try_visit.new.pass in let inv = c.loop-steps.invariant in
    subst (λ (z : ℕ). (hand z k ≡ []) × IsCauseAt give_up c.args.arena.now.nodes z c.args.place s k c.in-Err.later) inv.2 (c.in-Err.ensures.came s inv.6)

pub returns-in-Err-clause-goes : goal.returns-in-Err-clause-goes
returns-in-Err-clause-goes g c = let inv = c.loop-steps.invariant in subst (λ (z : ℕ). Goes z c.args.place (seen_of c.args.pass.now) (seen_of c.try_visit.new.pass)) inv.2 (goes_both inv.8 c.in-Err.ensures.goes)

pub returns-in-Err-clause-under : goal.returns-in-Err-clause-under
returns-in-Err-clause-under g c = λ op. let inv = c.loop-steps.invariant in let s = seen_of c.args.pass.now in subst (λ (z : ℕ). Underway give_up z op s (seen_of c.try_visit.new.pass)) inv.2 (c.in-Err.ensures.under op s (inv.4 op))

pub returns-in-Err-clause-leaves : goal.returns-in-Err-clause-leaves
returns-in-Err-clause-leaves g c = let inv = c.loop-steps.invariant in let s = seen_of c.args.pass.now in let k = seen_of c.try_visit.new.pass in
    subst (λ (z : ℕ). DoesOnly MaySearch z s k) inv.2 (does_both MaySearch c.loop-steps.pass.caller s (seen_of c.loop-steps.pass) k inv.9 c.in-Err.ensures.leaves)

-- it has taken as many nodes as there are

pub returns-clause-came : goal.returns-clause-came
returns-clause-came g c = let n : ℕ = c.args.arena.now.nodes in let s = seen_of c.args.pass.now in let h = seen_of c.loop-steps.pass in let steps : ℕ = c.loop-steps._steps in let inv = c.loop-steps.invariant in
    let some : 0 < n = omega arith in let all : n ≤ steps = omega arith in
    (subst (λ (z : ℕ). hand z h ≡ []) inv.2 inv.1, λ op touched. (tt, subst (λ (z : ℕ). FarDue n z s h) inv.2 (none_next n c.loop-steps.pass.caller s h steps c.loop-steps.node some all inv.7)))

pub returns-clause-goes : goal.returns-clause-goes
returns-clause-goes g c = let inv = c.loop-steps.invariant in subst (λ (z : ℕ). Goes z c.args.place (seen_of c.args.pass.now) (seen_of c.loop-steps.pass)) inv.2 inv.8

pub returns-clause-under : goal.returns-clause-under
returns-clause-under g c = λ op. let inv = c.loop-steps.invariant in subst (λ (z : ℕ). Underway give_up z op (seen_of c.args.pass.now) (seen_of c.loop-steps.pass)) inv.2 (inv.4 op)

pub returns-clause-leaves : goal.returns-clause-leaves
returns-clause-leaves g c = let inv = c.loop-steps.invariant in subst (λ (z : ℕ). DoesOnly MaySearch z (seen_of c.args.pass.now) (seen_of c.loop-steps.pass)) inv.2 inv.9
