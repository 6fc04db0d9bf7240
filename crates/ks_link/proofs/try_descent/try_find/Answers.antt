use Rattle.std.proofs.Common.{◌≡◌, ℕ, List, [], sym, ◌∙◌, ap, length, subst, arith}
use Rattle.ks_history.specs.declared.Event.{Event}
use Rattle.ks_history.specs.declared.Op.{Op}
use Rattle.ks_history.specs.declared.Op.TheVariants.{Put}
use Rattle.ks_history.specs.Laws.Begins.{good_now}
use Rattle.ks_history.specs.Done.{link_move}
use Rattle.ks_history.specs.Trace.{◌⊑◌}
use Rattle.ks_history.specs.Own.{hand}
use Rattle.ks_history.specs.Underway.{Underway}
use Rattle.ks_history.specs.Laws.Underway.{underway_here}
use Rattle.ks_arena.specs.Sound.{sort_of}
use Rattle.ks_arena.specs.Clauses.{seen_of}
use Rattle.ks_shape.specs.Makes.{MakesNone}
use Rattle.ks_shape.specs.Laws.Makes.{makes_both}
use Rattle.ks_shape.specs.Tries.{IsCause}
use Rattle.ks_link.specs.Descent.{IsOnWay}
use Rattle.ks_link.proofs.Trying.{cause_since, less_left}
use Rattle.ks_link.proofs.Ways.{ends_here}
use Rattle.ks_shape.specs.Does.{DoesOnly, MaySearch}
use Rattle.ks_shape.specs.Laws.Does.{does_both, does_to}
use Rattle.ks_link.proofs.try_descent.try_find.Goals as goal

-- a call that is under way goes on
till : (c : ℕ) (op : Op) (h k : List Event) → Underway link_move c op h k → h ⊑ k
till c op h k under = record { rest = under.rest; is = under.is }

pub loop-held-init : goal.loop-held-init
loop-held-init g c = let sort = sort_of g.N.Node.layout g.N.Node.ranged in let e = c.in-Ok.ensures in let h = seen_of c.args.pass.now in let k = seen_of c.try_enter.new.pass in (
  e.pass,
  e.caller,
  subst (λ (z : ℕ). IsOnWay sort g.N.Node.body z c.args.place k c.in-Ok.root) (sym e.caller) e.entered.0,
  (λ op. subst (λ (z : ℕ). Underway link_move z op h k) (sym e.caller) (e.under op)),
  subst (λ (z : ℕ). MakesNone z h k) (sym e.caller) e.makes,
  subst (λ (z : ℕ). DoesOnly MaySearch z h k) (sym e.caller) e.leaves,
)

pub returns-in-Here-clause-found : goal.returns-in-Here-clause-found
returns-in-Here-clause-found g c = let inv = c.loop-held.invariant in let sort = sort_of g.N.Node.layout g.N.Node.ranged in let n : ℕ = c.args.arena.now.table.shared.table_id.slots in let k = seen_of c.loop-held.pass in let x = c.loop-held.held in
    let way = subst (λ (z : ℕ). IsOnWay sort g.N.Node.body z c.args.place k x) inv.1 inv.2 in
    (way, ends_here sort g.N.Node.body c.args.pass.now.caller c.args.place k x way (c.sound_law.ensures.facts sort n k inv.0.sound) (omega (arith, c.ranges.place)) c.node_law.ensures.sound (sym c.next.ensures ∙ c.in-Here.is) (good_now (c.sound_law.ensures.good sort n k inv.0.sound)))

pub loop-held-smaller : goal.loop-held-smaller
loop-held-smaller g c = less_left (g.N.Node.body c.loop-held.held.body) (g.N.Node.body c.in-Ok-try_go_on.taken.body) (omega (arith, c.loop-held.invariant.2.low, c.ranges.place)) c.in-Ok-try_go_on.ensures.went.1

pub loop-held-preserved : goal.loop-held-preserved
loop-held-preserved g c = let sort = sort_of g.N.Node.layout g.N.Node.ranged in let e = c.in-Ok-try_go_on.ensures in let h = seen_of c.args.pass.now in let k = seen_of c.loop-held.pass in let l = seen_of c.try_go_on.new.pass in let me : ℕ = c.loop-held.pass.caller in let inv = c.loop-held.invariant in
    let here = underway_here link_move me (Put 0 0) k (omega (arith, ap length inv.2.alone)) in (
      e.pass,
      e.caller ∙ inv.1,
      subst (λ (z : ℕ). IsOnWay sort g.N.Node.body z c.args.place l c.in-Ok-try_go_on.taken) (sym e.caller) e.went.0,
      (λ op. subst (λ (z : ℕ). Underway link_move z op h l) (sym e.caller) (e.under op h (inv.3 op))),
      subst (λ (z : ℕ). MakesNone z h l) (sym e.caller) (makes_both me h k l (till me (Put 0 0) h k (inv.3 (Put 0 0))) (till me (Put 0 0) k l (e.under (Put 0 0) k here)) inv.4 e.makes),
      does_to MaySearch me c.try_go_on.new.pass.caller h k l e.caller inv.5 e.leaves,
    )

pub returns-in-Err-try_go_on-clause-caller : goal.returns-in-Err-try_go_on-clause-caller
returns-in-Err-try_go_on-clause-caller g c = c.try_go_on.ensures.caller ∙ c.loop-held.invariant.1

pub returns-in-Err-try_go_on-clause-found : goal.returns-in-Err-try_go_on-clause-found
returns-in-Err-try_go_on-clause-found g c = let e = c.in-Err-try_go_on.ensures in let h = seen_of c.args.pass.now in let k = seen_of c.loop-held.pass in let l = seen_of c.try_go_on.new.pass in let me : ℕ = c.loop-held.pass.caller in let inv = c.loop-held.invariant in let n : ℕ = c.args.arena.now.nodes in let later = c.in-Err-try_go_on.later in (
  subst (λ (z : ℕ). hand z l ≡ []) inv.1 e.went.0,
  (λ op touched. subst (λ (z : ℕ). IsCause link_move n z op h l later) inv.1 (cause_since n me op h k l later (till me (Put 0 0) h k (inv.3 (Put 0 0))) (e.went.1 op touched))),
)

pub returns-in-Err-try_go_on-clause-under : goal.returns-in-Err-try_go_on-clause-under
returns-in-Err-try_go_on-clause-under g c = λ op. let h = seen_of c.args.pass.now in let l = seen_of c.try_go_on.new.pass in
    subst (λ (z : ℕ). Underway link_move z op h l) c.loop-held.invariant.1 (c.try_go_on.ensures.under op h (c.loop-held.invariant.3 op))

pub returns-in-Err-try_go_on-clause-makes : goal.returns-in-Err-try_go_on-clause-makes
returns-in-Err-try_go_on-clause-makes g c = let e = c.try_go_on.ensures in let h = seen_of c.args.pass.now in let k = seen_of c.loop-held.pass in let l = seen_of c.try_go_on.new.pass in let me : ℕ = c.loop-held.pass.caller in let inv = c.loop-held.invariant in
    let here = underway_here link_move me (Put 0 0) k (omega (arith, ap length inv.2.alone)) in
    subst (λ (z : ℕ). MakesNone z h l) inv.1 (makes_both me h k l (till me (Put 0 0) h k (inv.3 (Put 0 0))) (till me (Put 0 0) k l (e.under (Put 0 0) k here)) inv.4 e.makes)

-- the kinds of its events

pub returns-in-Here-clause-leaves : goal.returns-in-Here-clause-leaves
returns-in-Here-clause-leaves g c = let inv = c.loop-held.invariant in subst (λ (z : ℕ). DoesOnly MaySearch z (seen_of c.args.pass.now) (seen_of c.loop-held.pass)) inv.1 inv.5

pub returns-in-Err-try_go_on-clause-leaves : goal.returns-in-Err-try_go_on-clause-leaves
returns-in-Err-try_go_on-clause-leaves g c = let h = seen_of c.args.pass.now in let k = seen_of c.loop-held.pass in let l = seen_of c.try_go_on.new.pass in let inv = c.loop-held.invariant in
    subst (λ (z : ℕ). DoesOnly MaySearch z h l) inv.1 (does_both MaySearch c.loop-held.pass.caller h k l inv.5 c.try_go_on.ensures.leaves)
