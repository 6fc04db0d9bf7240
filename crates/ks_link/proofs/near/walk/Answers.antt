use Rattle.std.proofs.Common.{◌≡◌, ◌∙◌, ℕ, List, refl, ap, subst}
use Rattle.std.specs.Prelude.{IfSome}
use Rattle.ks_history.specs.declared.Event.{Event}
use Rattle.ks_history.specs.Done.{link_move}
use Rattle.ks_history.specs.Trace.{◌⊑◌}
use Rattle.ks_history.specs.Underway.{Underway}
use Rattle.ks_arena.specs.Sound.{sort_of}
use Rattle.ks_arena.specs.Clauses.{seen_of}
use Rattle.ks_arena.specs.Visits.{held_at}
use Rattle.ks_shape.specs.Does.{DoesOnly, MaySearch}
use Rattle.ks_shape.specs.Hinted.{WasAbove}
use Rattle.ks_shape.specs.Laws.Does.{does_both, does_none}
use Rattle.ks_shape.specs.Laws.Makes.{makes_both}
use Rattle.ks_shape.specs.Makes.{MakesNone}
use Rattle.ks_link.specs.Descent.{IsOnWay}
use Rattle.ks_link.proofs.near.walk.Given.{Over}
use Rattle.ks_link.proofs.near.walk.Goals as goal
use Rattle.ks_link.proofs.near.walk.Goals.{After-range-range}

pub loop-init : goal.loop-init
loop-init g c = (c.requires.pass, refl, c.requires.way, c.requires.lies, (λ op start under. under), (λ alone i live. live), does_none MaySearch c.args.pass.now.caller (seen_of c.args.pass.now), tt)

-- what holds of the caller and of the pass once the node has been read held before
before : (g : Over) (c : After-range-range g) (Fact : ℕ → List Event → Type 0) → Fact c.range-range.new.pass.caller (seen_of c.range-range.new.pass) → Fact c.args.pass.now.caller (seen_of c.loop.pass)
before g c Fact fact = let same : c.range-range.new.pass ≡ c.loop.pass = c.range-range.ensures.same ∙ c.next-in-loop.ensures.same in
    subst (λ (z : List Event). Fact c.args.pass.now.caller z) (ap seen_of same) (subst (λ (z : ℕ). Fact z (seen_of c.range-range.new.pass)) (ap (λ p. p.caller) same ∙ c.loop.invariant.1) fact)

pub loop-preserved : goal.loop-preserved
loop-preserved g c = let sort = sort_of g.N.Node.layout g.N.Node.ranged in let at = (goal.at.loop-preserved g c).After-range-range in let me : ℕ = c.args.pass.now.caller in let inv = c.loop.invariant in let s = seen_of c.args.pass.now in let h = seen_of c.loop.pass in let k = seen_of c.go_by-walking.new.pass in let e = c.go_by-walking.ensures in
    let on : DoesOnly MaySearch me h k = before g at (λ z x. DoesOnly MaySearch z x k) e.leaves in (
      e.pass,
      before g at (λ z x. c.go_by-walking.new.pass.caller ≡ z) e.caller,
      before g at (λ z x. IsOnWay sort g.N.Node.body z c.args.place k (held_at c.go_by-walking.result.visited)) e.way,
      e.lies,
      (λ op start under. before g at (λ z x. Underway link_move z op start x → Underway link_move z op start k) (e.under op start) (inv.4 op start under)),
      makes_both me s h k inv.6.grows on.grows inv.5 (before g at (λ z x. MakesNone z x k) e.makes),
      does_both MaySearch me s h k inv.6 on,
      before g at (λ z x. s ⊑ x → IfSome c.loop.walking.above (WasAbove sort c.args.place s x) → IfSome c.go_by-walking.result.above (WasAbove sort c.args.place s k)) (e.above s) inv.6.grows inv.7,
    )

-- it moves right no further

pub returns-then-rights-eq0-clause-leaves : goal.returns-then-rights-eq0-clause-leaves
returns-then-rights-eq0-clause-leaves g c = let at = (goal.at.returns-then-rights-eq0-clause-leaves g c).After-range-range in let h = seen_of c.loop.pass in let k = seen_of c.leave_last.new.pass in
    does_both MaySearch c.args.pass.now.caller (seen_of c.args.pass.now) h k c.loop.invariant.6 (before g at (λ z x. DoesOnly MaySearch z x k) c.leave_last.ensures.leaves)

pub returns-then-rights-eq0-clause-makes : goal.returns-then-rights-eq0-clause-makes
returns-then-rights-eq0-clause-makes g c = let at = (goal.at.returns-then-rights-eq0-clause-makes g c).After-range-range in let me : ℕ = c.args.pass.now.caller in let inv = c.loop.invariant in let h = seen_of c.loop.pass in let k = seen_of c.leave_last.new.pass in
    let on : DoesOnly MaySearch me h k = before g at (λ z x. DoesOnly MaySearch z x k) c.leave_last.ensures.leaves in
    makes_both me (seen_of c.args.pass.now) h k inv.6.grows on.grows inv.5 (before g at (λ z x. MakesNone z x k) c.leave_last.ensures.makes)
