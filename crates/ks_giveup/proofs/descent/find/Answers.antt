use Rattle.std.proofs.Common.{◌≡◌, ◌∙◌, ℕ, List, [], ◌∷◌, inl, refl, sym, ap, subst, arith}
use Rattle.ks_history.specs.declared.Event.{Event}
use Rattle.ks_history.specs.Own.{hand}
use Rattle.ks_history.specs.Done.{give_up}
use Rattle.ks_history.specs.Underway.{Underway}
use Rattle.ks_history.specs.Laws.Underway.{underway_first}
use Rattle.ks_node.specs.declared.start.Next.TheVariants.{Here}
use Rattle.ks_node.specs.Body.{next_at}
use Rattle.ks_arena.specs.declared.held.Held.{Held as Hand}
use Rattle.ks_arena.specs.Sound.{sort_of}
use Rattle.ks_arena.specs.Clauses.{seen_of}
use Rattle.ks_arena.specs.Visits.{held_at}
use Rattle.ks_giveup.specs.Goes.{Goes, at_first}
use Rattle.ks_giveup.proofs.Way.{goes_both}
use Rattle.ks_shape.specs.OnWay.{IsOnWay}
use Rattle.ks_shape.specs.Does.{DoesOnly, MaySearch}
use Rattle.ks_shape.specs.Laws.Does.{does_none, does_to}
use Rattle.ks_giveup.proofs.descent.find.Given.{Over}
use Rattle.ks_giveup.proofs.descent.find.Goals as goal
use Rattle.ks_giveup.proofs.descent.find.Goals.{After-visit, After-next-in-loop, After-lift-held}

pub loop-init : goal.loop-init
loop-init g c = (c.requires.pass.0, c.requires.pass.1, refl, omega arith, λ op start under. under, inl refl, at_first, does_none MaySearch c.args.pass.now.caller (seen_of c.args.pass.now))

-- up to the visit
gone : (g : Over) (c : After-visit g) → Goes c.loop.pass.caller c.args.place (seen_of c.args.pass.now) (seen_of c.visit.new.pass)
gone g c = goes_both c.loop.invariant.6 (c.visit.ensures.goes c.loop.invariant.5)

does : (g : Over) (c : After-visit g) → DoesOnly MaySearch c.visit.new.pass.caller (seen_of c.args.pass.now) (seen_of c.visit.new.pass)
does g c = does_to MaySearch c.loop.pass.caller c.visit.new.pass.caller (seen_of c.args.pass.now) (seen_of c.loop.pass) (seen_of c.visit.new.pass) c.visit.ensures.caller c.loop.invariant.7 c.visit.ensures.leaves

pub loop-preserved-in_default : goal.loop-preserved-in_default
loop-preserved-in_default g c = let at = (goal.at.loop-preserved-in_default g c).After-visit in let e = c.visit.ensures in let inv = c.loop.invariant in let s = seen_of c.args.pass.now in let k = seen_of c.visit.new.pass in (
  e.pass,
  subst (λ (z : ℕ). hand z k ≡ []) (sym e.caller) c.in_default.ensures.came,
  e.caller ∙ inv.2,
  omega arith,
  (λ op start under. subst (λ (z : ℕ). Underway give_up z op start k) (sym e.caller) (e.under op start (inv.4 op start under))),
  inl refl,
  subst (λ (z : ℕ). Goes z c.args.place s k) (sym e.caller) (gone g at),
  does g at,
)

-- the pass is the same once it is known where the search goes on
same_caller : (g : Over) (c : After-next-in-loop g) → c.next-in-loop.new.pass.caller ≡ c.loop.pass.caller
same_caller g c = ap (λ p. p.caller) c.next-in-loop.ensures.same ∙ c.visit.ensures.caller

same_seen : (g : Over) (c : After-next-in-loop g) → seen_of c.next-in-loop.new.pass ≡ seen_of c.visit.new.pass
same_seen g c = ap seen_of c.next-in-loop.ensures.same

way : (g : Over) (c : After-next-in-loop g) → IsOnWay (sort_of g.N.Node.layout g.N.Node.ranged) g.N.Node.body c.next-in-loop.new.pass.caller c.args.place (seen_of c.next-in-loop.new.pass) (held_at c.in-Some-visit.visited)
way g c = let sort = sort_of g.N.Node.layout g.N.Node.ranged in let x = held_at c.in-Some-visit.visited in
    subst (λ (z : ℕ). IsOnWay sort g.N.Node.body z c.args.place (seen_of c.next-in-loop.new.pass) x) (sym (same_caller g c))
    (subst (λ (z : List Event). IsOnWay sort g.N.Node.body c.loop.pass.caller c.args.place z x) (sym (same_seen g c)) c.in-Some-visit.ensures.came)

pub next-requires-in-loop-clause-last : goal.next-requires-in-loop-clause-last
next-requires-in-loop-clause-last g c κs within = let i : ℕ = c.in-Some-visit.visited.node in ([], subst (λ (z : ℕ). hand z (seen_of c.visit.new.pass) ≡ i ∷ []) (sym c.in-Some-visit.ensures.caller) c.in-Some-visit.ensures.came.alone)

-- it goes on

pub leave-requires-clause-way : goal.leave-requires-clause-way
leave-requires-clause-way g c = (way g (goal.at.leave-requires-clause-way g c).After-next-in-loop, sym c.next-in-loop.ensures.next ∙ c.in-Go.is)

pub loop-preserved : goal.loop-preserved
loop-preserved g c = let at = (goal.at.loop-preserved g c).After-visit in let same = same_caller g (goal.at.loop-preserved g c).After-next-in-loop in let seen = same_seen g (goal.at.loop-preserved g c).After-next-in-loop in
    let v = c.visit.ensures in let e = c.leave.ensures in let inv = c.loop.invariant in let s = seen_of c.args.pass.now in let k = seen_of c.next-in-loop.new.pass in let l = seen_of c.leave.new.pass in let a : ℕ = c.loop.pass.caller in let b : ℕ = c.next-in-loop.new.pass.caller in (
      e.pass.0,
      e.pass.1,
      e.caller ∙ same ∙ inv.2,
      e.near,
      (λ op start under. subst (λ (z : ℕ). Underway give_up z op start l) (sym e.caller) (e.under op start (subst (λ (z : ℕ). Underway give_up z op start k) (sym same) (subst (λ (z : List Event). Underway give_up a op start z) (sym seen) (v.under op start (inv.4 op start under)))))),
      e.next,
      subst (λ (z : ℕ). Goes z c.args.place s l) (sym e.caller) (goes_both (subst (λ (z : ℕ). Goes z c.args.place s k) (sym same) (subst (λ (z : List Event). Goes a c.args.place s z) (sym seen) (gone g at))) e.goes),
      does_to MaySearch b c.leave.new.pass.caller s k l e.caller (subst (λ (z : ℕ). DoesOnly MaySearch z s k) (sym (ap (λ p. p.caller) c.next-in-loop.ensures.same)) (subst (λ (z : List Event). DoesOnly MaySearch c.visit.new.pass.caller s z) (sym seen) (does g at))) e.leaves,
    )

-- it has ended: the body is taken out

lifted : (g : Over) (c : After-lift-held g) → seen_of c.lift-held.new.pass ≡ seen_of c.visit.new.pass
lifted g c = c.lift-held.ensures.seen ∙ ap seen_of c.next-in-loop.ensures.same

pub lift-held-requires-clause-last : goal.lift-held-requires-clause-last
lift-held-requires-clause-last g c κs within = ([], (way g (goal.at.lift-held-requires-clause-last g c).After-next-in-loop).alone)

pub tree_end_law-requires-clause-way : goal.tree_end_law-requires-clause-way
tree_end_law-requires-clause-way g c = let sort = sort_of g.N.Node.layout g.N.Node.ranged in let e = c.lift-held.ensures in
    subst (λ (z : Hand g.row.N.Denot). IsOnWay sort g.N.Node.body c.lift-held.new.pass.caller c.args.place (seen_of c.lift-held.new.pass) z) (sym e.held)
    (subst (λ (z : ℕ). IsOnWay sort g.N.Node.body z c.args.place (seen_of c.lift-held.new.pass) (held_at c.in-Some-visit.visited)) (sym e.caller)
    (subst (λ (z : List Event). IsOnWay sort g.N.Node.body c.next-in-loop.new.pass.caller c.args.place z (held_at c.in-Some-visit.visited)) (sym e.seen) (way g (goal.at.tree_end_law-requires-clause-way g c).After-next-in-loop)))

pub tree_end_law-requires-clause-here : goal.tree_end_law-requires-clause-here
tree_end_law-requires-clause-here g c = subst (λ (z : Hand g.row.N.Denot). next_at (g.N.Node.body z.body) c.args.place ≡ Here) (sym c.lift-held.ensures.held) (sym c.next-in-loop.ensures.next ∙ c.in-Here.is)

pub returns-in-Here-clause-goes : goal.returns-in-Here-clause-goes
returns-in-Here-clause-goes g c = let at = goal.at.returns-in-Here-clause-goes g c in let s = seen_of c.args.pass.now in
    subst (λ (z : List Event). Goes c.args.pass.now.caller c.args.place s z) (sym (lifted g at.After-lift-held)) (subst (λ (z : ℕ). Goes z c.args.place s (seen_of c.visit.new.pass)) c.loop.invariant.2 (gone g at.After-visit))

pub returns-in-Here-clause-leaves : goal.returns-in-Here-clause-leaves
returns-in-Here-clause-leaves g c = let at = goal.at.returns-in-Here-clause-leaves g c in let s = seen_of c.args.pass.now in
    subst (λ (z : List Event). DoesOnly MaySearch c.args.pass.now.caller s z) (sym (lifted g at.After-lift-held)) (subst (λ (z : ℕ). DoesOnly MaySearch z s (seen_of c.visit.new.pass)) (c.visit.ensures.caller ∙ c.loop.invariant.2) (does g at.After-visit))

pub returns-in-Here-clause-on : goal.returns-in-Here-clause-on
returns-in-Here-clause-on g c = λ op start under. let at = goal.at.returns-in-Here-clause-on g c in let inv = c.loop.invariant in
    subst (λ (z : List Event). Underway give_up c.args.pass.now.caller op start z) (sym (lifted g at.After-lift-held)) (subst (λ (z : ℕ). Underway give_up z op start (seen_of c.visit.new.pass)) inv.2 (c.visit.ensures.under op start (inv.4 op start under)))

pub returns-in-Here-clause-under : goal.returns-in-Here-clause-under
returns-in-Here-clause-under g c = λ op. let at = goal.at.returns-in-Here-clause-under g c in let inv = c.loop.invariant in let s = seen_of c.args.pass.now in
    subst (λ (z : List Event). Underway give_up c.args.pass.now.caller op s z) (sym (lifted g at.After-lift-held)) (subst (λ (z : ℕ). Underway give_up z op s (seen_of c.visit.new.pass)) inv.2 (c.visit.ensures.under op s (inv.4 op s (underway_first give_up c.args.pass.now.caller op s c.requires.pass.1))))
