use Rattle.std.proofs.Common.{◌≡◌, ℕ, [], ◌∷◌, sym, ◌∙◌, ap, length, subst, arith, rules}
use Rattle.ks_history.specs.declared.Op.{Op}
use Rattle.ks_history.specs.declared.Op.TheVariants.{Put}
use Rattle.ks_history.specs.Done.{link_move}
use Rattle.ks_history.specs.Trace.{◌⊑◌}
use Rattle.ks_history.specs.Own.{hand}
use Rattle.ks_history.specs.Underway.{Underway}
use Rattle.ks_history.specs.Laws.Underway.{underway_here}
use Rattle.ks_arena.specs.Sound.{sort_of}
use Rattle.ks_arena.specs.Clauses.{seen_of}
use Rattle.ks_arena.specs.Visits.{held_at}
use Rattle.ks_shape.specs.Makes.{MakesNone}
use Rattle.ks_shape.specs.Laws.Makes.{makes_both}
use Rattle.ks_link.specs.Descent.{IsOnWay}
use Rattle.ks_shape.specs.Does.{DoesOnly, MaySearch}
use Rattle.ks_shape.specs.Laws.Does.{does_to}
use Rattle.ks_link.proofs.descent.find.Goals as goal

pub loop-preserved : goal.loop-preserved
loop-preserved g c = let sort = sort_of g.N.Node.layout g.N.Node.ranged in let e = c.go_on-visited.ensures in let same : c.next-in-loop.new.pass ≡ c.loop.pass = search rules in let h = seen_of c.args.pass.now in let k = seen_of c.next-in-loop.new.pass in let l = seen_of c.go_on-visited.new.pass in let me : ℕ = c.next-in-loop.new.pass.caller in let inv = c.loop.invariant in
    let alone : hand me k ≡ c.loop.visited.node ∷ [] = rw same inv.2.alone in
    let under : (op : Op) → Underway link_move me op h k = rw same inv.4 in
    let makes : MakesNone me h k = rw same inv.5 in
    let does : DoesOnly MaySearch me h k = rw same inv.6 in
    let first = under (Put 0 0) in
    let then = e.under (Put 0 0) k (underway_here link_move me (Put 0 0) k (omega (arith, ap length alone))) in
    let till : h ⊑ k = record { rest = first.rest; is = first.is } in
    let on : k ⊑ l = record { rest = then.rest; is = then.is } in (
      e.pass,
      e.caller ∙ rw same inv.1,
      subst (λ (z : ℕ). IsOnWay sort g.N.Node.body z c.args.place l (held_at c.go_on-visited.result)) (sym e.caller) e.way,
      e.lies,
      (λ op. subst (λ (z : ℕ). Underway link_move z op h l) (sym e.caller) (e.under op h (under op))),
      subst (λ (z : ℕ). MakesNone z h l) (sym e.caller) (makes_both me h k l till on makes e.makes),
      does_to MaySearch me c.go_on-visited.new.pass.caller h k l e.caller does e.leaves,
    )

pub loop-init : goal.loop-init
loop-init g c = let sort = sort_of g.N.Node.layout g.N.Node.ranged in let e = c.enter-visited.ensures in let h = seen_of c.args.pass.now in let k = seen_of c.enter-visited.new.pass in (
  e.pass,
  e.caller,
  subst (λ (z : ℕ). IsOnWay sort g.N.Node.body z c.args.place k (held_at c.enter-visited.result)) (sym e.caller) e.way,
  e.lies,
  (λ op. subst (λ (z : ℕ). Underway link_move z op h k) (sym e.caller) (e.under op)),
  subst (λ (z : ℕ). MakesNone z h k) (sym e.caller) e.makes,
  subst (λ (z : ℕ). DoesOnly MaySearch z h k) (sym e.caller) e.leaves,
)
