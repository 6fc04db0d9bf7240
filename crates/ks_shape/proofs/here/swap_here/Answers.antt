use Rattle.std.proofs.Common.{◌≡◌, ◌∙◌, ℕ, refl, sym, ap, subst}
use Rattle.std.specs.Prelude.{None, Some}
use Rattle.ks_history.specs.declared.Op.TheVariants.{Swap}
use Rattle.ks_history.specs.Map.{told}
use Rattle.ks_node.specs.Body.{value_at}
use Rattle.ks_arena.specs.declared.held.Held.{Held as Hand}
use Rattle.ks_arena.specs.Sound.{sort_of}
use Rattle.ks_arena.specs.Clauses.{IsReady, seen_of}
use Rattle.ks_shape.specs.Laws.SearchEnd.{unbranched, below_own}
use Rattle.ks_shape.proofs.Concludes.{framed_before}
use Rattle.ks_shape.proofs.here.swap_here.Goals as goal

pub put-requires-clause-no_branch : goal.put-requires-clause-no_branch
put-requires-clause-no_branch g c = unbranched (sort_of g.N.Node.layout g.N.Node.ranged) g.N.Node.body c.args.pass.now.caller c.args.place (seen_of c.args.pass.now) c.args.held c.requires.ends c.node_law.ensures.sound

pub put-requires-clause-below_own : goal.put-requires-clause-below_own
put-requires-clause-below_own g c = below_own (sort_of g.N.Node.layout g.N.Node.ranged) g.N.Node.body c.args.pass.now.caller c.args.place (seen_of c.args.pass.now) c.args.held c.requires.ends c.node_law.ensures.sound

pub put-requires-clause-room : goal.put-requires-clause-room
put-requires-clause-room g c = λ absent. absurd (let e : Some c.in-Some.found ≡ None = sym (sym c.get.ensures ∙ c.in-Some.is) ∙ absent in let q : ⊥ = cc in q)

pub conclude_found-number-requires-clause-ready : goal.conclude_found-number-requires-clause-ready
conclude_found-number-requires-clause-ready g c κs within = let b = g.N.Node.body c.args.held.body in let at : value_at b.pairs c.args.place ≡ None = sym c.get.ensures ∙ c.in_default.is in
    subst (IsReady (sort_of g.N.Node.layout g.N.Node.ranged) g.N.Node.body c.args.arena.now.nodes c.args.pass.now.caller (seen_of c.args.pass.now) c.args.held (Swap c.args.place c.args.old c.args.new)) (ap told at) (c.swap_law.ensures.stays (λ e. let q : None ≡ Some c.args.old = sym at ∙ e in let z : ⊥ = cc in z))

pub conclude_found-number-requires-then-found-old-clause-ready : goal.conclude_found-number-requires-then-found-old-clause-ready
conclude_found-number-requires-then-found-old-clause-ready g c κs within = let b = g.N.Node.body c.args.held.body in let at : value_at b.pairs c.args.place ≡ Some c.in-Some.found = sym c.get.ensures ∙ c.in-Some.is in
    subst (IsReady (sort_of g.N.Node.layout g.N.Node.ranged) g.N.Node.body c.args.arena.now.nodes c.args.pass.now.caller (seen_of c.args.pass.now) c.args.held (Swap c.args.place c.args.old c.args.new)) (ap told at) (c.swap_law.ensures.stays (λ e. let q : Some c.in-Some.found ≡ Some c.args.old = sym at ∙ e in c.if-found-old.true (let same : c.in-Some.found ≡ c.args.old = cc in same)))

pub conclude_found-number-requires-2-clause-ready : goal.conclude_found-number-requires-2-clause-ready
conclude_found-number-requires-2-clause-ready g c κs within = let x : Hand g.row.N.Denot = record { node = c.args.held.node; body = c.put.new.self; live = c.args.held.live } in
    c.swap_law.ensures.swaps (sym c.get.ensures ∙ c.in-Some.is ∙ ap (λ (v : ℕ). Some v) c.if-found-old.false) x refl c.requires.ends.live c.put.ensures.body

pub returns-clause-at : goal.returns-clause-at
returns-clause-at g c = λ template start under. let b = g.N.Node.body c.args.held.body in framed_before b (g.N.Node.body c.put.new.self) _ c.put.ensures.body (c.conclude_found-number-2.ensures.at template start under)
