use Rattle.std.proofs.Common.{◌≡◌, ◌∙◌, ℕ, length, true, false, arith, refl, sym, ap, inl, inr}
use Rattle.std.specs.Prelude.{Some}
use Rattle.ks_history.specs.Trace.{graph_after}
use Rattle.ks_history.specs.Frames.{frame_after}
use Rattle.ks_arena.specs.Sound.{blank_of, sort_of}
use Rattle.ks_arena.specs.Clauses.{seen_of}
use Rattle.ks_shape.specs.Laws.Stretches.{stretches_here}
use Rattle.ks_shape.specs.Laws.Frees.{frees_here}
use Rattle.ks_tidy.proofs.Standing.{plain, stands_now}
use Rattle.ks_tidy.proofs.Steps.{did_as, places_here, sole_is}
use Rattle.ks_shape.specs.Does.{MayDel}
use Rattle.ks_shape.specs.Laws.Does.{does_none}
use Rattle.ks_tidy.proofs.step.tidy_child.Goals as goal

pub returns-then-thorough-clause-step : goal.returns-then-thorough-clause-step
returns-then-thorough-clause-step g c = did_as (sort_of g.N.Node.layout g.N.Node.ranged) g.N.Node.body c.args.pass.now.caller (seen_of c.args.pass.now) (seen_of c.merge.new.pass) c.args.thorough (record { parent = Some c.args.parent; node = c.args.node }) c.merge.result c.merge.ensures.step

pub returns-then-is_low-clause-step : goal.returns-then-is_low-clause-step
returns-then-is_low-clause-step g c = did_as (sort_of g.N.Node.layout g.N.Node.ranged) g.N.Node.body c.args.pass.now.caller (seen_of c.args.pass.now) (seen_of c.merge-then-is_low.new.pass) c.args.thorough (record { parent = Some c.args.parent; node = c.args.node }) c.merge-then-is_low.result c.merge-then-is_low.ensures.step

pub returns-clause-places : goal.returns-clause-places
returns-clause-places g c = places_here (graph_after (seen_of c.args.pass.now)) c.args.node.node

pub returns-clause-stretch : goal.returns-clause-stretch
returns-clause-stretch g c = stretches_here c.args.pass.now.caller (seen_of c.args.pass.now) (omega (arith, ap length c.requires.pair.path.hands))

pub returns-clause-step : goal.returns-clause-step
returns-clause-step g c = record {
  same = refl;
  frees = frees_here c.args.pass.now.caller (seen_of c.args.pass.now);
  no_sole = c.has_sole.ensures.none c.if-has_sole.false;
  tested = λ whole which alone. absurd (elim which [
    | inl on ↦ (let q : false ≡ true = sym c.if-thorough.false ∙ on in let z : ⊥ = cc in z)
    | inr low ↦ (let q : false ≡ true = sym (sym c.is_low.ensures ∙ c.if-is_low.false) ∙ low in let z : ⊥ = cc in z)
  ]);
}

pub take_over-requires-clause-sole : goal.take_over-requires-clause-sole
take_over-requires-clause-sole g c = let sort = sort_of g.N.Node.layout g.N.Node.ranged in let h = seen_of c.args.pass.now in let y = c.args.parent in let under = c.requires.pair.path.under in let u = g.N.Node.body y.body in
    let sole = c.has_sole.ensures.sole c.if-has_sole.true in
    let stands = stands_now sort g.N.Node.body h y under.live under.matches (plain u c.node_law.ensures.sound c.node_law.ensures.framed (c.unlinked_law.ensures.no_link y.body)) in
    let all = ((c.tests_law.ensures.only_child (graph_after h) (frame_after (blank_of sort) h) y.node sole.0 u stands).0 sole.1).1 in
    sole.1 ∙ ap (λ (z : ℕ). Some z) (sole_is u c.args.place c.args.node.node sole.0 all under.leads)

pub returns-then-thorough-clause-dels : goal.returns-then-thorough-clause-dels
returns-then-thorough-clause-dels g c = λ off. absurd (let q : true ≡ false = sym c.if-thorough.true ∙ off in let z : ⊥ = cc in z)

pub returns-then-is_low-clause-dels : goal.returns-then-is_low-clause-dels
returns-then-is_low-clause-dels g c = λ off. c.merge-then-is_low.ensures.dels (sym c.is_low.ensures ∙ c.if-is_low.true)

pub returns-clause-dels : goal.returns-clause-dels
returns-clause-dels g c = λ off. does_none (MayDel (sort_of g.N.Node.layout g.N.Node.ranged)) c.args.pass.now.caller (seen_of c.args.pass.now)

pub returns-then-has_sole-clause-dels : goal.returns-then-has_sole-clause-dels
returns-then-has_sole-clause-dels g c = λ off. c.take_over.ensures.dels
