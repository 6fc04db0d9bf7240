use Rattle.std.proofs.Common.{◌≡◌, ◌∙◌, length, true, false, arith, refl, sym, ap, inl, inr}
use Rattle.std.specs.Prelude.{None}
use Rattle.ks_history.specs.Trace.{graph_after}
use Rattle.ks_arena.specs.Sound.{sort_of}
use Rattle.ks_arena.specs.Clauses.{seen_of}
use Rattle.ks_shape.specs.Laws.Stretches.{stretches_here}
use Rattle.ks_shape.specs.Laws.Frees.{frees_here}
use Rattle.ks_tidy.proofs.Steps.{did_as, places_here}
use Rattle.ks_shape.specs.Does.{MayDel}
use Rattle.ks_shape.specs.Laws.Does.{does_none}
use Rattle.ks_tidy.proofs.step.tidy_root.Goals as goal

pub returns-then-thorough-clause-step : goal.returns-then-thorough-clause-step
returns-then-thorough-clause-step g c = did_as (sort_of g.N.Node.layout g.N.Node.ranged) g.N.Node.body c.args.pass.now.caller (seen_of c.args.pass.now) (seen_of c.merge.new.pass) c.args.thorough (record { parent = None; node = c.args.root }) c.merge.result c.merge.ensures.step

pub returns-then-is_low-clause-step : goal.returns-then-is_low-clause-step
returns-then-is_low-clause-step g c = did_as (sort_of g.N.Node.layout g.N.Node.ranged) g.N.Node.body c.args.pass.now.caller (seen_of c.args.pass.now) (seen_of c.merge-then-is_low.new.pass) c.args.thorough (record { parent = None; node = c.args.root }) c.merge-then-is_low.result c.merge-then-is_low.ensures.step

pub returns-clause-places : goal.returns-clause-places
returns-clause-places g c = places_here (graph_after (seen_of c.args.pass.now)) c.args.root.node

pub returns-clause-stretch : goal.returns-clause-stretch
returns-clause-stretch g c = stretches_here c.args.pass.now.caller (seen_of c.args.pass.now) (omega (arith, ap length c.requires.pair.path.hands))

pub returns-clause-step : goal.returns-clause-step
returns-clause-step g c = record {
  same = refl;
  frees = frees_here c.args.pass.now.caller (seen_of c.args.pass.now);
  no_sole = tt;
  tested = λ whole which alone. absurd (elim which [
    | inl on ↦ (let q : false ≡ true = sym c.if-thorough.false ∙ on in let z : ⊥ = cc in z)
    | inr low ↦ (let q : false ≡ true = sym (sym c.is_low.ensures ∙ c.if-is_low.false) ∙ low in let z : ⊥ = cc in z)
  ]);
}

pub returns-then-thorough-clause-dels : goal.returns-then-thorough-clause-dels
returns-then-thorough-clause-dels g c = λ off. absurd (let q : true ≡ false = sym c.if-thorough.true ∙ off in let z : ⊥ = cc in z)

pub returns-then-is_low-clause-dels : goal.returns-then-is_low-clause-dels
returns-then-is_low-clause-dels g c = λ off. c.merge-then-is_low.ensures.dels (sym c.is_low.ensures ∙ c.if-is_low.true)

pub returns-clause-dels : goal.returns-clause-dels
returns-clause-dels g c = λ off. does_none (MayDel (sort_of g.N.Node.layout g.N.Node.ranged)) c.args.pass.now.caller (seen_of c.args.pass.now)
