use Rattle.std.proofs.Common.{ℕ, List, [], ◌∷◌, length, sym, ap, ◌∙◌, arith}
use Rattle.ks_history.specs.declared.Event.TheVariants.{Take}
use Rattle.ks_history.specs.Done.{first_taken}
use Rattle.ks_arena.specs.Sound.{sort_of}
use Rattle.ks_arena.specs.Clauses.{seen_of}
use Rattle.ks_arena.specs.Visits.{held_at}
use Rattle.ks_shape.specs.Laws.Makes.{makes_with}
use Rattle.ks_shape.specs.Laws.Single.{takes}
use Rattle.ks_shape.specs.Laws.Stretches.{root_begins, stretches_root}
use Rattle.ks_shape.specs.Laws.Does.{searches_take}
use Rattle.ks_shape.proofs.visits.visit_root.Goals as goal

pub returns-clause-way : goal.returns-clause-way
returns-clause-way g c = let took = c.in-Some.ensures.took in record {
  alone = took.hand ∙ ap (λ (z : List ℕ). 0 ∷ z) c.requires.pass.1 ∙ ap (λ (i : ℕ). i ∷ []) (sym took.node);
  live = took.live;
  matches = took.matches;
  inside = c.root_law.ensures (held_at c.in-Some.root) (seen_of c.visit.new.pass) took.node took.live took.matches;
}

pub returns-clause-under : goal.returns-clause-under
returns-clause-under g c = λ template op start under. takes (sort_of g.N.Node.layout g.N.Node.ranged) g.N.Node.body template c.args.pass.now.caller 0 op start (seen_of c.args.pass.now) (seen_of c.visit.new.pass) (held_at c.in-Some.root) (λ k e. first_taken e (root_begins template)) c.requires.pass.1 c.in-Some.ensures.took under

pub returns-clause-makes : goal.returns-clause-makes
returns-clause-makes g c = let me : ℕ = c.args.pass.now.caller in makes_with me (Take me 0) (seen_of c.args.pass.now) (seen_of c.visit.new.pass) tt c.in-Some.ensures.took.grows

pub returns-clause-stretch : goal.returns-clause-stretch
returns-clause-stretch g c = let e = c.in-Some.ensures in let h = seen_of c.args.pass.now in
    stretches_root c.args.pass.now.caller h (seen_of c.visit.new.pass) c.requires.pass.1 (omega (arith, ap length (e.took.hand ∙ ap (λ (z : List ℕ). 0 ∷ z) c.requires.pass.1))) e.took.grows

pub returns-clause-leaves : goal.returns-clause-leaves
returns-clause-leaves g c = searches_take c.args.pass.now.caller 0 (seen_of c.args.pass.now) (seen_of c.visit.new.pass) c.in-Some.ensures.took.grows
