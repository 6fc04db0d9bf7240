use Rattle.std.proofs.Common.{ℕ, List, [], ◌∷◌, length, inl, refl, sym, ap, ◌∙◌, arith}
use Rattle.ks_history.specs.Done.{first_taken}
use Rattle.ks_history.specs.Laws.Begins.{by_others_begins}
use Rattle.ks_history.specs.Laws.Underway.{underway_others}
use Rattle.ks_arena.specs.Sound.{sort_of}
use Rattle.ks_arena.specs.Clauses.{seen_of}
use Rattle.ks_shape.specs.Laws.Single.{takes}
use Rattle.ks_shape.specs.Laws.Stretches.{root_begins, stretches_others, stretches_root}
use Rattle.ks_shape.specs.Laws.Down.{busy_since}
use Rattle.ks_shape.proofs.try_path.try_enter.Goals as goal
use Rattle.ks_shape.specs.Does.{MaySearch}
use Rattle.ks_shape.specs.Laws.Does.{does_others, searches_take}

pub returns-in-Held-clause-path : goal.returns-in-Held-clause-path
returns-in-Held-clause-path g c = let took = c.in-Held.ensures.took in record {
  hands = took.hand ∙ ap (λ (z : List ℕ). 0 ∷ z) c.requires.pass.1 ∙ ap (λ (i : ℕ). i ∷ []) (sym took.node);
  live = took.live;
  matches = took.matches;
  inside = c.root_law.ensures _ (seen_of c.try_take.new.pass) took.node took.live took.matches;
  under = inl took.node;
}

pub returns-in-Held-clause-took : goal.returns-in-Held-clause-took
returns-in-Held-clause-took g c = (c.in-Held.ensures.took.node, c.in-Held.ensures.took.grows)

pub returns-in-Held-clause-under : goal.returns-in-Held-clause-under
returns-in-Held-clause-under g c = λ template op start under. takes (sort_of g.N.Node.layout g.N.Node.ranged) g.N.Node.body template c.args.pass.now.caller 0 op start (seen_of c.args.pass.now) (seen_of c.try_take.new.pass) c.in-Held.node (λ k e. first_taken e (root_begins template)) c.requires.pass.1 c.in-Held.ensures.took under

pub returns-in-Held-clause-stretch : goal.returns-in-Held-clause-stretch
returns-in-Held-clause-stretch g c = let took = c.in-Held.ensures.took in let h = seen_of c.args.pass.now in
    stretches_root c.args.pass.now.caller h (seen_of c.try_take.new.pass) c.requires.pass.1 (omega (arith, ap length (took.hand ∙ ap (λ (z : List ℕ). 0 ∷ z) c.requires.pass.1))) took.grows

pub returns-in-Busy-clause-path : goal.returns-in-Busy-clause-path
returns-in-Busy-clause-path g c = c.in-Busy.ensures.took.0.hand ∙ c.requires.pass.1

pub returns-in-Busy-clause-took : goal.returns-in-Busy-clause-took
returns-in-Busy-clause-took g c = c.in-Busy.ensures.took.0.grows

pub returns-in-Busy-clause-busy : goal.returns-in-Busy-clause-busy
returns-in-Busy-clause-busy g c = λ start since op touched. let me : ℕ = c.args.pass.now.caller in let h = seen_of c.args.pass.now in let k = seen_of c.try_take.new.pass in let took = c.in-Busy.ensures.took in
    busy_since me 0 c.in-Busy.holder c.args.place op start h k since (by_others_begins me h k took.0.grows) touched (inl refl) took.1 took.2

pub returns-in-Busy-clause-under : goal.returns-in-Busy-clause-under
returns-in-Busy-clause-under g c = λ template op start under. underway_others template c.args.pass.now.caller op start (seen_of c.args.pass.now) (seen_of c.try_take.new.pass) c.in-Busy.ensures.took.0.grows under

pub returns-in-Busy-clause-stretch : goal.returns-in-Busy-clause-stretch
returns-in-Busy-clause-stretch g c = stretches_others c.args.pass.now.caller (seen_of c.args.pass.now) (seen_of c.try_take.new.pass) (omega (arith, ap length c.requires.pass.1)) c.in-Busy.ensures.took.0.grows

pub returns-in-Held-clause-leaves : goal.returns-in-Held-clause-leaves
returns-in-Held-clause-leaves g c = searches_take c.args.pass.now.caller 0 (seen_of c.args.pass.now) (seen_of c.try_take.new.pass) c.in-Held.ensures.took.grows

pub returns-in-Busy-clause-leaves : goal.returns-in-Busy-clause-leaves
returns-in-Busy-clause-leaves g c = does_others MaySearch c.args.pass.now.caller (seen_of c.args.pass.now) (seen_of c.try_take.new.pass) c.in-Busy.ensures.took.0.grows
