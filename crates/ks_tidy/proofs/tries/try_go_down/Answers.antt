use Rattle.std.proofs.Common.{◌≡◌, ◌∙◌, ℕ, [], sym, subst}
use Rattle.std.specs.Prelude.{Some, None}
use Rattle.ks_history.specs.Own.{hand}
use Rattle.ks_node.specs.declared.start.Next.TheVariants.{Go}
use Rattle.ks_node.specs.Body.{next_at}
use Rattle.ks_arena.specs.declared.held.Held.{Held as Hand}
use Rattle.ks_arena.specs.Sound.{sort_of}
use Rattle.ks_arena.specs.Clauses.{seen_of}
use Rattle.ks_shape.specs.OnWay.{IsOnWay}
use Rattle.ks_shape.specs.Laws.Stretches.{stretches_as, stretches_both}
use Rattle.ks_shape.specs.OnPath.{IsOnPath}
use Rattle.ks_shape.specs.Laws.Frees.{frees_as, frees_both, frees_give, frees_take}
use Rattle.ks_tidy.proofs.Going.{frees_if}
use Rattle.ks_shape.specs.Does.{MaySearch}
use Rattle.ks_shape.specs.Laws.Does.{does_on}
use Rattle.ks_tidy.proofs.tries.try_go_down.Goals as goal

pub try_step_down-requires-clause-way : goal.try_step_down-requires-clause-way
try_step_down-requires-clause-way g c = subst (λ (z : ℕ). IsOnWay (sort_of g.N.Node.layout g.N.Node.ranged) g.N.Node.body z c.args.place (seen_of c.let_go-node.new.pass) c.let_go-node.result) (sym c.let_go-node.ensures.caller) c.let_go-node.ensures.way

pub try_step_down-requires-clause-goes : goal.try_step_down-requires-clause-goes
try_step_down-requires-clause-goes g c = subst (λ (x : Hand g.row.N.Denot). next_at (g.N.Node.body x.body) c.args.place ≡ Go c.args.child) (sym c.let_go-node.ensures.node) c.requires.goes

pub returns-in-Ok-clause-came : goal.returns-in-Ok-clause-came
returns-in-Ok-clause-came g c = record {
  path = subst (λ (z : ℕ). IsOnPath (sort_of g.N.Node.layout g.N.Node.ranged) g.N.Node.body z c.args.place (seen_of c.try_step_down.new.pass) c.in-Ok.below) c.let_go-node.ensures.caller c.in-Ok.ensures.path;
  rooted = λ none. absurd (let q : Some c.let_go-node.result ≡ None = sym c.in-Ok.ensures.parent ∙ none in let z : ⊥ = cc in z);
}

pub returns-in-Ok-clause-stretch : goal.returns-in-Ok-clause-stretch
returns-in-Ok-clause-stretch g c = let me : ℕ = c.args.pass.now.caller in let h = seen_of c.args.pass.now in let h₁ = seen_of c.let_go-node.new.pass in let k = seen_of c.try_step_down.new.pass in
    stretches_both me h h₁ k c.let_go-node.ensures.stretch (stretches_as me c.let_go-node.new.pass.caller h₁ k c.let_go-node.ensures.caller c.try_step_down.ensures.stretch)

pub returns-in-Ok-clause-frees : goal.returns-in-Ok-clause-frees
returns-in-Ok-clause-frees g c = let me : ℕ = c.args.pass.now.caller in let b : ℕ = c.let_go-node.new.pass.caller in let h = seen_of c.args.pass.now in let h₁ = seen_of c.let_go-node.new.pass in let k = seen_of c.try_step_down.new.pass in
    frees_both me 0 0 h h₁ k (frees_if me c.args.path.parent h h₁ c.let_go-node.ensures.gave) (frees_as me b h₁ k c.let_go-node.ensures.caller (frees_take b c.args.child h₁ k c.in-Ok.ensures.took.1))

pub returns-in-Err-clause-came : goal.returns-in-Err-clause-came
returns-in-Err-clause-came g c = subst (λ (z : ℕ). hand z (seen_of c.try_step_down.new.pass) ≡ []) (sym c.try_step_down.ensures.caller) c.in-Err.ensures.path

pub returns-in-Err-clause-stretch : goal.returns-in-Err-clause-stretch
returns-in-Err-clause-stretch g c = let me : ℕ = c.args.pass.now.caller in let h = seen_of c.args.pass.now in let h₁ = seen_of c.let_go-node.new.pass in let k = seen_of c.try_step_down.new.pass in
    stretches_both me h h₁ k c.let_go-node.ensures.stretch (stretches_as me c.let_go-node.new.pass.caller h₁ k c.let_go-node.ensures.caller c.try_step_down.ensures.stretch)

pub returns-in-Err-clause-frees : goal.returns-in-Err-clause-frees
returns-in-Err-clause-frees g c = let me : ℕ = c.args.pass.now.caller in let b : ℕ = c.let_go-node.new.pass.caller in let h = seen_of c.args.pass.now in let h₁ = seen_of c.let_go-node.new.pass in let k = seen_of c.try_step_down.new.pass in
    frees_both me 0 0 h h₁ k (frees_if me c.args.path.parent h h₁ c.let_go-node.ensures.gave) (frees_as me b h₁ k c.let_go-node.ensures.caller (frees_give b c.let_go-node.result.node h₁ k c.in-Err.ensures.took))

pub returns-in-Ok-clause-leaves : goal.returns-in-Ok-clause-leaves
returns-in-Ok-clause-leaves g c = does_on MaySearch c.args.pass.now.caller c.let_go-node.new.pass.caller (seen_of c.args.pass.now) (seen_of c.let_go-node.new.pass) (seen_of c.try_step_down.new.pass) c.let_go-node.ensures.caller c.let_go-node.ensures.leaves c.try_step_down.ensures.leaves

pub returns-in-Err-clause-leaves : goal.returns-in-Err-clause-leaves
returns-in-Err-clause-leaves g c = does_on MaySearch c.args.pass.now.caller c.let_go-node.new.pass.caller (seen_of c.args.pass.now) (seen_of c.let_go-node.new.pass) (seen_of c.try_step_down.new.pass) c.let_go-node.ensures.caller c.let_go-node.ensures.leaves c.try_step_down.ensures.leaves
