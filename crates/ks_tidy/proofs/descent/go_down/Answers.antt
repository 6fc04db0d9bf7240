use Rattle.std.proofs.Common.{◌≡◌, ◌∙◌, ℕ, sym, ap, subst}
use Rattle.std.specs.Prelude.{Some, None}
use Rattle.ks_history.specs.Passes.{GrowsWith}
use Rattle.ks_history.specs.declared.Event.TheVariants.{Take}
use Rattle.ks_node.specs.declared.start.Next.TheVariants.{Go}
use Rattle.ks_node.specs.Body.{next_at}
use Rattle.ks_arena.specs.declared.held.Held.{Held as Hand}
use Rattle.ks_arena.specs.Sound.{sort_of}
use Rattle.ks_arena.specs.Clauses.{seen_of}
use Rattle.ks_shape.specs.OnWay.{IsOnWay}
use Rattle.ks_shape.specs.Laws.Stretches.{stretches_as, stretches_both}
use Rattle.ks_shape.specs.OnPath.{IsOnPath}
use Rattle.ks_shape.specs.Laws.Frees.{frees_both, frees_take}
use Rattle.ks_tidy.proofs.Going.{frees_if}
use Rattle.ks_shape.specs.Does.{MaySearch}
use Rattle.ks_shape.specs.Laws.Does.{does_on}
use Rattle.ks_tidy.proofs.descent.go_down.Goals as goal

pub step_down-requires-clause-way : goal.step_down-requires-clause-way
step_down-requires-clause-way g c = subst (λ (z : ℕ). IsOnWay (sort_of g.N.Node.layout g.N.Node.ranged) g.N.Node.body z c.args.place (seen_of c.let_go-node.new.pass) c.let_go-node.result) (sym c.let_go-node.ensures.caller) c.let_go-node.ensures.way

pub step_down-requires-clause-goes : goal.step_down-requires-clause-goes
step_down-requires-clause-goes g c = subst (λ (x : Hand g.row.N.Denot). next_at (g.N.Node.body x.body) c.args.place ≡ Go c.args.child) (sym c.let_go-node.ensures.node) c.requires.goes

pub returns-clause-pair : goal.returns-clause-pair
returns-clause-pair g c = record {
  path = subst (λ (z : ℕ). IsOnPath (sort_of g.N.Node.layout g.N.Node.ranged) g.N.Node.body z c.args.place (seen_of c.step_down.new.pass) c.step_down.result) c.let_go-node.ensures.caller c.step_down.ensures.path;
  rooted = λ none. absurd (let q : Some c.let_go-node.result ≡ None = sym c.step_down.ensures.parent ∙ none in let z : ⊥ = cc in z);
}

pub returns-clause-parent : goal.returns-clause-parent
returns-clause-parent g c = c.step_down.ensures.parent ∙ ap (λ (x : Hand g.row.N.Denot). Some x) c.let_go-node.ensures.node

pub returns-clause-stretch : goal.returns-clause-stretch
returns-clause-stretch g c = let me : ℕ = c.args.pass.now.caller in let h = seen_of c.args.pass.now in let h₁ = seen_of c.let_go-node.new.pass in let k = seen_of c.step_down.new.pass in
    stretches_both me h h₁ k c.let_go-node.ensures.stretch (stretches_as me c.let_go-node.new.pass.caller h₁ k c.let_go-node.ensures.caller c.step_down.ensures.stretch)

pub returns-clause-frees : goal.returns-clause-frees
returns-clause-frees g c = let me : ℕ = c.args.pass.now.caller in let h = seen_of c.args.pass.now in let h₁ = seen_of c.let_go-node.new.pass in let k = seen_of c.step_down.new.pass in
    let took : GrowsWith me (Take me c.args.child) h₁ k = subst (λ (z : ℕ). GrowsWith z (Take z c.args.child) h₁ k) c.let_go-node.ensures.caller c.step_down.ensures.took in
    frees_both me 0 0 h h₁ k (frees_if me c.args.path.parent h h₁ c.let_go-node.ensures.gave) (frees_take me c.args.child h₁ k took)

pub returns-clause-leaves : goal.returns-clause-leaves
returns-clause-leaves g c = does_on MaySearch c.args.pass.now.caller c.let_go-node.new.pass.caller (seen_of c.args.pass.now) (seen_of c.let_go-node.new.pass) (seen_of c.step_down.new.pass) c.let_go-node.ensures.caller c.let_go-node.ensures.leaves c.step_down.ensures.leaves
