use Rattle.std.proofs.Common.{ℕ, ◌∙◌, subst}
use Rattle.ks_history.specs.declared.Event.TheVariants.{Give}
use Rattle.ks_history.specs.Passes.{GrowsWith}
use Rattle.ks_history.specs.Laws.Begins.{by_others_with}
use Rattle.ks_arena.specs.Clauses.{seen_of, KeptBut}
use Rattle.ks_arena.proofs.Rest.{rest_but}
use Rattle.ks_arena.proofs.arena.Arena.give.Goals as goal

pub returns-then-held-clause-rest : goal.returns-then-held-clause-rest
returns-then-held-clause-rest g c = rest_but c.args.self.now c.args.pass.now _ c.requires.pass c.args.held.node c.put_back.ensures.kept

pub returns-else-held-clause-gave : goal.returns-else-held-clause-gave
returns-else-held-clause-gave g c = let me : ℕ = c.args.pass.now.caller in let i : ℕ = c.args.held.node in
    let gave = subst (λ (z : ℕ). GrowsWith z (Give z i) (seen_of c.set_bit.new.pass) (seen_of c.put_back-else-held.new.pass)) c.set_bit.ensures.caller c.put_back-else-held.ensures.gave in
    by_others_with me (Give me i) (seen_of c.args.pass.now) (seen_of c.set_bit.new.pass) (seen_of c.put_back-else-held.new.pass) c.set_bit.ensures.looked.grows gave

pub returns-else-held-clause-rest : goal.returns-else-held-clause-rest
returns-else-held-clause-rest g c = let i : ℕ = c.args.held.node in let h₁ = seen_of c.set_bit.new.pass in
    let gave = subst (λ (z : ℕ). KeptBut i z h₁ (seen_of c.put_back-else-held.new.pass)) c.set_bit.ensures.caller c.put_back-else-held.ensures.kept in
    rest_but c.args.self.now c.args.pass.now _ c.requires.pass i (λ j ne x. let a = c.set_bit.ensures.rest.kept j x in let b = gave j ne a.turn in record { turn = b.turn; state = b.state ∙ a.state; frame = λ blank. b.frame blank ∙ a.frame blank })
