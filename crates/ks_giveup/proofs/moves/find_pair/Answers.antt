use Rattle.std.proofs.Common.{ℕ, ◌<◌, ◌∙◌, subst, arith}
use Rattle.ks_history.specs.declared.Op.TheVariants.{Move}
use Rattle.ks_history.specs.Done.{give_up}
use Rattle.ks_history.specs.Underway.{Underway}
use Rattle.ks_flow.specs.Discipline.{BeginsTree, TreeStep}
use Rattle.ks_node.specs.Edges.{record_of}
use Rattle.ks_arena.specs.Sound.{sort_of}
use Rattle.ks_arena.specs.Clauses.{seen_of}
use Rattle.ks_shape.specs.Does.{MaySearch}
use Rattle.ks_shape.specs.Laws.Does.{does_on}
use Rattle.ks_shape.specs.Laws.Single.{is_near, record_is}
use Rattle.ks_pair.specs.Laws.Ends.{ends_too}
use Rattle.ks_giveup.proofs.Moving.{as_new}
use Rattle.ks_giveup.proofs.moves.find_pair.Goals as goal

pub returns-then-ends_at-clause-came : goal.returns-then-ends_at-clause-came
returns-then-ends_at-clause-came g c = let sort = sort_of g.N.Node.layout g.N.Node.ranged in let e = c.find-held.ensures in let k = seen_of c.find-held.new.pass in
    let facts = c.sound_law.ensures.facts sort c.args.arena.now.table.shared.table_id.slots k e.pass.sound in
    (ends_too sort g.N.Node.body c.find-held.new.pass.caller c.args.high c.args.low k c.find-held.result facts c.ends_at.ensures.ranged e.ends (c.ends_at.ensures.ends c.if-ends_at.true), e.ends)

pub returns-then-ends_at-clause-under : goal.returns-then-ends_at-clause-under
returns-then-ends_at-clause-under g c = λ from to start under. c.find-held.ensures.on (Move from to) start under

pub take_other-requires-clause-other : goal.take_other-requires-clause-other
take_other-requires-clause-other g c = let sort = sort_of g.N.Node.layout g.N.Node.ranged in let n : ℕ = c.args.arena.now.table.shared.table_id.slots in let e = c.find-held.ensures in let k = seen_of c.find-held.new.pass in let x = c.find-held.result in
    let near : c.find-held.result.node < n = is_near sort BeginsTree TreeStep n k c.find-held.result.node (omega arith) e.pass.sound (record_of (g.N.Node.body x.body), record_is sort g.N.Node.body k x e.ends.live e.ends.matches) in omega arith

pub returns-clause-leaves : goal.returns-clause-leaves
returns-clause-leaves g c = let me : ℕ = c.args.pass.now.caller in let s = seen_of c.args.pass.now in
    let e₁ = c.find-held.ensures in let a₁ : ℕ = c.find-held.new.pass.caller in let h₁ = seen_of c.find-held.new.pass in let e₂ = c.give_last.ensures in let a₂ : ℕ = c.give_last.new.pass.caller in let h₂ = seen_of c.give_last.new.pass in
    let e₃ = c.find-held-2.ensures in let a₃ : ℕ = c.find-held-2.new.pass.caller in let h₃ = seen_of c.find-held-2.new.pass in
    does_on MaySearch me a₃ s h₃ (seen_of c.take_other.new.pass) (e₃.caller ∙ e₂.caller ∙ e₁.caller)
    (does_on MaySearch me a₂ s h₂ h₃ (e₂.caller ∙ e₁.caller) (does_on MaySearch me a₁ s h₁ h₂ e₁.caller e₁.leaves e₂.leaves) e₃.leaves) c.take_other.ensures.leaves

pub returns-clause-under : goal.returns-clause-under
returns-clause-under g c = λ from to start under. let me : ℕ = c.args.pass.now.caller in
    let e₁ = c.find-held.ensures in let a₁ : ℕ = c.find-held.new.pass.caller in let h₁ = seen_of c.find-held.new.pass in let e₂ = c.give_last.ensures in let a₂ : ℕ = c.give_last.new.pass.caller in let h₂ = seen_of c.give_last.new.pass in
    let e₃ = c.find-held-2.ensures in let a₃ : ℕ = c.find-held-2.new.pass.caller in let h₃ = seen_of c.find-held-2.new.pass in
    subst (λ (z : ℕ). Underway give_up z (Move from to) start (seen_of c.take_other.new.pass)) (e₃.caller ∙ e₂.caller ∙ e₁.caller)
    (c.take_other.ensures.under from to start (as_new a₂ a₃ from to start h₃ e₃.caller (e₃.on (Move from to) start (as_new a₁ a₂ from to start h₂ e₂.caller (e₂.under give_up (Move from to) start (as_new me a₁ from to start h₁ e₁.caller (e₁.on (Move from to) start under)))))))
