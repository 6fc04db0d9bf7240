use Rattle.std.proofs.Common.{◌∙◌, ℕ, sym, subst}
use Rattle.ks_history.specs.Alone.{ActsAlone}
use Rattle.ks_history.specs.Laws.Alone.{alone_then}
use Rattle.ks_arena.specs.Sound.{sort_of}
use Rattle.ks_arena.specs.Clauses.{seen_of}
use Rattle.ks_shape.specs.Stretches.{Stretches}
use Rattle.ks_shape.specs.Laws.Stretches.{stretches_as, stretches_begins, stretches_both}
use Rattle.ks_shape.specs.Does.{MayDel}
use Rattle.ks_shape.specs.Laws.Does.{does_on}
use Rattle.ks_tidy.proofs.Again.{neither}
use Rattle.ks_tidy.proofs.descent.tidy_on.Goals as goal

pub returns-then-comes_again-clause-stretch : goal.returns-then-comes_again-clause-stretch
returns-then-comes_again-clause-stretch g c = let me : ℕ = c.args.pass.now.caller in let h = seen_of c.args.pass.now in let h₁ = seen_of c.tidy_end-ended.new.pass in let k = seen_of c.pair_tidy.new.pass in
    stretches_both me h h₁ k c.tidy_end-ended.ensures.stretch (stretches_as me c.tidy_end-ended.new.pass.caller h₁ k c.tidy_end-ended.ensures.caller c.pair_tidy.ensures.stretch)

pub returns-then-comes_again-clause-tidy : goal.returns-then-comes_again-clause-tidy
returns-then-comes_again-clause-tidy g c = λ alone. let me : ℕ = c.args.pass.now.caller in let h = seen_of c.args.pass.now in let h₁ = seen_of c.tidy_end-ended.new.pass in let k = seen_of c.pair_tidy.new.pass in let e = c.tidy_end-ended.ensures in
    let on : Stretches me h₁ k = stretches_as me c.tidy_end-ended.new.pass.caller h₁ k e.caller c.pair_tidy.ensures.stretch in
    let then : ActsAlone me h₁ k = alone_then me h h₁ k (stretches_begins me h h₁ e.stretch) (stretches_begins me h₁ k on) alone in
    c.pair_tidy.ensures.tidy (subst (λ (z : ℕ). ActsAlone z h₁ k) (sym e.caller) then)

pub returns-then-comes_again-clause-dels : goal.returns-then-comes_again-clause-dels
returns-then-comes_again-clause-dels g c = does_on (MayDel (sort_of g.N.Node.layout g.N.Node.ranged)) c.args.pass.now.caller c.tidy_end-ended.new.pass.caller (seen_of c.args.pass.now) (seen_of c.tidy_end-ended.new.pass) (seen_of c.pair_tidy.new.pass) c.tidy_end-ended.ensures.caller c.tidy_end-ended.ensures.dels c.pair_tidy.ensures.dels

pub returns-clause-tidy : goal.returns-clause-tidy
returns-clause-tidy g c = λ alone. c.tidy_end-ended.ensures.tidy (λ on. let off = neither c.args.again c.tidy_end-ended.result.again (sym c.either.ensures ∙ c.comes_again.ensures.ends c.if-comes_again.false on) in (c.requires.whole off.0, off.1)) alone
