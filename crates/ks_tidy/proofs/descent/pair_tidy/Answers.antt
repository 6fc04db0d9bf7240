use Rattle.std.proofs.Common.{◌∙◌, ℕ, refl, sym, ap, subst, length, arith}
use Rattle.ks_history.specs.Alone.{ActsAlone}
use Rattle.ks_history.specs.Laws.Alone.{alone_then}
use Rattle.ks_arena.specs.Sound.{sort_of}
use Rattle.ks_arena.specs.Clauses.{seen_of}
use Rattle.ks_shape.specs.Stretches.{Stretches}
use Rattle.ks_shape.specs.Laws.Stretches.{stretches_as, stretches_begins, stretches_both, stretches_here}
use Rattle.ks_shape.specs.Laws.Frees.{counts_as, counts_both, counts_of, frees_here}
use Rattle.ks_shape.specs.Does.{MayDel}
use Rattle.ks_shape.specs.Laws.Does.{does_none, does_on}
use Rattle.ks_tidy.proofs.descent.pair_tidy.Goals as goal

pub loop-init : goal.loop-init
loop-init g c = let me : ℕ = c.args.pass.now.caller in let s = seen_of c.args.pass.now in (
  c.requires.pass.0,
  c.requires.pass.1,
  refl,
  stretches_here me s (omega (arith, ap length c.requires.pass.1)),
  counts_of me 0 s s (omega arith) (frees_here me s),
  does_none (MayDel (sort_of g.N.Node.layout g.N.Node.ranged)) me s,
)

pub loop-preserved : goal.loop-preserved
loop-preserved g c = let me : ℕ = c.args.pass.now.caller in let s = seen_of c.args.pass.now in let h = seen_of c.loop.pass in let k = seen_of c.sweep-swept.new.pass in let b : ℕ = c.loop.pass.caller in let inv = c.loop.invariant in let e = c.sweep-swept.ensures in (
  e.pass.0,
  e.pass.1,
  e.caller ∙ inv.2,
  stretches_both me s h k inv.3 (stretches_as me b h k inv.2 e.stretch),
  counts_both me c.loop.freed c.sweep-swept.result.freed s h k inv.4 (counts_as me b c.sweep-swept.result.freed h k inv.2 e.counts),
  does_on (MayDel (sort_of g.N.Node.layout g.N.Node.ranged)) me b s h k inv.2 inv.5 e.dels,
)

pub returns-then-not-comes_again-clause-stretch : goal.returns-then-not-comes_again-clause-stretch
returns-then-not-comes_again-clause-stretch g c = let me : ℕ = c.args.pass.now.caller in let s = seen_of c.args.pass.now in let h = seen_of c.loop.pass in let k = seen_of c.sweep-swept.new.pass in let inv = c.loop.invariant in
    stretches_both me s h k inv.3 (stretches_as me c.loop.pass.caller h k inv.2 c.sweep-swept.ensures.stretch)

pub returns-then-not-comes_again-clause-counts : goal.returns-then-not-comes_again-clause-counts
returns-then-not-comes_again-clause-counts g c = let me : ℕ = c.args.pass.now.caller in let s = seen_of c.args.pass.now in let h = seen_of c.loop.pass in let k = seen_of c.sweep-swept.new.pass in let inv = c.loop.invariant in
    counts_both me c.loop.freed c.sweep-swept.result.freed s h k inv.4 (counts_as me c.loop.pass.caller c.sweep-swept.result.freed h k inv.2 c.sweep-swept.ensures.counts)

pub returns-then-not-comes_again-clause-tidy : goal.returns-then-not-comes_again-clause-tidy
returns-then-not-comes_again-clause-tidy g c = λ alone. let me : ℕ = c.args.pass.now.caller in let s = seen_of c.args.pass.now in let h = seen_of c.loop.pass in let k = seen_of c.sweep-swept.new.pass in let inv = c.loop.invariant in let e = c.sweep-swept.ensures in
    let on : Stretches me h k = stretches_as me c.loop.pass.caller h k inv.2 e.stretch in
    let then : ActsAlone me h k = alone_then me s h k (stretches_begins me s h inv.3) (stretches_begins me h k on) alone in
    e.tidy (c.comes_again.ensures.ends c.if-not-comes_again.true) (subst (λ (z : ℕ). ActsAlone z h k) (sym inv.2) then)

pub returns-then-not-comes_again-clause-dels : goal.returns-then-not-comes_again-clause-dels
returns-then-not-comes_again-clause-dels g c = let inv = c.loop.invariant in does_on (MayDel (sort_of g.N.Node.layout g.N.Node.ranged)) c.args.pass.now.caller c.loop.pass.caller (seen_of c.args.pass.now) (seen_of c.loop.pass) (seen_of c.sweep-swept.new.pass) inv.2 inv.5 c.sweep-swept.ensures.dels
