use Rattle.std.proofs.Common.{◌∙◌, ℕ, arith, refl, subst}
use Rattle.ks_arena.specs.Sound.{sort_of}
use Rattle.ks_arena.specs.Clauses.{hand_of, seen_of}
use Rattle.ks_shape.specs.Laws.Stretches.{stretches_as, stretches_both, stretches_here}
use Rattle.ks_shape.specs.Laws.Frees.{counts_more, counts_of, counts_on, frees_as, frees_here}
use Rattle.ks_tidy.specs.Pair.{IsPair}
use Rattle.ks_tidy.proofs.Keeping.{few_on}
use Rattle.ks_shape.specs.Does.{MayDel}
use Rattle.ks_shape.specs.Laws.Does.{does_none, does_on}
use Rattle.ks_tidy.proofs.tries.try_tidy_at.Goals as goal

-- where it does not merge

pub returns-then-not-merges_at-clause-stretch : goal.returns-then-not-merges_at-clause-stretch
returns-then-not-merges_at-clause-stretch g c = let me : ℕ = c.args.pass.now.caller in stretches_here me (seen_of c.args.pass.now) (let few = few_on c.args.path.parent (hand_of c.args.pass.now) c.args.path.node.node c.requires.pair.path.hands in omega (arith, few))

pub returns-then-not-merges_at-clause-counts : goal.returns-then-not-merges_at-clause-counts
returns-then-not-merges_at-clause-counts g c = let me : ℕ = c.args.pass.now.caller in let h = seen_of c.args.pass.now in counts_of me 0 h h (omega arith) (frees_here me h)

pub returns-then-not-merges_at-clause-dels : goal.returns-then-not-merges_at-clause-dels
returns-then-not-merges_at-clause-dels g c = does_none (MayDel (sort_of g.N.Node.layout g.N.Node.ranged)) c.args.pass.now.caller (seen_of c.args.pass.now)

-- the turns

pub loop-tries-init : goal.loop-tries-init
loop-tries-init g c = let me : ℕ = c.args.pass.now.caller in let h = seen_of c.args.pass.now in (
  c.requires.pass,
  refl,
  c.requires.pair,
  stretches_here me h (let few = few_on c.args.path.parent (hand_of c.args.pass.now) c.args.path.node.node c.requires.pair.path.hands in omega (arith, few)),
  counts_of me 0 h h (omega arith) (frees_here me h),
  does_none (MayDel (sort_of g.N.Node.layout g.N.Node.ranged)) me h,
)

pub loop-tries-preserved : goal.loop-tries-preserved
loop-tries-preserved g c = let me : ℕ = c.args.pass.now.caller in let s = seen_of c.args.pass.now in let h = seen_of c.loop-tries.pass in let k = seen_of c.try_tidy_once.new.pass in let inv = c.loop-tries.invariant in let e = c.try_tidy_once.ensures in (
  e.pass,
  e.caller ∙ inv.1,
  subst (λ (z : ℕ). IsPair (sort_of g.N.Node.layout g.N.Node.ranged) g.N.Node.body z c.args.place k c.in-Freed.next) inv.1 c.in-Freed.ensures.pair,
  stretches_both me s h k inv.3 (stretches_as me c.loop-tries.pass.caller h k inv.1 e.stretch),
  counts_more me c.loop-tries.freed 1 s h k inv.4 (frees_as me c.loop-tries.pass.caller h k inv.1 c.in-Freed.ensures.frees),
  does_on (MayDel (sort_of g.N.Node.layout g.N.Node.ranged)) me c.loop-tries.pass.caller s h k inv.1 inv.5 e.dels,
)

pub returns-in-Rests-clause-pair : goal.returns-in-Rests-clause-pair
returns-in-Rests-clause-pair g c = subst (λ (z : ℕ). IsPair (sort_of g.N.Node.layout g.N.Node.ranged) g.N.Node.body z c.args.place (seen_of c.try_tidy_once.new.pass) c.in-Rests.rest) c.loop-tries.invariant.1 c.in-Rests.ensures.pair

pub returns-in-Rests-clause-stretch : goal.returns-in-Rests-clause-stretch
returns-in-Rests-clause-stretch g c = let me : ℕ = c.args.pass.now.caller in let s = seen_of c.args.pass.now in let h = seen_of c.loop-tries.pass in let k = seen_of c.try_tidy_once.new.pass in let inv = c.loop-tries.invariant in
    stretches_both me s h k inv.3 (stretches_as me c.loop-tries.pass.caller h k inv.1 c.try_tidy_once.ensures.stretch)

pub returns-in-Rests-clause-counts : goal.returns-in-Rests-clause-counts
returns-in-Rests-clause-counts g c = let me : ℕ = c.args.pass.now.caller in let s = seen_of c.args.pass.now in let h = seen_of c.loop-tries.pass in let k = seen_of c.try_tidy_once.new.pass in let inv = c.loop-tries.invariant in
    counts_on me c.loop-tries.freed s h k inv.4 (frees_as me c.loop-tries.pass.caller h k inv.1 c.in-Rests.ensures.frees)

pub returns-in-Rests-clause-dels : goal.returns-in-Rests-clause-dels
returns-in-Rests-clause-dels g c = let inv = c.loop-tries.invariant in does_on (MayDel (sort_of g.N.Node.layout g.N.Node.ranged)) c.args.pass.now.caller c.loop-tries.pass.caller (seen_of c.args.pass.now) (seen_of c.loop-tries.pass) (seen_of c.try_tidy_once.new.pass) inv.1 inv.5 c.try_tidy_once.ensures.dels

pub returns-clause-dels : goal.returns-clause-dels
returns-clause-dels g c = c.loop-tries.invariant.5
