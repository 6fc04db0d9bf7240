use Rattle.std.proofs.Common.{refl, subst}
use Rattle.std.proofs.lemmas.List.{take_all}
use Rattle.ks_keysets.specs.Apart.{AreEdgesApart}
use Rattle.ks_keysets.proofs.Aparts.{more_apart, earlier_apart}
use Rattle.ks_keysets.proofs.readers.list_apart.Goals as goal

pub returns-then-not-apart_from_all : goal.returns-then-not-apart_from_all
returns-then-not-apart_from_all c = (λ t. absurd (cc), λ all. c.if-not-apart_from_all.ensures.1 (earlier_apart c.args.edges.now c.loop-at.at _ c.loop-at-test.true all))

pub loop-at-preserved : goal.loop-at-preserved
loop-at-preserved c = more_apart c.args.edges.now c.loop-at.at _ c.loop-at-test.true c.loop-at.invariant (c.if-not-apart_from_all.ensures.0 refl)

pub returns : goal.returns
returns c = (λ t. subst AreEdgesApart (take_all c.loop-at.at c.args.edges.now c.loop-at-test.false) c.loop-at.invariant, λ all. refl)
