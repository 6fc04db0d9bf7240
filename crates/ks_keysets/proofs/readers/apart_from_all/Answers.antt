use Rattle.std.proofs.Common.{List, refl, subst}
use Rattle.std.specs.Prelude.{All}
use Rattle.std.proofs.lemmas.List.{take_all}
use Rattle.std.proofs.lemmas.List.Elements.{All-more}
use Rattle.ks_keysets.specs.declared.Edge.{Edge}
use Rattle.ks_keysets.specs.Apart.{AreTwoApart}
use Rattle.ks_keysets.proofs.readers.apart_from_all.Goals as goal

pub returns-then-not-two_apart : goal.returns-then-not-two_apart
returns-then-not-two_apart c = (λ t. absurd (cc), λ all. c.if-not-two_apart.ensures.1 (all c.loop-other.other-index _ c.loop-other-test.true))

pub loop-other-preserved : goal.loop-other-preserved
loop-other-preserved c = All-more (AreTwoApart c.args.edge.now) c.args.others.now c.loop-other.other-index _ c.loop-other-test.true c.loop-other.invariant (c.if-not-two_apart.ensures.0 refl)

pub returns : goal.returns
returns c = (λ t. subst (λ (es : List Edge). All (AreTwoApart c.args.edge.now) es) (take_all c.loop-other.other-index c.args.others.now c.loop-other-test.false) c.loop-other.invariant, λ all. refl)
