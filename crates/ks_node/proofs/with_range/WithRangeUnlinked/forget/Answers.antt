use Rattle.ks_node.specs.Laws.Within.{framed_forgot}
use Rattle.ks_node.proofs.with_range.WithRangeUnlinked.forget.Goals as goal

pub invariant_of-self-clause-framed : goal.invariant_of-self-clause-framed
invariant_of-self-clause-framed g c = rw c.forget.ensures (rw c.deref_mut.ensures.value (framed_forgot c.args.self.now.framed c.args.id))
