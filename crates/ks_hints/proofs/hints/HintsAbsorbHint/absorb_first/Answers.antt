use Rattle.std.proofs.Common.{sym, subst}
use Rattle.ks_hints.specs.Hints.{LowsAscend}
use Rattle.ks_hints.proofs.Lists.{after_post_ascends}
use Rattle.ks_hints.proofs.hints.HintsAbsorbHint.absorb_first.Goals as goal

pub invariant_of-self : goal.invariant_of-self
invariant_of-self c = record { ascending = subst LowsAscend (sym c.take_in.ensures) (after_post_ascends _ _ c.args.self.now.ascending) }
