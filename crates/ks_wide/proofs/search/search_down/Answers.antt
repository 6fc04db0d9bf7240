use Rattle.std.proofs.Common.{arith, ◌-◌}
use Rattle.ks_wide.proofs.Lists.{front_below}
use Rattle.ks_wide.proofs.search.search_down.Goals as goal

pub returns-then-numbers-at-clause-before : goal.returns-then-numbers-at-clause-before
returns-then-numbers-at-clause-before c = front_below c.args.numbers.now (c.loop-at.at - 1) c.args.limit c.requires.ascend (omega (arith, c.requires.inside)) c.if-numbers-at.true
