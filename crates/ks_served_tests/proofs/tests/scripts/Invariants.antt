use Rattle.std.proofs.Common.{◌≡◌, length, false}
use Rattle.ks_lines.specs.Asked.{AreServedLines}
use Rattle.ks_served_tests.proofs.tests.scripts.Given as goal

abbrev pub invariant-loop-first : goal.invariant-loop-first
invariant-loop-first l = (length l.each.items ≡ l.first) × AreServedLines false false l.each.items
