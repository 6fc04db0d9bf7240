use Rattle.std.proofs.Common.{◌-◌}
use Rattle.ks_arena_tests.proofs.claims.+claim_from.Given as goal

abbrev pub decreases-claim_from : goal.decreases-claim_from
decreases-claim_from g l = 200 - l.next
