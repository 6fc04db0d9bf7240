use Rattle.ks_arena.specs.Laws.Tells.{claimed_begins}
use Rattle.ks_arena_tests.proofs.Wider.{wider}
use Rattle.ks_arena_tests.proofs.claim_two.Goals as goal

pub returns-in_default-claim-clause-due : goal.returns-in_default-claim-clause-due
returns-in_default-claim-clause-due g c = λ j lt. wider (claimed_begins _ _ _ _ _ _ c.in-Some.ensures.claimed.0) ((rw c.in_default-claim.is at c.claim-2.ensures.claimed).1 j lt) c.give.ensures.gave
