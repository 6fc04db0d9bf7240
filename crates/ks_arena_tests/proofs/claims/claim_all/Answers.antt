use Rattle.std.proofs.Common.{ap, ◌∙◌, ◌++◌}
use Rattle.std.specs.Prelude.{option_to_list}
use Rattle.ks_arena_tests.proofs.Crews.{one_of}
use Rattle.ks_arena_tests.proofs.claims.claim_all.Goals as goal

pub claim_from-in_order-requires-clause-pass : goal.claim_from-in_order-requires-clause-pass
claim_from-in_order-requires-clause-pass g c κs within =
    let start = c.in_ok-arena.ensures in
    let crew = start.2 in
    let last = c.pop.ensures.items ∙ ap (λ o. c.pop.new.self.items ++ option_to_list o) c.in-Some.is in
    (crew.each 0 c.in-Some.pass (one_of c.in_ok-arena.passes.items c.pop.new.self.items c.in-Some.pass (crew.long ∙ start.1) last)).pass

pub claim_from-in_order-requires-clause-alone : goal.claim_from-in_order-requires-clause-alone
claim_from-in_order-requires-clause-alone g c κs within =
    let start = c.in_ok-arena.ensures in
    let crew = start.2 in
    let last = c.pop.ensures.items ∙ ap (λ o. c.pop.new.self.items ++ option_to_list o) c.in-Some.is in
    (start.1, (crew.each 0 c.in-Some.pass (one_of c.in_ok-arena.passes.items c.pop.new.self.items c.in-Some.pass (crew.long ∙ start.1) last)).caller)
