use Rattle.std.proofs.Common.{ap, ◌∙◌, ◌++◌}
use Rattle.std.specs.Prelude.{option_to_list}
use Rattle.ks_history.specs.Own.{hand}
use Rattle.ks_arena_tests.proofs.Crews.{two_of, first_is, second_is}
use Rattle.ks_arena_tests.proofs.tests.two_callers.Goals as goal

pub returns-clause-one : goal.returns-clause-one
returns-clause-one g c =
    let start = c.in_ok-arena.ensures in
    let crew = start.2 in
    let last = c.pop.ensures.items ∙ ap (λ o. c.pop.new.self.items ++ option_to_list o) c.in-Some.is in
    let first = c.pop-2.ensures.items ∙ ap (λ o. c.pop-2.new.self.items ++ option_to_list o) c.in-Some-pop.is in
    let both = two_of c.in_ok-arena.passes.items c.pop.new.self.items c.pop-2.new.self.items c.in-Some-pop.one c.in-Some.two (crew.long ∙ start.1) last first in
    let new = crew.each 0 c.in-Some-pop.one (first_is c.in_ok-arena.passes.items c.in-Some-pop.one c.in-Some.two both) in
    ((new.pass, ap (hand c.in-Some-pop.one.caller) new.seen), new.caller)

pub returns-clause-two : goal.returns-clause-two
returns-clause-two g c =
    let start = c.in_ok-arena.ensures in
    let crew = start.2 in
    let last = c.pop.ensures.items ∙ ap (λ o. c.pop.new.self.items ++ option_to_list o) c.in-Some.is in
    let first = c.pop-2.ensures.items ∙ ap (λ o. c.pop-2.new.self.items ++ option_to_list o) c.in-Some-pop.is in
    let both = two_of c.in_ok-arena.passes.items c.pop.new.self.items c.pop-2.new.self.items c.in-Some-pop.one c.in-Some.two (crew.long ∙ start.1) last first in
    let new = crew.each 1 c.in-Some.two (second_is c.in_ok-arena.passes.items c.in-Some-pop.one c.in-Some.two both) in
    ((new.pass, ap (hand c.in-Some.two.caller) new.seen), new.caller)
