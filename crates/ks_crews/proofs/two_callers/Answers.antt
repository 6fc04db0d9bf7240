use Rattle.std.proofs.Common.{ap, ◌∙◌, ◌++◌}
use Rattle.std.specs.Prelude.{option_to_list}
use Rattle.ks_history.specs.Own.{hand}
use Rattle.ks_crews.proofs.Two.{popped}
use Rattle.ks_crews.proofs.two_callers.Goals as goal

pub returns-clause-one : goal.returns-clause-one
returns-clause-one g c =
    let start = c.in_ok-dictionary.ensures in
    let last = c.pop.ensures.items ∙ ap (λ o. c.pop.new.self.items ++ option_to_list o) c.in-Some.is in
    let first = c.pop-2.ensures.items ∙ ap (λ o. c.pop-2.new.self.items ++ option_to_list o) c.in-Some-pop.is in
    let new = start.passes.each 0 c.in-Some-pop.one (popped c.in_ok-dictionary.passes.items c.pop.new.self.items c.pop-2.new.self.items c.in-Some-pop.one c.in-Some.two (start.passes.long ∙ start.callers) last first).0 in
    (new.pass, ap (hand c.in-Some-pop.one.caller) new.seen)

pub returns-clause-two : goal.returns-clause-two
returns-clause-two g c =
    let start = c.in_ok-dictionary.ensures in
    let last = c.pop.ensures.items ∙ ap (λ o. c.pop.new.self.items ++ option_to_list o) c.in-Some.is in
    let first = c.pop-2.ensures.items ∙ ap (λ o. c.pop-2.new.self.items ++ option_to_list o) c.in-Some-pop.is in
    let new = start.passes.each 1 c.in-Some.two (popped c.in_ok-dictionary.passes.items c.pop.new.self.items c.pop-2.new.self.items c.in-Some-pop.one c.in-Some.two (start.passes.long ∙ start.callers) last first).1 in
    (new.pass, ap (hand c.in-Some.two.caller) new.seen)
