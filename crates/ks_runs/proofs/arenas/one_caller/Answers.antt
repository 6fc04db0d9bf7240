use Rattle.std.proofs.Common.{ap, ◌∙◌, ◌++◌}
use Rattle.std.specs.Prelude.{option_to_list}
use Rattle.ks_history.specs.Own.{hand}
use Rattle.ks_runs.proofs.Crews.{one_of}
use Rattle.ks_runs.proofs.arenas.one_caller.Goals as goal

pub returns : goal.returns
returns g c =
    let start = c.in_ok-arena.ensures in
    let crew = start.2 in
    let last = c.pop.ensures.items ∙ ap (λ o. c.pop.new.self.items ++ option_to_list o) c.in-Some.is in
    let new = crew.each 0 c.in-Some.pass (one_of c.in_ok-arena.passes.items c.pop.new.self.items c.in-Some.pass (crew.long ∙ start.1) last) in
    (new.pass, ap (hand c.in-Some.pass.caller) new.seen)
