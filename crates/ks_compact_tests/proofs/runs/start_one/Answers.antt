use Rattle.std.proofs.Common.{ap, ◌∙◌, ◌++◌}
use Rattle.std.specs.Prelude.{option_to_list}
use Rattle.ks_history.specs.Own.{hand}
use Rattle.ks_arena.specs.Sound.{sort_of}
use Rattle.ks_arena.specs.Clauses.{IsNewPass}
use Rattle.ks_compact_tests.proofs.Crews.{one_of}
use Rattle.ks_compact_tests.proofs.runs.start_one.Given.{Over}
use Rattle.ks_compact_tests.proofs.runs.start_one.Goals as goal
use Rattle.ks_compact_tests.proofs.runs.start_one.Goals.{In-Some}

-- the pass is that of caller 0
new : (g : Over) (c : In-Some g) → IsNewPass (sort_of g.N.Node.layout g.N.Node.ranged) g.T.Rule.Discipline.begins g.T.Rule.Discipline.step c.in_ok-dictionary.dictionary.arena.table.shared.table_id c.in_ok-dictionary.dictionary.arena.callers 0 c.in-Some.pass
new g c =
    let start = c.in_ok-dictionary.ensures in
    let last = c.pop.ensures.items ∙ ap (λ o. c.pop.new.self.items ++ option_to_list o) c.in-Some.is in
    start.passes.each 0 c.in-Some.pass (one_of c.in_ok-dictionary.passes.items c.pop.new.self.items c.in-Some.pass (start.passes.long ∙ start.callers) last)

pub returns : goal.returns
returns g c = let p = new g (goal.at.returns g c).In-Some in ((p.pass, ap (hand c.in-Some.pass.caller) p.seen), c.in_ok-dictionary.ensures.callers, p.caller)
