use Rattle.ks_history.specs.Trace.{calls_by}
use Rattle.ks_arena.specs.Clauses.{seen_of}
use Rattle.ks_arena_tests.specs.Puts.{calls_from}
use Rattle.ks_arena_tests.proofs.Numbers.{newer_ascend}
use Rattle.ks_arena_tests.proofs.puts.work.Goals as goal

pub returns-clause-ascend : goal.returns-clause-ascend
returns-clause-ascend g c = λ few. newer_ascend c.args.pass.caller (seen_of c.put_four-outcomes.new.pass) (calls_by c.args.pass.caller (seen_of c.args.pass)) (calls_from c.args.pass.caller c.put_four-outcomes.result) c.put_four-outcomes.ensures.calls few
