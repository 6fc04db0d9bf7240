use Rattle.ks_compact_tests.specs.Only.{IsOnly}
use Rattle.ks_compact_tests.proofs.runs.make_each.Given as goal

abbrev pub invariant-loop-count : goal.invariant-loop-count
invariant-loop-count g l = IsOnly l.dictionary l.pass
