use Rattle.ks_compact_tests.specs.Only.{IsOnly}
use Rattle.ks_compact_tests.proofs.runs.make_all.Given as goal

abbrev pub invariant-loop-run : goal.invariant-loop-run
invariant-loop-run g l = IsOnly l.dictionary l.pass
