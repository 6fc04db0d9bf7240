use Rattle.ks_compact_tests.specs.Only.{IsOnly}
use Rattle.ks_compact_tests.proofs.runs.compact_all.Given as goal

abbrev pub invariant-loop : goal.invariant-loop
invariant-loop g l = IsOnly l.dictionary l.pass
