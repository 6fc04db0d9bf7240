use Rattle.ks_dictionary.specs.Of.{IsIdlePassOf}
use Rattle.ks_scan_tests.proofs.scans.fill.Given as goal

abbrev pub invariant-loop-tenth : goal.invariant-loop-tenth
invariant-loop-tenth g l = IsIdlePassOf l.map l.pass
