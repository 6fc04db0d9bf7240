use Rattle.std.specs.Prelude.{◌≤◌, vec_capacity}
use Rattle.ks_arena.specs.Of.{SameCaller}
use Rattle.ks_dictionary.specs.Of.{IsIdlePassOf}
use Rattle.ks_scan_times.proofs.workers.scan_each.Given as goal

abbrev pub invariant-loop : goal.invariant-loop
invariant-loop g l = IsIdlePassOf l.map l.pass × SameCaller l.fn.pass l.pass × (512 ≤ vec_capacity l.parts)
