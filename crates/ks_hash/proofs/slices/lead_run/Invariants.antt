use Rattle.std.proofs.Common.{◌≡◌, ◌++◌, take, drop}
use Rattle.ks_hash.specs.Slices.{led_over, run_led}
use Rattle.ks_hash.proofs.slices.lead_run.Given as goal

abbrev pub invariant-loop-i : goal.invariant-loop-i
invariant-loop-i l = take l.i l.slices ++ led_over l.child l.to (drop l.i l.slices) ≡ run_led l.at l.to l.fn.slices
