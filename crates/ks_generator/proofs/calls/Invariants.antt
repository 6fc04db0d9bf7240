use Rattle.std.proofs.Common.{◌≡◌, ◌++◌, ◌-◌}
use Rattle.ks_generator.specs.Made.{calls_made, after_calls}
use Rattle.ks_generator.proofs.calls.Given as goal

abbrev pub invariant-loop-done : goal.invariant-loop-done
invariant-loop-done l = record {
  calls : l.lines ++ calls_made l.callers l.caller (l.count - l.done) l.state ≡ calls_made l.callers l.caller l.count l.fn.state;
  state : after_calls (l.count - l.done) l.state ≡ after_calls l.count l.fn.state;
}
