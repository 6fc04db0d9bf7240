use Rattle.std.proofs.Common.{◌≡◌, ◌++◌, ◌-◌}
use Rattle.ks_generator.specs.Made.{callers_made, made}
use Rattle.ks_generator.proofs.made_script.Given as goal

abbrev pub invariant-loop-caller : goal.invariant-loop-caller
invariant-loop-caller l = l.scripts.items ++ callers_made l.callers l.calls l.caller (l.callers - l.caller) l.state ≡ made l.callers l.calls l.fn.first
