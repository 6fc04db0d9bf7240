use Rattle.std.proofs.Common.{All, false}
use Rattle.ks_lines.specs.Lines.{IsServedLine}
use Rattle.ks_lines.specs.Asked.{IsLine}
use Rattle.ks_served_tests.proofs.tests.script.Given as goal

abbrev pub invariant-loop-key : goal.invariant-loop-key
invariant-loop-key l = All (λ line. IsLine line × IsServedLine false false line) l.lines

abbrev pub invariant-loop : goal.invariant-loop
invariant-loop l = All (λ line. IsLine line × IsServedLine false false line) l.lines
