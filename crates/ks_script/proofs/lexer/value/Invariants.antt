use Rattle.ks_script.proofs.Common.{◌+◌, ◌^◌, ◌<◌, length}
use Rattle.ks_script.proofs.Exact.{Begun}
use Rattle.ks_script.proofs.lexer.value.Given as goal

abbrev pub invariant-loop-count : goal.invariant-loop-count
invariant-loop-count l = record { begun : Begun l.bytes l.number l.count l.rest; fits : l.number < 2 ^ 128 }

abbrev pub decreases-loop-count : goal.decreases-loop-count
decreases-loop-count l = length l.rest + l.count
