use Rattle.std.proofs.Common.{◌≡◌, ◌+◌, length}
use Rattle.ks_serving.proofs.aids.lent.Given as goal

abbrev pub invariant-loop-hints : goal.invariant-loop-hints
invariant-loop-hints l = length l.lent.items + length l.hints-iterator.rest.items ≡ length l.fn.readers.items
