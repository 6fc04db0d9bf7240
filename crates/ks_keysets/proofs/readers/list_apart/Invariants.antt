use Rattle.std.proofs.Common.{take}
use Rattle.ks_keysets.specs.Apart.{AreEdgesApart}
use Rattle.ks_keysets.proofs.readers.list_apart.Given as goal

abbrev pub invariant-loop-at : goal.invariant-loop-at
invariant-loop-at l = AreEdgesApart (take l.at l.edges)
