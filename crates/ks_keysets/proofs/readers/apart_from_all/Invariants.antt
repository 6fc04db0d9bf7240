use Rattle.std.proofs.Common.{take}
use Rattle.std.specs.Prelude.{All}
use Rattle.ks_keysets.specs.Apart.{AreTwoApart}
use Rattle.ks_keysets.proofs.readers.apart_from_all.Given as goal

abbrev pub invariant-loop-other : goal.invariant-loop-other
invariant-loop-other l = All (AreTwoApart l.edge) (take l.other-index l.others)
