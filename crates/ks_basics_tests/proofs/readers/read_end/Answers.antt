use Rattle.std.proofs.Common.{refl}
use Rattle.ks_basics_tests.proofs.readers.read_end.Goals as goal

pub walk_end-requires : goal.walk_end-requires
walk_end-requires c = c.if-edges_apart.ensures.0 refl
