use Rattle.std.proofs.Common.{refl}
use Rattle.ks_basics_tests.proofs.readers.read_spans.Goals as goal

pub keyset_spans-requires : goal.keyset_spans-requires
keyset_spans-requires c = c.if-edges_apart.ensures.0 refl
