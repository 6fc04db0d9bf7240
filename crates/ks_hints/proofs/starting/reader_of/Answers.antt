use Rattle.ks_hints.proofs.Rules.{admits}
use Rattle.ks_hints.proofs.starting.reader_of.Goals as goal

pub reader-requires : goal.reader-requires
reader-requires c = admits
