use Rattle.ks_keysets.proofs.Cells.{pair_is}
use Rattle.ks_keysets.proofs.few.Few.pair.Goals as goal

pub returns : goal.returns
returns c = pair_is _ _ _ _ _ c.requires c.self.invariant c.self.told c.self.view_is
