use Rattle.ks_keysets.proofs.Cells.{len_is}
use Rattle.ks_keysets.proofs.few.Few.len.Goals as goal

pub returns-clause-value : goal.returns-clause-value
returns-clause-value c = len_is _ _ _ _ c.self.invariant c.self.told c.self.view_is
