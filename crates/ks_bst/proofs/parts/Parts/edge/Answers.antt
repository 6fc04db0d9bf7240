use Rattle.ks_bst.specs.Laws.Fits.{fork_rises}
use Rattle.ks_bst.proofs.parts.Parts.edge.Goals as goal

pub overflow_sub-cut : goal.overflow_sub-cut
overflow_sub-cut c = fork_rises c.in-Fork.left c.in-Fork.cut c.in-Fork.right (rw c.in-Fork.is at c.requires.ascend)
