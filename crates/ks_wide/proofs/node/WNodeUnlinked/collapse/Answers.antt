use Rattle.ks_wide.specs.Laws.Fits.{fit_emptied}
use Rattle.ks_wide.proofs.node.WNodeUnlinked.collapse.Goals as goal

pub invariant_of-child : goal.invariant_of-child
invariant_of-child g c =
    let done = c.blank-child.ensures in
    record { fit = rw (done.leaf, done.pairs, done.starts) (fit_emptied c.args.self.now.fit) }
