use Rattle.std.proofs.Common.{arith}
use Rattle.ks_bst.specs.Laws.Fits.{fit_left, fit_right, fit_fork}
use Rattle.ks_bst.proofs.node.TNodeUnlinked.grow.Goals as goal

pub invariant_of-self : goal.invariant_of-self
invariant_of-self c = record { fit = fit_fork _ _ _ _ (omega arith) (omega arith) }

pub invariant_of-left : goal.invariant_of-left
invariant_of-left c =
    let done = c.split_to.ensures in
    record { fit = rw (done.leaf, done.pairs, done.starts, c.swap.ensures.y_after) (fit_left c.args.self.now.fit c.args.cut) }

pub invariant_of-right : goal.invariant_of-right
invariant_of-right c =
    let done = c.split_to.ensures in
    record { fit = rw (done.right_leaf, done.right_pairs, done.right_starts, c.swap.ensures.y_after) (fit_right c.args.self.now.fit c.args.cut) }
