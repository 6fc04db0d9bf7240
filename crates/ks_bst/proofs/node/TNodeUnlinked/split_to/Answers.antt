use Rattle.ks_bst.specs.Laws.Fits.{fit_left, fit_right, full_is}
use Rattle.ks_bst.proofs.node.TNodeUnlinked.split_to.Goals as goal

pub split_to-requires-clause-leaf : goal.split_to-requires-clause-leaf
split_to-requires-clause-leaf c = (full_is c.args.self.now.low c.args.self.now.parts c.requires.full).0

pub invariant_of-self : goal.invariant_of-self
invariant_of-self c =
    let done = c.split_to.ensures in
    record { fit = rw (done.leaf, done.pairs, done.starts) (fit_left c.args.self.now.fit c.args.cut) }

pub invariant_of-right : goal.invariant_of-right
invariant_of-right c =
    let done = c.split_to.ensures in
    record { fit = rw (done.right_leaf, done.right_pairs, done.right_starts) (fit_right c.args.self.now.fit c.args.cut) }
