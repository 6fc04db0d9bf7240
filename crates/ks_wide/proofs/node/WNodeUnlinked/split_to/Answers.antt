use Rattle.std.proofs.Common.{arith}
use Rattle.ks_wide.specs.Laws.Fits.{fit_left, fit_right}
use Rattle.ks_wide.proofs.node.WNodeUnlinked.split_to.Goals as goal

pub invariant_of-self : goal.invariant_of-self
invariant_of-self g c =
    let done = c.split_to.ensures in
    record { fit = rw (done.kind, done.pairs, done.starts) (fit_left c.args.self.now.fit c.args.cut (omega arith)) }

pub invariant_of-right : goal.invariant_of-right
invariant_of-right g c =
    let done = c.split_to.ensures in
    record { fit = rw (done.right_kind, done.right_pairs, done.right_starts) (fit_right c.args.self.now.fit c.args.cut (omega arith) c.requires.cut.1) }
