use Rattle.ks_hash.specs.Laws.Fits.{fit_slices, is_directory}
use Rattle.ks_hash.proofs.node.HNodeUnlinked.forget.Goals as goal

pub invariant_of-self : goal.invariant_of-self
invariant_of-self c =
    let done = c.forget.ensures in
    record { fit = rw (done.kind, done.pairs, done.own) (fit_slices c.args.self.now.fit (is_directory _ c.requires.branch) _ done.size) }
