use Rattle.ks_wide.specs.Laws.Fits.{fit_blank}
use Rattle.ks_wide.proofs.node.WNodeNode.blank.Goals as goal

pub invariant_of-result : goal.invariant_of-result
invariant_of-result g c =
    let done = c.blank.ensures in
    record { fit = rw (done.leaf, done.pairs, done.starts) (fit_blank g.P.Widths.suit) }
