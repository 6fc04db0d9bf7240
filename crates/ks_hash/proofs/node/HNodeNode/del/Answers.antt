use Rattle.ks_hash.specs.Laws.Fits.{fit_del}
use Rattle.ks_hash.proofs.node.HNodeNode.del.Goals as goal

pub invariant_of-self : goal.invariant_of-self
invariant_of-self c =
    let done = c.del.ensures in
    record {
      fit =
          rw (done.kind, done.pairs, done.own, done.slices)
          (fit_del c.args.self.now.fit c.args.place c.requires (rw (← done.pairs) done.fits));
    }
