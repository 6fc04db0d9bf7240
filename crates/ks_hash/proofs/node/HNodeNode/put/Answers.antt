use Rattle.ks_hash.specs.Laws.Fits.{fit_put}
use Rattle.ks_hash.proofs.node.HNodeNode.put.Goals as goal

pub invariant_of-self : goal.invariant_of-self
invariant_of-self c =
    let done = c.put.ensures in
    record {
      fit =
          rw (done.kind, done.pairs, done.own, done.slices)
          (fit_put c.args.self.now.fit c.args.place c.args.value c.requires.no_branch c.requires.below_own (rw (← done.pairs) done.fits));
    }
