use Rattle.ks_hash.specs.Laws.Fits.{fit_absorb}
use Rattle.ks_hash.proofs.node.HNodeUnlinked.absorb.Goals as goal

pub invariant_of-self : goal.invariant_of-self
invariant_of-self c =
    let done = c.append.ensures in
    record {
      fit =
          rw (done.pairs, done.own)
          (fit_absorb c.args.self.now.fit c.args.right.now.fit c.requires.fits c.requires.meets (rw (← done.pairs) done.fits) _ _ done.kind);
    }
