use Rattle.std.proofs.Common.{rules}
use Rattle.ks_wide.specs.Laws.Fits.{fit_put, leaf_is, leaf_room}
use Rattle.ks_wide.proofs.node.WNodeNode.put.Goals as goal

pub put-requires : goal.put-requires
put-requires g c =
    let fit = c.args.self.now.fit in
    (search rules, (leaf_is _ c.requires.no_branch, (fit.sound.pairs_ascend, λ none. leaf_room c.args.self.now.low c.args.self.now.parts c.requires.no_branch (c.requires.room none) fit.pairs_fit)))

pub invariant_of-self : goal.invariant_of-self
invariant_of-self g c =
    let done = c.put.ensures in
    record {
      fit =
          rw (done.leaf, done.pairs, done.starts)
          (fit_put c.args.self.now.fit c.args.place c.args.value c.requires.no_branch (rw (← done.pairs) done.fits));
    }
