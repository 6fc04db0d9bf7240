use Rattle.ks_bst.specs.Laws.Fits.{fit_absorb, joins}
use Rattle.ks_bst.proofs.node.TNodeUnlinked.absorb.Goals as goal

pub append-requires-clause-leaf : goal.append-requires-clause-leaf
append-requires-clause-leaf c = (joins c.args.self.now.low c.args.right.now.low c.args.self.now.parts c.args.right.now.parts c.requires.fits).left

pub append-requires-clause-right_leaf : goal.append-requires-clause-right_leaf
append-requires-clause-right_leaf c = (joins c.args.self.now.low c.args.right.now.low c.args.self.now.parts c.args.right.now.parts c.requires.fits).right

pub append-requires-clause-room : goal.append-requires-clause-room
append-requires-clause-room c = (joins c.args.self.now.low c.args.right.now.low c.args.self.now.parts c.args.right.now.parts c.requires.fits).few

pub invariant_of-self : goal.invariant_of-self
invariant_of-self c =
    let done = c.append.ensures in
    record {
      fit =
          rw (done.leaf, done.pairs, done.starts)
          (fit_absorb c.args.self.now.fit c.args.right.now.fit c.requires.meets (rw (← done.pairs) done.fits));
    }
