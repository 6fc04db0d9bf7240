use Rattle.std.proofs.Common.{◌≡◌}
use Rattle.ks_hash.specs.Hash.{fifth}
use Rattle.ks_hash.specs.Parts.{pairs_of}
use Rattle.ks_hash.specs.Laws.Fits.{fit_cuts, fit_cut_by, fifth_is, cut_is}
use Rattle.ks_hash.proofs.node.HNodeNode.cut.Goals as goal

pub returns-in-Some-clause-is : goal.returns-in-Some-clause-is
returns-in-Some-clause-is c =
    let read : c.pair-fifth.result.place ≡ fifth (pairs_of c.args.self.now.parts) = fifth_is c.args.self.now.fit c.requires c.pair-fifth.result c.pair-fifth.ensures in
    rw (c.cut_by.ensures, c.own.ensures, read, c.in-Some.is) (cut_is c.args.self.now.fit c.requires c.in-Some.span)

pub returns-in-Some-clause-good : goal.returns-in-Some-clause-good
returns-in-Some-clause-good c whole suits is =
    let read : c.pair-fifth.result.place ≡ fifth (pairs_of c.args.self.now.parts) = fifth_is c.args.self.now.fit c.requires c.pair-fifth.result c.pair-fifth.ensures in
    rw (c.cut_by.ensures, c.own.ensures, read)
    (fit_cut_by c.args.self.now.fit c.requires c.in-Some.span whole suits (rw c.in-Some.is at is))

pub returns-in-None-clause-good : goal.returns-in-None-clause-good
returns-in-None-clause-good c whole suits is =
    let read : c.pair-fifth.result.place ≡ fifth (pairs_of c.args.self.now.parts) = fifth_is c.args.self.now.fit c.requires c.pair-fifth.result c.pair-fifth.ensures in
    rw read (rw c.in-None.is at (fit_cuts c.args.self.now.fit c.requires c.args.span whole suits is))
