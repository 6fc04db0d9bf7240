use Rattle.std.proofs.Common.{◌≡◌, ◌∙◌, sym, true}
use Rattle.ks_hash.specs.Parts.{is_directory}
use Rattle.ks_hash.specs.Laws.Fits.{fit_slices}
use Rattle.ks_hash.proofs.node.HNodeNode.adopt.Goals as goal

pub invariant_of-self : goal.invariant_of-self
invariant_of-self c =
    let done = c.adopt.ensures in
    let here : is_directory c.args.self.now.parts ≡ true = sym c.is_directory.ensures ∙ c.if-is_directory.true in
    record { fit = rw (done.kind, done.pairs, done.own) (fit_slices c.args.self.now.fit here _ done.size) }
