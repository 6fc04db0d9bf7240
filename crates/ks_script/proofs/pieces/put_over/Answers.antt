use Rattle.ks_script.proofs.Common.{◌≡◌, ◌++◌, sym, take-append-drop}
use Rattle.ks_script.proofs.Putting.{puts_append, owes_more, owes_as}
use Rattle.ks_script.proofs.pieces.put_over.Goals as goal

pub loop-rest-preserved : goal.loop-rest-preserved
loop-rest-preserved g c =
    let rest = c.loop-rest.rest.now in
    let whole : c.split_at.result.0.now ++ c.split_at.result.1.now ≡ rest = simp (c.split_at.ensures.front, c.split_at.ensures.back, take-append-drop) in
    owes_more c.offer.ensures.puts (owes_more (puts_append c.append.ensures.bytes c.append.ensures.failed) (owes_as c.loop-rest.invariant (sym whole)))

pub returns : goal.returns
returns g c = c.loop-rest.invariant.on _ _ (puts_append c.append-2.ensures.bytes c.append-2.ensures.failed)
