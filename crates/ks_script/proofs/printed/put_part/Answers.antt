use Rattle.ks_script.proofs.Common.{◌++◌, codes, append_assoc, append-nil, arith, pair_words}
use Rattle.ks_script.proofs.Putting.{owes_all, owes_as, owes_more, owes_next, owes_last}
use Rattle.ks_script.proofs.printed.put_part.Goals as goal

pub loop-at-init : goal.loop-at-init
loop-at-init g c =
    owes_more c.put_two.ensures (owes_as owes_all (simp (append_assoc, append-nil)))

pub loop-at-preserved : goal.loop-at-preserved
loop-at-preserved g c =
    let p = c.pair-pair.result in
    owes_more c.put_two-in-loop-at.ensures (owes_as (owes_next (λ ps. pair_words ps ++ codes "\n") c.args.part.now.pairs c.loop-at.at p p (omega (arith, c.len-at-end.ensures.value)) c.pair-pair.ensures c.loop-at.invariant) (simp (append_assoc, append-nil)))

pub returns : goal.returns
returns g c = owes_last (λ ps. pair_words ps ++ codes "\n") c.args.part.now.pairs c.loop-at.at (omega (arith, c.len-at-end.ensures.value)) c.loop-at.invariant c.put.ensures
