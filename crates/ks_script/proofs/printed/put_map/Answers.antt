use Rattle.ks_script.proofs.Common.{[], ◌∷◌, ◌++◌, map, codes, get_or, refl, arith, text_of, pair_line}
use Rattle.ks_script.proofs.Putting.{owes_all, owes_more, owes_next, owes_last}
use Rattle.ks_script.proofs.printed.put_map.Goals as goal

pub loop-pair-init : goal.loop-pair-init
loop-pair-init g c = owes_more c.put.ensures owes_all

pub loop-pair-preserved : goal.loop-pair-preserved
loop-pair-preserved g c =
    let i = c.loop-pair.pair-index in
    owes_more c.put_two.ensures (owes_next (λ ps. text_of (map pair_line ps ++ codes "end" ∷ [])) c.args.pairs.now i (0, 0) (get_or c.args.pairs.now i (0, 0)) c.loop-pair-test.true refl c.loop-pair.invariant)

pub returns : goal.returns
returns g c = owes_last (λ ps. text_of (map pair_line ps ++ codes "end" ∷ [])) c.args.pairs.now c.loop-pair.pair-index (omega arith) c.loop-pair.invariant c.put-2.ensures
