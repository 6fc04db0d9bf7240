use Rattle.ks_dictionary.specs.Ended.{history}
use Rattle.ks_serving.proofs.Joined.{served_by}
use Rattle.ks_serving.proofs.serving.tell.Goals as goal

pub returns-clause-served : goal.returns-clause-served
returns-clause-served g c = λ script answered called.
    let run = c.requires.1 in let h = history c.args.ended in
    rw c.trace.ensures (served_by g.N.Places.Placing.place_of script c.args.callers.items c.in_ok-pairs.pairs.items h
    answered called (c.keyset_theorem.ensures.legal h run.lawful run.good) c.in_ok-pairs.ensures)
