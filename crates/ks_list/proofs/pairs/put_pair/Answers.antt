use Rattle.std.proofs.Common.{◌∙◌, ap, arith}
use Rattle.std.proofs.lemmas.List.{length-set}
use Rattle.std.specs.Prelude.{slice_index_or}
use Rattle.ks_list.specs.Listed.{pairs_of}
use Rattle.ks_list.specs.Laws.Pairs.{value_found, put_found, put_missing}
use Rattle.ks_list.proofs.pairs.put_pair.Goals as goal

pub returns-in-Ok-clause-pairs : goal.returns-in-Ok-clause-pairs
returns-in-Ok-clause-pairs c = ap (λ b. pairs_of b.pairs) c.set_value.ensures ∙ put_found c.args.place c.args.value c.args.pairs.now.pairs c.in-Ok.i c.in-Ok.ensures

pub returns-in-Ok-clause-answer : goal.returns-in-Ok-clause-answer
returns-in-Ok-clause-answer c = value_found c.args.place c.args.pairs.now.pairs c.in-Ok.i c.get-old.result c.in-Ok.ensures c.get-old.ensures

pub returns-in-Ok-clause-within : goal.returns-in-Ok-clause-within
returns-in-Ok-clause-within c =
    let xs = c.args.pairs.now.pairs in
    let same = length-set xs c.in-Ok.i ((slice_index_or xs c.in-Ok.i (0, c.args.value)).0, c.args.value) in
    λ h. rw c.set_value.ensures (omega (arith, same))

pub returns-in-Err-clause-pairs : goal.returns-in-Err-clause-pairs
returns-in-Err-clause-pairs c = ap (λ b. pairs_of b.pairs) c.insert_at.ensures ∙ put_missing c.args.place c.args.value c.args.pairs.now.pairs c.in-Err.i c.in-Err.ensures
