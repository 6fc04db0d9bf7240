use Rattle.std.proofs.Common.{◌∙◌, ap}
use Rattle.ks_list.specs.Listed.{pairs_of}
use Rattle.ks_list.specs.Laws.Pairs.{value_found, del_found}
use Rattle.ks_list.proofs.pairs.delete_pair.Goals as goal

pub returns-in-Ok-clause-pairs : goal.returns-in-Ok-clause-pairs
returns-in-Ok-clause-pairs c = ap (λ b. pairs_of b.pairs) c.remove_at-value.ensures.rest ∙ del_found c.args.place 0 c.args.pairs.now.pairs c.in-Ok.i c.in-Ok.ensures

pub returns-in-Ok-clause-answer : goal.returns-in-Ok-clause-answer
returns-in-Ok-clause-answer c = value_found c.args.place c.args.pairs.now.pairs c.in-Ok.i c.remove_at-value.result c.in-Ok.ensures c.remove_at-value.ensures.value
