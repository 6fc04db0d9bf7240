use Rattle.ks_list.specs.Laws.Pairs.{value_found}
use Rattle.ks_list.proofs.pairs.value_of.Goals as goal

pub returns-in-Ok : goal.returns-in-Ok
returns-in-Ok c = value_found c.args.place c.args.pairs.now.pairs c.in-Ok.i c.get-value.result c.in-Ok.ensures c.get-value.ensures
