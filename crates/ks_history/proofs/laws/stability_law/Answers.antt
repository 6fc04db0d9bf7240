use Rattle.ks_history.specs.Laws.Stays.{lawful_in_turn}
use Rattle.ks_history.specs.Laws.Begins.{by_others_keeps, by_others_turn, by_others_hand, by_others_mine}
use Rattle.ks_history.proofs.laws.stability_law.Goals as goal

pub returns-clause-held : goal.returns-clause-held
returns-clause-held c d i g h lawful so mine = by_others_keeps d i g h so (lawful_in_turn h lawful) mine

pub returns-clause-back : goal.returns-clause-back
returns-clause-back c d i g h so mine = by_others_turn d i g h so mine

pub returns-clause-hand : goal.returns-clause-hand
returns-clause-hand c d g h so = by_others_hand d g h so

pub returns-clause-mine : goal.returns-clause-mine
returns-clause-mine c d g h so = by_others_mine d g h so
