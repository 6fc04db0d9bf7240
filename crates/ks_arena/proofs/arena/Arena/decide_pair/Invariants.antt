use Rattle.ks_history.specs.declared.Event.TheVariants.{Twin}
use Rattle.ks_arena.specs.AtTwo.{second_of}
use Rattle.ks_arena.proofs.arena.Arena.decide_pair.Given as goal

abbrev pub ghosts-count_pair : goal.ghosts-count_pair
ghosts-count_pair g a = record { event = Twin a.pass.now.caller a.first.now.node (second_of a.first.now a.second) g.W.Decision.op g.W.Decision.reply }
