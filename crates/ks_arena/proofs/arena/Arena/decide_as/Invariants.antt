use Rattle.ks_history.specs.declared.Event.TheVariants.{Call}
use Rattle.ks_arena.proofs.arena.Arena.decide_as.Given as goal

abbrev pub ghosts-count : goal.ghosts-count
ghosts-count g a = record { event = Call a.pass.now.caller a.held.now.node g.W.Decision.op g.W.Decision.reply }
