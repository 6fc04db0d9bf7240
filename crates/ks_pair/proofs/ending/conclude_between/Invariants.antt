use Rattle.ks_history.specs.declared.Op.TheVariants.{Move}
use Rattle.ks_pair.proofs.ending.conclude_between.Given as goal

abbrev pub ghosts-decide_between : goal.ghosts-decide_between
ghosts-decide_between g a = record { op = Move a.from a.to; reply = a.reply }
