use Rattle.ks_history.specs.declared.Op.TheVariants.{Move}
use Rattle.ks_pair.proofs.ending.conclude_within.Given as goal

abbrev pub ghosts-decide_within : goal.ghosts-decide_within
ghosts-decide_within g a = record { op = Move a.from a.to; reply = a.reply }
