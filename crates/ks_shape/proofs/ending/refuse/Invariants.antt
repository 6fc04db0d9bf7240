use Rattle.ks_history.specs.declared.Reply.TheVariants.{Full}
use Rattle.ks_shape.proofs.ending.refuse.Given as goal

abbrev pub ghosts-full_told : goal.ghosts-full_told
ghosts-full_told g a = record { op = a.op; reply = Full }
