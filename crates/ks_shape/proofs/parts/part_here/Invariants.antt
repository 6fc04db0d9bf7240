use Rattle.ks_history.specs.declared.Op.TheVariants.{Part}
use Rattle.ks_history.specs.declared.Reply.TheVariants.{Listed}
use Rattle.ks_shape.proofs.parts.part_here.Given as goal

abbrev pub ghosts-conclude_part : goal.ghosts-conclude_part
ghosts-conclude_part g a = record { op = Part a.low a.last; reply = Listed a.pairs.now }
