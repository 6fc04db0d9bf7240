use Rattle.ks_history.specs.Map.{told}
use Rattle.ks_shape.proofs.ending.conclude_found.Given as goal

abbrev pub ghosts-found_told : goal.ghosts-found_told
ghosts-found_told g a = record { op = a.op; reply = told a.found }
