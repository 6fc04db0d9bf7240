use Rattle.ks_history.specs.declared.Op.TheVariants.{Del}
use Rattle.ks_history.specs.Map.{told}
use Rattle.ks_tidy.proofs.deletes.delete.Given as goal

abbrev pub ghosts-del_told : goal.ghosts-del_told
ghosts-del_told g a = record { op = Del a.place; reply = told a.found }
