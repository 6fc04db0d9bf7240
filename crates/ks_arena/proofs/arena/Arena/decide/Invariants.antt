use Rattle.ks_arena.proofs.arena.Arena.decide.Given as goal

abbrev pub ghosts-decide_told : goal.ghosts-decide_told
ghosts-decide_told g a = record { op = a.op; reply = a.reply }
