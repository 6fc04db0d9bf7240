use Rattle.ks_history.specs.declared.Event.TheVariants.{Shape}
use Rattle.ks_arena.specs.Clauses.{changes_of}
use Rattle.ks_arena.proofs.arena.Arena.shape.Given as goal

abbrev pub ghosts-form : goal.ghosts-form
ghosts-form g a = record { event = Shape a.pass.now.caller (changes_of g.N.Node.body a.first.now a.second a.third) }
