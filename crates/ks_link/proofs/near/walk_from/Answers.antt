use Rattle.ks_arena.specs.Clauses.{seen_of}
use Rattle.ks_shape.specs.Does.{MaySearch}
use Rattle.ks_shape.specs.Laws.Does.{does_none}
use Rattle.ks_link.proofs.near.walk_from.Goals as goal

pub returns-in_default-clause-walked : goal.returns-in_default-clause-walked
returns-in_default-clause-walked g c = rw c.in_default.is at c.requires.begun

pub returns-in_default-clause-leaves : goal.returns-in_default-clause-leaves
returns-in_default-clause-leaves g c = does_none MaySearch c.args.pass.now.caller (seen_of c.args.pass.now)

pub returns-in_default-clause-under : goal.returns-in_default-clause-under
returns-in_default-clause-under g c = λ op start under. under

pub returns-in_default-clause-makes : goal.returns-in_default-clause-makes
returns-in_default-clause-makes g c = λ alone i live. live

pub walk-requires-clause-way : goal.walk-requires-clause-way
walk-requires-clause-way g c = rw c.in-Some.is at c.requires.begun

pub walk-requires-clause-lies : goal.walk-requires-clause-lies
walk-requires-clause-lies g c = rw c.in-Some.is at c.requires.lies
