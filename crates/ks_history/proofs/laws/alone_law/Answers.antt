use Rattle.ks_history.specs.Laws.Alone.{holds_alone_still, never_busy, never_moved, never_far}
use Rattle.ks_history.proofs.laws.alone_law.Goals as goal

pub returns-clause-holds : goal.returns-clause-holds
returns-clause-holds c d h k alone holds = holds_alone_still d h k alone holds

pub returns-clause-busy : goal.returns-clause-busy
returns-clause-busy c d node holder op s0 s1 alone holds due = never_busy d node holder op s0 s1 alone holds due

pub returns-clause-moved : goal.returns-clause-moved
returns-clause-moved c d node op s0 s1 alone due = never_moved d node op s0 s1 alone due

pub returns-clause-far : goal.returns-clause-far
returns-clause-far c n d s0 s1 alone due = never_far n d s0 s1 alone due
