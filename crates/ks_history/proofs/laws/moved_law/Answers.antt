use Rattle.std.proofs.Common.{◌++◌}
use Rattle.ks_history.specs.Laws.Stays.{lawful_in_turn}
use Rattle.ks_history.specs.Laws.Beside.{inset_stays, keyset_stays, moved_due}
use Rattle.ks_history.proofs.laws.moved_law.Goals as goal

pub returns-clause-inset : goal.returns-clause-inset
returns-clause-inset c i p rest h none lawful beside inside = inset_stays i p rest h none (lawful_in_turn (rest ++ h) lawful) beside inside

pub returns-clause-keyset : goal.returns-clause-keyset
returns-clause-keyset c i p rest h none lawful beside inside = keyset_stays i p rest h none (lawful_in_turn (rest ++ h) lawful) beside inside

pub returns-clause-due : goal.returns-clause-due
returns-clause-due c d i p op s0 before after s1 since later until touched lawful beside spare on_way inside gone =
    moved_due d i p op s0 before after s1 since later until touched (lawful_in_turn after lawful) beside spare on_way inside gone
