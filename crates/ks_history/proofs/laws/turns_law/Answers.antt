use Rattle.ks_history.specs.Laws.Quiet.{no_turns, alone_looks, alone_turns, turns_same}
use Rattle.ks_history.proofs.laws.turns_law.Goals as goal

pub returns-clause-none : goal.returns-clause-none
returns-clause-none c = no_turns

pub returns-clause-looks : goal.returns-clause-looks
returns-clause-looks c = alone_looks

pub returns-clause-turns : goal.returns-clause-turns
returns-clause-turns c = alone_turns

pub returns-clause-same : goal.returns-clause-same
returns-clause-same c = turns_same
