use Rattle.ks_history.specs.Laws.Stays.{lawful_in_turn}
use Rattle.ks_history.specs.Laws.Hand.{is_hand, held_in_hand}
use Rattle.ks_history.specs.Laws.Turns.{idle_live, live_not_free}
use Rattle.ks_history.proofs.laws.turn_law.Goals as goal

pub returns-clause-held : goal.returns-clause-held
returns-clause-held c d i h lawful has = (is_hand h d (lawful_in_turn h lawful)).held i has

pub returns-clause-in_hand : goal.returns-clause-in_hand
returns-clause-in_hand c d i h mine = held_in_hand h d i mine

pub returns-clause-once : goal.returns-clause-once
returns-clause-once c d h lawful = (is_hand h d (lawful_in_turn h lawful)).once

pub returns-clause-idle : goal.returns-clause-idle
returns-clause-idle c i h lawful is = idle_live h i (lawful_in_turn h lawful) is

pub returns-clause-live : goal.returns-clause-live
returns-clause-live c i h lawful live = live_not_free h i (lawful_in_turn h lawful) live
