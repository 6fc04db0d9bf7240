use Rattle.ks_script.proofs.Common.{drop}
use Rattle.ks_script.specs.Reasons.{AreDue, Misread}
use Rattle.ks_script.specs.Misfits.{Behind, words_behind}
use Rattle.ks_script.specs.declared.reasons.Reason.{Reason}
use Rattle.ks_script.proofs.reasons.misread.Given as goal

abbrev pub invariant-numbers : goal.invariant-numbers
invariant-numbers l = record {
  behind : Behind 32 l.rest;
  misread : (why : Reason) → Misread l.version (drop l.number-index l.due) (words_behind l.rest) why → Misread l.version l.due (words_behind l.words) why;
  are_due : AreDue l.version (drop l.number-index l.due) (words_behind l.rest) → AreDue l.version l.due (words_behind l.words);
}
