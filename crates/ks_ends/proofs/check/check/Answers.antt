use Rattle.ks_words.specs.declared.words.Text.TheVariants.{Checked}
use Rattle.ks_ends.specs.Laws.Whys.{stop_why, stop_silent}
use Rattle.ks_ends.proofs.check.check.Goals as goal

pub returns-in-Err-clause-reason : goal.returns-in-Err-clause-reason
returns-in-Err-clause-reason g c = stop_why Checked _ _ _ _ _ c.in-Err.stop c.unread.ensures.unread c.unread.ensures.why c.in-Err.ensures.cause

pub returns-in-Err-clause-why : goal.returns-in-Err-clause-why
returns-in-Err-clause-why g c = stop_silent _ _ _ c.in-Err.stop c.unread.ensures.unread c.unread.ensures.why
