use Rattle.ks_hints.proofs.Rules.{begins}
use Rattle.ks_hints.proofs.hints.Hints.start.Goals as goal

pub new-requires-clause-rule : goal.new-requires-clause-rule
new-requires-clause-rule c = begins _ c.blank.ensures.list
