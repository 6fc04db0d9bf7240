use Rattle.ks_hints.specs.Hints.{list_after}
use Rattle.ks_hints.proofs.Lists.{after_post_some, list_ascends, list_few}
use Rattle.ks_hints.proofs.Nearest.{list_last, list_newest}
use Rattle.ks_hints.proofs.laws.hint_law.Goals as goal

pub returns-clause-ascends : goal.returns-clause-ascends
returns-clause-ascends c = list_ascends

pub returns-clause-few : goal.returns-clause-few
returns-clause-few c = list_few

pub returns-clause-some : goal.returns-clause-some
returns-clause-some c = λ post older. after_post_some post (list_after older)

pub returns-clause-last : goal.returns-clause-last
returns-clause-last c = list_last

pub returns-clause-newest : goal.returns-clause-newest
returns-clause-newest c = list_newest
