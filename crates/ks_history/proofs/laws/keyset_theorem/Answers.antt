use Rattle.ks_history.proofs.Theorem.{keyset_both}
use Rattle.ks_history.proofs.laws.keyset_theorem.Goals as goal

pub returns-clause-legal : goal.returns-clause-legal
returns-clause-legal c h lawful good = (keyset_both h lawful good).0

pub returns-clause-found : goal.returns-clause-found
returns-clause-found c h lawful good p place = (keyset_both h lawful good).1 p place
