use Rattle.ks_keysets.specs.Laws.Found.{found_one, found_here}
use Rattle.ks_keysets.proofs.Opening.{opening_good}
use Rattle.ks_keysets.proofs.laws.found_law.Goals as goal

pub returns-clause-one : goal.returns-clause-one
returns-clause-one c g p v w is is' = found_one g p v w is is'

pub returns-clause-stands : goal.returns-clause-stands
returns-clause-stands c g n p good h = found_here g n p good h

pub returns-clause-opening : goal.returns-clause-opening
returns-clause-opening c = opening_good
