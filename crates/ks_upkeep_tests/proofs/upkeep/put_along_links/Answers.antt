use Rattle.std.proofs.Common.{refl}
use Rattle.ks_upkeep_tests.proofs.upkeep.put_along_links.Goals as goal

pub returns-clause-led : goal.returns-clause-led
returns-clause-led g c = c.put.ensures.led tt refl refl
