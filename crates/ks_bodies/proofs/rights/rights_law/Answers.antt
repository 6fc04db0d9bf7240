use Rattle.std.proofs.Common.{refl}
use Rattle.ks_bodies.proofs.Neighbours.{child_right, which_right, leads_right, own_right, beside_right, chain_right, root_right}
use Rattle.ks_bodies.proofs.rights.rights_law.Goals as goal

pub returns-clause-own : goal.returns-clause-own
returns-clause-own c g f n m b stands = own_right g f n b stands m

pub returns-clause-beside : goal.returns-clause-beside
returns-clause-beside c g f parent n place u b tree above stands branch leads none m = beside_right g f n b stands parent place u tree above leads none m branch

pub returns-clause-below_chain : goal.returns-clause-below_chain
returns-clause-below_chain c g f parent n place u b tree above stands leaf leads none m = chain_right g f n b stands parent place u tree above leads none m leaf

pub returns-clause-root : goal.returns-clause-root
returns-clause-root c g f b tree stands none m = root_right g f 0 b stands m tree refl none

pub returns-clause-child : goal.returns-clause-child
returns-clause-child c = child_right

pub returns-clause-which : goal.returns-clause-which
returns-clause-which c = which_right

pub returns-clause-leads : goal.returns-clause-leads
returns-clause-leads c = leads_right
