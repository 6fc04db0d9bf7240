use Rattle.std.proofs.Common.{refl}
use Rattle.ks_bodies.proofs.Neighbours.{fits_child, alone_child, fits_own, fits_beside, fits_last, root_right}
use Rattle.ks_bodies.proofs.rights.alone_law.Goals as goal

pub returns-clause-own : goal.returns-clause-own
returns-clause-own c = fits_own

pub returns-clause-beside : goal.returns-clause-beside
returns-clause-beside c = fits_beside

pub returns-clause-last : goal.returns-clause-last
returns-clause-last c = fits_last

pub returns-clause-root : goal.returns-clause-root
returns-clause-root c layout g f b tree stands none m r s right is is' fit = root_right g f 0 b stands m tree refl none right

pub returns-clause-child : goal.returns-clause-child
returns-clause-child c = fits_child

pub returns-clause-child_alone : goal.returns-clause-child_alone
returns-clause-child_alone c = alone_child
