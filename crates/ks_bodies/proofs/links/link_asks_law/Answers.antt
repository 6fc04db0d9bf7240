use Rattle.ks_bodies.proofs.LinkAsked.{range_suits, root_range, root_level, branch_pairs}
use Rattle.ks_bodies.proofs.links.link_asks_law.Goals as goal

pub returns-clause-suits : goal.returns-clause-suits
returns-clause-suits c g f n b good link stands = range_suits g f n b good link stands (λ p inset. c.link_law.ensures.range g f good.root good.apart good.leads link n p inset)

pub returns-clause-root : goal.returns-clause-root
returns-clause-root c = root_range

pub returns-clause-level : goal.returns-clause-level
returns-clause-level c g f b bound good link stands few = root_level f b bound stands.frame (c.link_law.ensures.bound g f good.root good.apart good.leads link bound few)

pub returns-clause-adopt : goal.returns-clause-adopt
returns-clause-adopt c = branch_pairs
