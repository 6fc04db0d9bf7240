use Rattle.std.proofs.Common.{inl}
use Rattle.ks_shape.proofs.path.enter.Goals as goal

pub returns-clause-path : goal.returns-clause-path
returns-clause-path g c = let e = c.take_root-node.ensures in record { hands = e.way.alone; live = e.way.live; matches = e.way.matches; inside = e.way.inside; under = inl e.root }
