use Rattle.ks_node.specs.Body.{frame_of}
use Rattle.ks_shape.proofs.located.swap_located.Goals as goal

pub returns-clause-at : goal.returns-clause-at
returns-clause-at g c = λ template start under. record { frame = frame_of (g.N.Node.body c.args.held.body); at = c.swap_here-numbered.ensures.at template start under; range = c.range-range.ensures }
