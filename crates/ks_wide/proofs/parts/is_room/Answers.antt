use Rattle.std.proofs.Common.{arith, ◌-◌, ◌+◌}
use Rattle.ks_wide.specs.Laws.Fits.{same_test}
use Rattle.ks_wide.proofs.parts.is_room.Goals as goal

pub returns : goal.returns
returns c = same_test c.args.more (c.args.room - c.args.held) (c.args.held + c.args.more) c.args.room (λ h. omega (arith, h, c.requires)) (λ h. omega (arith, h, c.requires))
