use Rattle.std.proofs.Common.{arith, ◌-◌, ◌*◌}
use Rattle.ks_wide.specs.Laws.Fits.{same_test}
use Rattle.ks_wide.proofs.parts.is_half.Goals as goal

pub returns : goal.returns
returns c = same_test c.args.held (c.args.room - c.args.held) (2 * c.args.held) c.args.room (λ h. omega (arith, h, c.requires)) (λ h. omega (arith, h, c.requires))
