use Rattle.std.proofs.Common.{ap, sym}
use Rattle.std.specs.Prelude.{is_some}
use Rattle.ks_wide.proofs.children.Children.begins_at.Goals as goal

pub returns-in-Ok : goal.returns-in-Ok
returns-in-Ok g c = sym (ap is_some (c.in-Ok.ensures.element (record { low = 0; node = 0 })))
