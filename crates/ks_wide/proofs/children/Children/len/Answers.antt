use Rattle.std.proofs.Common.{ap, ◌∙◌}
use Rattle.ks_wide.proofs.Lists.{lows_length}
use Rattle.ks_wide.proofs.children.Children.len.Goals as goal

pub returns-clause-value : goal.returns-clause-value
returns-clause-value g c = c.len.ensures.value ∙ lows_length _ _ c.self.invariant.0 (ap (λ s. s.items) c.self.view_is)
