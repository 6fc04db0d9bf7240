use Rattle.std.proofs.Common.{ap, ◌∙◌}
use Rattle.ks_wide.specs.Started.{sole_of}
use Rattle.ks_wide.proofs.Lists.{sole_is}
use Rattle.ks_wide.proofs.children.Children.only.Goals as goal

pub returns : goal.returns
returns g c = c.only_of.ensures ∙ ap sole_of c.as_slice.ensures.value ∙ sole_is _ _ c.self.invariant.0 (ap (λ s. s.items) c.self.view_is)
