use Rattle.std.proofs.Common.{ap, ◌∙◌}
use Rattle.ks_pairs.proofs.Lists.{places_length}
use Rattle.ks_pairs.proofs.pairs.Pairs.len.Goals as goal

pub returns-clause-value : goal.returns-clause-value
returns-clause-value g c = c.len.ensures.value ∙ places_length _ _ c.self.invariant.0 (ap (λ s. s.items) c.self.view_is)
