use Rattle.std.proofs.Common.{ap, ◌∙◌, nat_eq}
use Rattle.std.specs.Prelude.{position}
use Rattle.ks_wide.proofs.Lists.{without_at, without_none}
use Rattle.ks_wide.proofs.children.Children.forget.Goals as goal

pub returns-in-Some : goal.returns-in-Some
returns-in-Some g c =
    rw (c.remove-self-inside.ensures.items, c.remove.ensures.items)
    (without_at _ _ c.self.invariant.0 (ap (λ s. s.items) c.self.view_is) c.args.node (c.in-Some.ensures.at ∙ ap (position (λ n. nat_eq n c.args.node)) c.as_slice.ensures.value))

pub returns-in-None : goal.returns-in-None
returns-in-None g c = without_none _ _ c.self.invariant.0 (ap (λ s. s.items) c.self.view_is) c.args.node (c.in-None.ensures.at ∙ ap (position (λ n. nat_eq n c.args.node)) c.as_slice.ensures.value)
