use Rattle.std.proofs.Common.{arith, length, ap, sym, ◌∙◌, get_or}
use Rattle.ks_wide.proofs.Lists.{nodes_length, node_is}
use Rattle.ks_wide.proofs.children.Children.node.Goals as goal

pub item-requires : goal.item-requires
item-requires g c = omega (arith, c.requires, nodes_length _ _ c.self.invariant.0 (ap (λ s. s.items) c.self.view_is), ap length c.as_slice.ensures.value)

pub returns : goal.returns
returns g c =
    c.item.ensures
    ∙ ap (λ l. get_or l c.args.at c.item.result) c.as_slice.ensures.value
    ∙ sym (node_is _ _ c.self.invariant.0 (ap (λ s. s.items) c.self.view_is) c.args.at (record { low = 0; node = 0 }) c.item.result c.requires)
