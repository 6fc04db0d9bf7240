use Rattle.std.proofs.Common.{arith, ap, sym, suc, ◌+◌, ◌≡◌, drop, Some, ◌∙◌}
use Rattle.ks_node.specs.Body.{first_node}
use Rattle.ks_wide.proofs.Lists.{first_node_drop, first_node_past}
use Rattle.ks_wide.proofs.children.Children.first_past.Goals as goal

pub returns-then-at-count : goal.returns-then-at-count
returns-then-at-count g c =
    let at = c.args.at in
    let xs = c.args.self.now.items in
    let same : at + 1 ≡ suc at = omega arith in
    ap (λ n. Some n) c.node.ensures ∙ sym (first_node_drop xs (at + 1) _ (omega arith)) ∙ ap (λ n. first_node (drop n xs)) same

pub returns-else-at-count : goal.returns-else-at-count
returns-else-at-count g c = sym (first_node_past c.args.self.now.items (suc c.args.at) (omega arith))
