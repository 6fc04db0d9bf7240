use Rattle.std.proofs.Common.{rules, arith, length, ap, ◌∙◌, ◌++◌}
use Rattle.std.proofs.lemmas.List.{length-append}
use Rattle.ks_wide.specs.Started.{started}
use Rattle.ks_wide.proofs.Lists.{lows_length, nodes_length, append-started}
use Rattle.ks_wide.proofs.children.Children.take_in.Goals as goal

pub append-requires : goal.append-requires
append-requires g c = (search rules, omega (arith, c.requires, lows_length _ _ c.self.invariant.0 (ap (λ s. s.items) c.self.view_is), lows_length _ _ c.right.invariant.0 (ap (λ s. s.items) c.right.view_is)))

pub append-requires-2 : goal.append-requires-2
append-requires-2 g c = (search rules, omega (arith, c.requires, nodes_length _ _ c.self.invariant.0 (ap (λ s. s.items) c.self.view_is), nodes_length _ _ c.right.invariant.0 (ap (λ s. s.items) c.right.view_is)))

pub returns-clause-left : goal.returns-clause-left
returns-clause-left g c =
    rw (c.append.ensures, c.append-2.ensures)
    (append-started _ _ _ _ c.self.invariant.0 ∙ ap (λ s. s.items ++ started c.right.inside.lows.items c.right.inside.nodes.items) c.self.view_is ∙ ap (λ s. c.args.self.now.items ++ s.items) c.right.view_is)

pub returns-clause-fits : goal.returns-clause-fits
returns-clause-fits g c = omega (arith, ap length (returns-clause-left g c), length-append c.args.self.now.items c.args.right.now.items, c.requires)
