use Rattle.std.proofs.Common.{arith, ap, sym, ◌∙◌, get_or}
use Rattle.std.proofs.lemmas.List.{get_or_default}
use Rattle.ks_node.specs.declared.start.Start.{Start}
use Rattle.ks_node.specs.Laws.Cuts.{found, missing}
use Rattle.ks_wide.proofs.children.Children.seek.Goals as goal

pub returns-then-at-len : goal.returns-then-at-len
returns-then-at-len g c = missing (λ s. s.low) c.args.place c.args.self.now.items c.rank-at.result c.requires c.rank-at.ensures (λ d l e. absurd (omega arith))

pub returns-then-low-place : goal.returns-then-low-place
returns-then-low-place g c =
    let xs = c.args.self.now.items in
    let none : Start = record { low = 0; node = 0 } in
    let at = c.rank-at.result in
    let here : Start = get_or xs at none in
    found (λ s. s.low) c.args.place xs at here c.requires c.rank-at.ensures (omega arith) (get_or_default xs at none here (omega arith)) (sym c.low.ensures ∙ c.if-low-place.true)

pub returns-else-low-place : goal.returns-else-low-place
returns-else-low-place g c =
    let xs = c.args.self.now.items in
    let none : Start = record { low = 0; node = 0 } in
    let at = c.rank-at.result in
    missing (λ s. s.low) c.args.place xs at c.requires c.rank-at.ensures
    (λ d l e. c.if-low-place.false (c.low.ensures ∙ ap (λ (s : Start). s.low) (get_or_default xs at none d l) ∙ e))
