use Rattle.std.proofs.Common.{ap, length, ◌∙◌, ◌+◌}
use Rattle.std.specs.List.{copy_within}
use Rattle.ks_pairs.proofs.Shifts.{removed}
use Rattle.ks_pairs.proofs.slices.remove_at.Goals as goal

pub returns : goal.returns
returns g c =
    let at = c.args.at in
    let count = c.len-count.result in
    rw c.pop.ensures.rest
    (removed c.args.items.now.items c.copy_within.new.self at count c.requires c.len-count.ensures.value
    (c.copy_within.ensures.len ∙ ap length c.as_mut_slice.ensures.value)
    (c.copy_within.ensures.after ∙ ap (λ l. copy_within l (at + 1) count at) c.as_mut_slice.ensures.value))
