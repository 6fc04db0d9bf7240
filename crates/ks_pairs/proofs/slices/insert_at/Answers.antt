use Rattle.std.proofs.Common.{ap, ◌∙◌, ◌+◌}
use Rattle.std.specs.List.{copy_within}
use Rattle.ks_pairs.proofs.Shifts.{inserted}
use Rattle.ks_pairs.proofs.slices.insert_at.Goals as goal

pub returns : goal.returns
returns g c =
    let at = c.args.at in
    let count = c.len-count.result in
    inserted c.args.items.now.items c.push.new.self.items c.copy_within.new.self at count c.args.new c.requires.inside c.len-count.ensures.value c.push.ensures.items
    (c.copy_within.ensures.after ∙ ap (λ l. copy_within l at count (at + 1)) c.as_mut_slice-all.ensures.value)
