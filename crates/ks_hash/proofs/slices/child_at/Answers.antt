use Rattle.std.proofs.Common.{◌∙◌, ap, sym, Some, get_or, arith}
use Rattle.ks_hash.specs.Laws.Joined.{led_slice}
use Rattle.ks_hash.proofs.slices.child_at.Goals as goal

pub returns : goal.returns
returns c =
    led_slice c.args.slices.now c.args.place 0 c.requires (omega arith)
    ∙ ap (λ i. Some (get_or c.args.slices.now i 0)) (sym c.slice_of.ensures.is)
