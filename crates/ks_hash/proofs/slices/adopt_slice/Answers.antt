use Rattle.std.proofs.Common.{arith, ap, ◌∙◌, ◌≡◌, ◌/◌, length}
use Rattle.ks_hash.specs.Slices.{starts_of, width_of, run_led}
use Rattle.ks_hash.specs.Laws.Joined.{run_length}
use Rattle.ks_hash.proofs.Steps.{slices_adopted, refill_same}
use Rattle.ks_hash.proofs.slices.adopt_slice.Goals as goal

pub returns-clause-starts : goal.returns-clause-starts
returns-clause-starts c =
    let cs = c.double_until.new.slices.items in
    let led : c.lead_run.new.slices ≡ run_led (c.args.cut / width_of cs) c.args.id cs =
    c.lead_run.ensures
    ∙ ap (λ l. run_led (c.args.cut / c.width.result) c.args.id l) c.as_mut_slice.ensures.value
    ∙ ap (λ w. run_led (c.args.cut / w) c.args.id cs) (c.width.ensures ∙ ap width_of c.as_slice.ensures.value) in
    ap starts_of (refill_same (length cs) cs c.lead_run.new.slices (ap length led ∙ run_length (c.args.cut / width_of cs) c.args.id cs) ∙ led)
    ∙ slices_adopted c.args.slices.now.items cs c.args.cut c.args.id c.double_until.ensures.starts c.double_until.ensures.size c.double_until.ensures.begins c.requires.above (omega arith) c.requires.free
