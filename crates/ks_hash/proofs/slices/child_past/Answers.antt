use Rattle.std.proofs.Common.{◌+◌, ◌/◌, ◌∙◌, nat_eq, drop, add-one, ap, sym, arith}
use Rattle.std.specs.Prelude.{not, find, get_or}
use Rattle.ks_hash.specs.Slices.{width_of}
use Rattle.ks_hash.specs.Laws.Joined.{run_past}
use Rattle.ks_hash.proofs.slices.child_past.Goals as goal

pub returns : goal.returns
returns c =
    let cs = c.args.slices.now in
    let at = c.args.place / width_of cs in
    c.other_child.ensures
    ∙ ap (find (λ d. not (nat_eq d (get_or cs c.slice_of-at.result 0)))) c.split_at.ensures.back
    ∙ ap (λ i. find (λ d. not (nat_eq d (get_or cs i 0))) (drop (i + 1) cs)) c.slice_of-at.ensures.is
    ∙ ap (λ n. find (λ d. not (nat_eq d (get_or cs at 0))) (drop n cs)) (add-one at)
    ∙ sym (run_past cs c.args.place c.requires (omega arith))
