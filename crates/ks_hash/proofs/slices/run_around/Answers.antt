use Rattle.std.proofs.Common.{◌+◌, ◌*◌, ◌^◌, ◌-◌, ◌<◌, ◌∙◌, length, nat_eq, ap, subst, sym, arith}
use Rattle.std.specs.Prelude.{get_or}
use Rattle.std.specs.List.{prefix_len}
use Rattle.ks_hash.specs.Slices.{width_of}
use Rattle.ks_hash.specs.Laws.Joined.{size_bounds, slices_fit, width_pos}
use Rattle.ks_hash.proofs.Edges.{run_found, run_lies, run_carries, starts_within}
use Rattle.ks_hash.proofs.slices.run_around.Goals as goal

pub overflow_add-last : goal.overflow_add-last
overflow_add-last c =
    let cs = c.args.slices.now in
    let lies = run_lies cs (get_or cs c.slice_of-at.result 0) c.slice_of-at.result c.run_length.result c.slice_of-at.ensures.within
    (c.run_length.ensures ∙ ap (prefix_len (λ d. nat_eq d (get_or cs c.slice_of-at.result 0))) c.split_at.ensures.back) in
    let few = size_bounds (length cs) c.requires in
    omega (arith, lies, few)

pub overflow_mul-result-2 : goal.overflow_mul-result-2
overflow_mul-result-2 c =
    let cs = c.args.slices.now in
    let lies = run_lies cs (get_or cs c.slice_of-at.result 0) c.slice_of-at.result c.run_length.result c.slice_of-at.ensures.within
    (c.run_length.ensures ∙ ap (prefix_len (λ d. nat_eq d (get_or cs c.slice_of-at.result 0))) c.split_at.ensures.back) in
    let fit = slices_fit (length cs) c.requires (c.slice_of-at.result + c.run_length.result) lies in
    let wide = width_pos (length cs) c.requires in
    let fits : (c.slice_of-at.result + c.run_length.result) * width_of cs < 2 ^ 64 = omega (arith, fit, wide) in
    let last = subst (λ w. (c.slice_of-at.result + c.run_length.result) * w < 2 ^ 64) (sym c.width-width.ensures) fits in
    omega (arith, last)

pub overflow_add-result : goal.overflow_add-result
overflow_add-result c =
    let cs = c.args.slices.now in
    let lies = run_lies cs (get_or cs c.slice_of-at.result 0) c.slice_of-at.result c.run_length.result c.slice_of-at.ensures.within
    (c.run_length.ensures ∙ ap (prefix_len (λ d. nat_eq d (get_or cs c.slice_of-at.result 0))) c.split_at.ensures.back) in
    let fit = slices_fit (length cs) c.requires (c.slice_of-at.result + c.run_length.result) lies in
    let wide = width_pos (length cs) c.requires in
    let fits : (c.slice_of-at.result + c.run_length.result) * width_of cs + (width_of cs - 1) < 2 ^ 64 = omega (arith, fit, wide) in
    let last = subst (λ w. (c.slice_of-at.result + c.run_length.result) * w + (w - 1) < 2 ^ 64) (sym c.width-width.ensures) fits in
    omega (arith, last)

pub returns-clause-is : goal.returns-clause-is
returns-clause-is c =
    let cs = c.args.slices.now in
    run_found cs c.args.place c.requires (omega arith) c.run_begin-begin.result c.slice_of-at.result c.run_length.result c.width-width.result
    c.slice_of-at.ensures.is c.width-width.ensures c.run_begin-begin.ensures
    (c.run_length.ensures ∙ ap (prefix_len (λ d. nat_eq d (get_or cs c.slice_of-at.result 0))) c.split_at.ensures.back)

pub returns-clause-edge : goal.returns-clause-edge
returns-clause-edge c =
    let cs = c.args.slices.now in
    run_carries cs c.args.place c.requires (omega arith) (starts_within cs c.requires) _
    (run_found cs c.args.place c.requires (omega arith) c.run_begin-begin.result c.slice_of-at.result c.run_length.result c.width-width.result
    c.slice_of-at.ensures.is c.width-width.ensures c.run_begin-begin.ensures
    (c.run_length.ensures ∙ ap (prefix_len (λ d. nat_eq d (get_or cs c.slice_of-at.result 0))) c.split_at.ensures.back))
