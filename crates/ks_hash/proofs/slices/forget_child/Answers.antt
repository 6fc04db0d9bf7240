use Rattle.std.proofs.Common.{ap, ◌∙◌, ◌≡◌, sym, length, position, nat_eq, Some, get_or, ◌-◌}
use Rattle.ks_hash.specs.Slices.{starts_of, run_led}
use Rattle.ks_hash.specs.Laws.Joined.{starts_forgot, starts_unforgot, run_length}
use Rattle.ks_hash.proofs.Steps.{first_slice, refill_same}
use Rattle.ks_hash.proofs.slices.forget_child.Goals as goal

pub overflow_sub-before : goal.overflow_sub-before
overflow_sub-before c =
    first_slice c.args.slices.now.items c.args.id c.in-Some.at c.requires.later (rw (← c.as_slice.ensures.value) (sym c.position_of.ensures ∙ c.in-Some.is))

pub returns-in-Some-clause-starts : goal.returns-in-Some-clause-starts
returns-in-Some-clause-starts c =
    let cs = c.args.slices.now.items in
    let at : position (λ x. nat_eq x c.args.id) cs ≡ Some c.in-Some.at = rw (← c.as_slice.ensures.value) (sym c.position_of.ensures ∙ c.in-Some.is) in
    let led : c.lead_run.new.slices ≡ run_led c.in-Some.at (get_or cs (c.in-Some.at - 1) 0) cs =
    c.lead_run.ensures
    ∙ ap (λ l. run_led c.in-Some.at (get_or c.as_slice-in-Some.result.now (c.in-Some.at - 1) 0) l) c.as_mut_slice.ensures.value
    ∙ ap (λ l. run_led c.in-Some.at (get_or l (c.in-Some.at - 1) 0) cs) c.as_slice-in-Some.ensures.value in
    ap starts_of (refill_same (length cs) cs c.lead_run.new.slices (ap length led ∙ run_length c.in-Some.at (get_or cs (c.in-Some.at - 1) 0) cs) ∙ led)
    ∙ starts_forgot cs c.in-Some.at c.args.id c.requires.size (first_slice cs c.args.id c.in-Some.at c.requires.later at) at

pub returns-in_default-clause-starts : goal.returns-in_default-clause-starts
returns-in_default-clause-starts c =
    sym (starts_unforgot c.args.slices.now.items c.args.id (rw (← c.as_slice.ensures.value) (sym c.position_of.ensures ∙ c.in_default.is)))
