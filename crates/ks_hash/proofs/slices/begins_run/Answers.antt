use Rattle.std.specs.Prelude.{not, get_or}
use Rattle.std.proofs.Common.{◌∙◌, ◌/◌, ◌%◌, ap, sym, arith}
use Rattle.ks_hash.specs.Slices.{repeats, before_at}
use Rattle.ks_hash.specs.Laws.Joined.{begins_run, begins_no_slice}
use Rattle.ks_hash.proofs.slices.begins_run.Goals as goal

pub returns-then-place-width-ne0 : goal.returns-then-place-width-ne0
returns-then-place-width-ne0 c =
    sym (begins_no_slice c.args.slices.now c.args.place c.requires (λ e. c.if-place-width-ne0.true (ap (λ w. c.args.place % w) c.width-width.ensures ∙ e)))

pub returns : goal.returns
returns c =
    let cs = c.args.slices.now in
    let p = c.args.place in
    ap not (c.is_same.ensures ∙ ap (λ o. repeats o (get_or cs (p / c.width-width.result) 0)) c.child_before.ensures)
    ∙ ap (λ w. not (repeats (before_at (p / w) cs) (get_or cs (p / w) 0))) c.width-width.ensures
    ∙ sym (begins_run cs p c.requires (omega arith) (ap (λ w. p % w) (sym c.width-width.ensures) ∙ c.if-place-width-ne0.false))
