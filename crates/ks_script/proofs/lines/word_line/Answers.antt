use Rattle.ks_script.proofs.Common.{sym, subst, ◌∙◌, append_cancel_left, EndsLine, Lined}
use Rattle.ks_script.proofs.Cuts.{if_none_any}
use Rattle.ks_script.proofs.Lined.{lined_first, lined_shorter, not_first}
use Rattle.ks_script.proofs.lines.word_line.Goals as goal

pub returns-in_err-tail-clause-none : goal.returns-in_err-tail-clause-none
returns-in_err-tail-clause-none c = if_none_any c.from_residual.result (not_first c.args.line.now c.args.bytes.now (λ tail ends e. c.in_err-tail.ensures.none tail e))

pub returns-in_err-rest-clause-none : goal.returns-in_err-rest-clause-none
returns-in_err-rest-clause-none c =
    let line = c.args.line.now in
    let tail = c.in_ok-tail.tail.now in
    if_none_any c.from_residual-in_err-rest.result
    (not_first line c.args.bytes.now (λ other ends e. c.in_err-rest.ensures.none (subst EndsLine (sym (append_cancel_left line tail other (sym c.in_ok-tail.ensures.some ∙ e))) ends)))

pub returns : goal.returns
returns c =
    let is : Lined c.args.line.now c.args.bytes.now c.in_ok-rest.rest.now = record { tail = c.in_ok-tail.tail.now; parts = c.in_ok-tail.ensures.some; ends = c.in_ok-rest.ensures.some.0; rest_is = c.in_ok-rest.ensures.some.1 } in
    record {
      some = lined_first c.args.line.now c.args.bytes.now c.in_ok-rest.rest.now c.requires.plain c.requires.some is;
      none = tt;
      shorter = lined_shorter c.args.line.now c.args.bytes.now c.in_ok-rest.rest.now c.requires.some is;
    }
