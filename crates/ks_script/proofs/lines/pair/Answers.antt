use Rattle.ks_script.proofs.Common.{sym, subst, ◌∙◌, arith, decimal, EndsLine, pair_line, IsPairFrom}
use Rattle.ks_script.proofs.Cuts.{if_none_any}
use Rattle.ks_script.proofs.Spelled.{plain_pair}
use Rattle.ks_script.proofs.CallLines.{pair_told}
use Rattle.ks_script.proofs.Lined.{end_free, lined_first, none_first}
use Rattle.ks_script.proofs.Rows.{some_spaced}
use Rattle.ks_script.proofs.lines.pair.Goals as goal

pub returns-in_err-pair-clause-none : goal.returns-in_err-pair-clause-none
returns-in_err-pair-clause-none c = if_none_any c.from_residual.result (none_first (IsPairFrom 0) pair_line c.args.bytes.now (λ x is tail ends. c.in_err-pair.ensures.none x.0 x.1 tail is.1 is.2 (end_free tail ends)))

pub returns-in_err-line_end-clause-none : goal.returns-in_err-line_end-clause-none
returns-in_err-line_end-clause-none c =
    let read = c.in_ok-pair in
    if_none_any c.from_residual-in_err-line_end.result
    (none_first (IsPairFrom 0) pair_line c.args.bytes.now
    (λ x is tail ends e. c.in_err-line_end.ensures.none (subst EndsLine (sym (pair_told read.pair x read.rest.now tail read.ensures.fits.0 read.ensures.fits.1 is.1 is.2 read.ensures.some.1 (end_free tail ends) (sym read.ensures.some.0 ∙ e)).1) ends)))

pub returns-clause-some : goal.returns-clause-some
returns-clause-some c =
    let read = c.in_ok-pair in
    let end = c.in_ok-line_end in
    ((omega arith, read.ensures.fits.0, read.ensures.fits.1), lined_first (pair_line read.pair) c.args.bytes.now end.field-0.now (plain_pair read.pair read.ensures.fits.0 read.ensures.fits.1) (some_spaced (decimal read.pair.0) (decimal read.pair.1)) (record { tail = read.rest.now; parts = read.ensures.some.0; ends = end.ensures.some.0; rest_is = end.ensures.some.1 }))
