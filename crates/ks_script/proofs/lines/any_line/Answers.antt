use Rattle.ks_script.proofs.Common.{sym, ap, subst, ◌∙◌, ◌++◌, codes, List, ℕ, arith, Call, Scan, Move, HasLine}
use Rattle.ks_script.proofs.Numerals.{wide}
use Rattle.ks_script.proofs.CallLines.{one_line, is_wide}
use Rattle.ks_script.proofs.lines.any_line.Goals.{then-last-via-then-last, then-last-via-else-last+then-most}
use Rattle.ks_script.proofs.lines.any_line.Goals as goal

pub returns-then-to-clause-none : goal.returns-then-to-clause-none
returns-then-to-clause-none c =
    let read = c.in_ok-from in
    let text = c.in-Some-word-5.ensures.some ∙ ap (λ (x : List ℕ). codes "move " ++ x) read.ensures.some.0 in
    λ l rest has free e.
    let is = subst HasLine (sym (one_line (Call (Move read.from read.to)) l read.rest.now rest (wide read.from read.ensures.fits.0, (read.ensures.fits.1, tt)) (is_wide l has) read.ensures.some.1 free (sym text ∙ e)).0) has in
    omega (arith, is, c.if-to.true)

pub returns-then-last-clause-none : goal.returns-then-last-clause-none
returns-then-last-clause-none c =
    let read = c.in_ok-low in
    let text = c.in_ok-word.ensures.some ∙ ap (λ (x : List ℕ). codes "scan " ++ x) read.ensures.some.0 in
    λ l rest has free e.
    let is = subst HasLine (sym (one_line (Scan read.low read.last read.most) l read.rest.now rest (wide read.low read.ensures.fits.0, (read.ensures.fits.1, (read.ensures.fits.2, tt))) (is_wide l has) read.ensures.some.1 free (sym text ∙ e)).0) has in
    elim c.then-last.branch [ then-last-via-then-last w ↦ omega (arith, is, w.if-last) | then-last-via-else-last+then-most w ↦ omega (arith, is, w.if-last, w.if-most) ]
