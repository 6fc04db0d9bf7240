use Rattle.ks_script.proofs.Common.{length, sym, subst, NoneFirst, IsLineWithin, Lines, line_text}
use Rattle.ks_script.specs.Reasons.{Amiss}
use Rattle.ks_script.proofs.Cuts.{is_empty_false}
use Rattle.ks_script.proofs.Refusals.{cut_line}
use Rattle.ks_script.proofs.reasons.why.Goals as goal

pub misfit-requires-clause-line : goal.misfit-requires-clause-line
misfit-requires-clause-line c = λ some few l is.
    let bytes = c.args.bytes.now in
    let line = cut_line bytes c.cut.result.0.now c.cut.result.1.now (is_empty_false (length bytes) c.is_empty.result c.is_empty.ensures c.if-is_empty.false) c.cut.ensures.parts c.cut.ensures.lacks c.cut.ensures.behind in
    subst (NoneFirst (IsLineWithin c.args.version c.args.parts) line_text) line.1 (c.requires.line some few) l is

pub returns : goal.returns
returns c =
    let bytes = c.args.bytes.now in
    let line = cut_line bytes c.cut.result.0.now c.cut.result.1.now (is_empty_false (length bytes) c.is_empty.result c.is_empty.ensures c.if-is_empty.false) c.cut.ensures.parts c.cut.ensures.lacks c.cut.ensures.behind in
    subst (λ (ls : Lines). Amiss c.args.version c.args.callers c.args.calls c.args.parts ls c.misfit.result) (sym line.1) c.misfit.ensures
