use Rattle.ks_script.proofs.Common.{List, ◌∙◌, refl, sym, subst, inl, inr, false≢true}
use Rattle.ks_script.specs.Reasons.{AreDue, Misread}
use Rattle.ks_script.specs.Misfits.{words_behind}
use Rattle.ks_script.specs.declared.reasons.Due.{Due}
use Rattle.ks_script.specs.declared.reasons.Reason.TheVariants.{OtherVersion, UnknownWord, VersionLine}
use Rattle.ks_script.proofs.Refusals.{disordered, misfit, of_kind, read_fits, unread}
use Rattle.ks_script.proofs.reasons.misfit.Goals as goal

pub returns-then-is : goal.returns-then-is
returns-then-is c = misfit c.args.version c.args.callers c.args.calls c.args.parts c.args.line.now c.cut.result.0.now c.cut.result.1.now c.cut.ensures.parts c.cut.ensures.lacks c.cut.ensures.behind VersionLine (inl (c.is.ensures.0 c.if-is.true, refl))

pub returns-in_default : goal.returns-in_default
returns-in_default c = misfit c.args.version c.args.callers c.args.calls c.args.parts c.args.line.now c.cut.result.0.now c.cut.result.1.now c.cut.ensures.parts c.cut.ensures.lacks c.cut.ensures.behind UnknownWord (inr (inl ((λ e. false≢true (sym c.if-is.false ∙ c.is.ensures.1 e)), c.in_default.ensures.none, refl)))

pub returns-then-not-is_in : goal.returns-then-not-is_in
returns-then-not-is_in c = of_kind c.args.version c.args.callers c.args.calls c.args.parts c.args.line.now c.cut.result.0.now c.cut.result.1.now c.cut.ensures.parts c.cut.ensures.lacks c.cut.ensures.behind c.in-Some.kind OtherVersion c.in-Some.ensures.some (inl ((λ has. false≢true (sym c.if-not-is_in.true ∙ c.is_in.ensures.1 has)), refl))

pub returns-in-Some-misplaced : goal.returns-in-Some-misplaced
returns-in-Some-misplaced c = of_kind c.args.version c.args.callers c.args.calls c.args.parts c.args.line.now c.cut.result.0.now c.cut.result.1.now c.cut.ensures.parts c.cut.ensures.lacks c.cut.ensures.behind c.in-Some.kind c.in-Some-misplaced.why c.in-Some.ensures.some (inr (c.is_in.ensures.0 c.if-not-is_in.false, inl c.in-Some-misplaced.ensures.some))

pub returns-in-Some-misread : goal.returns-in-Some-misread
returns-in-Some-misread c =
    let bad = subst (λ (ds : List Due). Misread c.args.version ds (words_behind c.cut.result.1.now) c.in-Some-misread.why) c.due.ensures c.in-Some-misread.ensures.some in
    of_kind c.args.version c.args.callers c.args.calls c.args.parts c.args.line.now c.cut.result.0.now c.cut.result.1.now c.cut.ensures.parts c.cut.ensures.lacks c.cut.ensures.behind c.in-Some.kind c.in-Some-misread.why c.in-Some.ensures.some (inr (c.is_in.ensures.0 c.if-not-is_in.false, inr (c.in_default-misplaced.ensures.none, inl bad)))

pub unreachable-requires : goal.unreachable-requires
unreachable-requires c =
    let due = subst (λ (ds : List Due). AreDue c.args.version ds (words_behind c.cut.result.1.now)) c.due.ensures c.in_default-misread.ensures.none in
    unread c.args.version c.args.callers c.args.calls c.args.parts c.args.line.now c.cut.result.0.now c.cut.result.1.now c.cut.ensures.parts c.cut.ensures.lacks c.cut.ensures.behind c.in-Some.kind c.in-Some.ensures.some (c.is_in.ensures.0 c.if-not-is_in.false) c.in_default-misplaced.ensures.none due c.requires.caller c.in-None.ensures.none

pub returns : goal.returns
returns c =
    let due = subst (λ (ds : List Due). AreDue c.args.version ds (words_behind c.cut.result.1.now)) c.due.ensures c.in_default-misread.ensures.none in
    let has = c.is_in.ensures.0 c.if-not-is_in.false in
    let may = c.in_default-misplaced.ensures.none in
    let read = c.in-Some-any_line in
    disordered c.args.version c.args.callers c.args.calls c.args.parts c.args.line.now c.cut.result.0.now c.cut.result.1.now c.cut.ensures.parts c.cut.ensures.lacks c.cut.ensures.behind c.in-Some.kind c.in-Some.ensures.some has may due c.requires.caller read.line read.field-0-1.now read.ensures.some.0 read.ensures.some.1 read.ensures.some.2 c.requires.line c.disorder.result
    (λ refused. c.disorder.ensures c.args.version c.args.parts (read_fits c.args.version c.args.callers c.args.calls c.args.parts c.args.line.now c.cut.result.0.now c.cut.result.1.now c.cut.ensures.parts c.cut.ensures.lacks c.cut.ensures.behind c.in-Some.kind c.in-Some.ensures.some has may due c.requires.caller read.line read.field-0-1.now read.ensures.some.0 read.ensures.some.1 read.ensures.some.2) refused)
