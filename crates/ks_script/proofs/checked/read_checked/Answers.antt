use Rattle.ks_script.proofs.Common.{ℕ, ◌+◌, List, subst, refl, ap, inl, inr, Ok, Err, Line, Refused, lines_of, RefusedBehind, SpellsRun, AreRun}
use Rattle.ks_script.specs.declared.reasons.Reason.TheVariants.{NotTheRun}
use Rattle.ks_script.proofs.ScriptRead.{reason}
use Rattle.ks_script.proofs.CheckedRead.{no_run, bad_run, in_run, whole_checked, due}
use Rattle.ks_script.proofs.checked.read_checked.Goals as goal

pub returns-in_default : goal.returns-in_default
returns-in_default c =
    let f = c.in_ok-front in
    due c.args.bytes.now (Err (Refused (f.front.lines + 1) c.why.result)) (no_run f.front.version f.front.callers.items f.ensures.is c.args.bytes.now f.front.rest.now f.front.lines f.ensures.reads f.ensures.stops c.in_default.ensures.none)
    (inl (reason f.front.version f.front.callers.items c.args.bytes.now f.front.rest.now f.front.lines f.ensures.reads f.ensures.is c.why.result c.why.ensures))

pub returns-in-Err-Refused : goal.returns-in-Err-Refused
returns-in-Err-Refused c =
    let f = c.in_ok-front in
    let text = c.in-Some.text.now in
    let n = c.in-Err-Refused.line in
    let lines : ℕ = f.front.lines + 1 in
    let bad = subst (λ (s : List (List Line)). RefusedBehind lines (AreRun s) (lines_of text) n) c.deref.ensures.value (c.in-Err-Refused.ensures.refused n (ap Err c.in-Err-Refused.field-0-is)) in
    due c.args.bytes.now (Err (Refused n NotTheRun)) (bad_run f.front.version f.front.callers.items f.ensures.is c.args.bytes.now f.front.rest.now f.front.lines f.ensures.reads text c.in-Some.ensures.some n bad)
    (inr (in_run f.front.version f.front.callers.items f.ensures.is c.args.bytes.now f.front.rest.now f.front.lines f.ensures.reads text c.in-Some.ensures.some n bad, refl))

pub returns-in-Ok : goal.returns-in-Ok
returns-in-Ok c =
    let f = c.in_ok-front in
    let run = c.in-Ok.printed in
    let text = c.in-Some.text.now in
    due c.args.bytes.now (Ok (f.front.callers.items, run)) (whole_checked f.front.version f.front.callers.items f.ensures.is c.args.bytes.now f.front.rest.now f.front.lines f.ensures.reads text c.in-Some.ensures.some run (subst (λ (s : List (List Line)). SpellsRun s run (lines_of text)) c.deref.ensures.value c.in-Ok.ensures.run)) tt
