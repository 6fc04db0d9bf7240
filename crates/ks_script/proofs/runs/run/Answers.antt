use Rattle.ks_script.proofs.Common.{◌≡◌, ◌+◌, length, sym, ap, arith, Err, nil_from_length}
use Rattle.ks_script.proofs.Cuts.{is_empty_true, is_empty_false}
use Rattle.ks_script.proofs.RunRead.{no_map, no_end, past_end, run_read, same_fault}
use Rattle.ks_script.proofs.runs.run.Goals as goal

pub returns-in_err-callers-clause-refused : goal.returns-in_err-callers-clause-refused
returns-in_err-callers-clause-refused c = λ n e. c.in_err-callers.ensures.refused n (ap Err (same_fault c.from_residual.result c.in_err-callers.field-0.0 n c.from_residual.ensures e))

pub returns-in_default-clause-refused : goal.returns-in_default-clause-refused
returns-in_default-clause-refused c = λ n e.
    let a = c.in_ok-callers in
    let is : c.args.before + (a.count + 1) ≡ n = cc in
    (a.count + 1, sym is, no_map c.args.script.now a.callers.items a.ensures.fit c.args.bytes.now a.rest.now a.count a.ensures.reads c.in_default.ensures.none)

pub returns-in_default-word_line-clause-refused : goal.returns-in_default-word_line-clause-refused
returns-in_default-word_line-clause-refused c = λ n e.
    let a = c.in_ok-callers in
    let p = c.in_ok-pairs in
    let is : c.args.before + (a.count + 1) + length p.pairs.items + 1 ≡ n = cc in (
      a.count + 1 + length p.pairs.items + 1,
      omega (arith, is),
      no_end c.args.script.now a.callers.items a.ensures.fit c.args.bytes.now a.rest.now a.count a.ensures.reads c.in-Some.text.now p.left.now c.in-Some.ensures.some p.pairs.items p.ensures.ascend p.ensures.reads p.ensures.stops c.in_default-word_line.ensures.none,
    )

pub returns-then-not-is_empty-clause-refused : goal.returns-then-not-is_empty-clause-refused
returns-then-not-is_empty-clause-refused c = λ n e.
    let a = c.in_ok-callers in
    let p = c.in_ok-pairs in
    let is : c.args.before + (a.count + 1) + length p.pairs.items + 1 + 1 ≡ n = cc in
    let end = c.in-Some-word_line in
    let some = is_empty_false (length end.end.now) c.is_empty.result c.is_empty.ensures c.if-not-is_empty.true in (
      a.count + 1 + length p.pairs.items + 1 + 1,
      omega (arith, is),
      past_end c.args.script.now a.callers.items a.ensures.fit c.args.bytes.now a.rest.now a.count a.ensures.reads c.in-Some.text.now p.left.now c.in-Some.ensures.some p.pairs.items p.ensures.ascend p.ensures.reads end.end.now end.ensures.some some,
    )

pub returns-clause-run : goal.returns-clause-run
returns-clause-run c =
    let a = c.in_ok-callers in
    let p = c.in_ok-pairs in
    let end = c.in-Some-word_line in
    let none = nil_from_length end.end.now (is_empty_true (length end.end.now) c.is_empty.result c.is_empty.ensures c.if-not-is_empty.false) in
    run_read c.args.script.now a.callers.items a.ensures.fit c.args.bytes.now a.rest.now a.count a.ensures.reads c.in-Some.text.now p.left.now c.in-Some.ensures.some p.pairs.items p.ensures.ascend p.ensures.reads end.end.now end.ensures.some none
