use Rattle.ks_script.proofs.Common.{◌+◌, List, length, sym, ap, Ok, Result, nil_from_length, Line, TextFault, lines_of, AreScript}
use Rattle.ks_script.proofs.Cuts.{is_empty_true, is_empty_false}
use Rattle.ks_script.proofs.Leading.{bad_no_text, one_bad}
use Rattle.ks_script.proofs.ScriptRead.{reason, whole_script, one_read, stopped}
use Rattle.ks_script.proofs.script.read_script.Goals as goal

pub returns : goal.returns
returns c =
    let f = c.in_ok-front in
    let version = f.front.version in
    let all = f.front.callers.items in
    let bytes = c.args.bytes.now in
    let end = nil_from_length f.front.rest.now (is_empty_true (length f.front.rest.now) c.is_empty.result c.is_empty.ensures c.if-not-is_empty.false) in
    let whole = whole_script version all bytes f.front.rest.now f.front.lines f.ensures.reads f.ensures.is end in
    record {
      answer = (version, whole);
      script = λ script h. ap (λ (s : List (List Line)). let r : Result (List (List Line)) TextFault = Ok s in r) (sym (one_read version all bytes f.front.rest.now f.front.lines f.ensures.reads f.ensures.is end h.0 script h.1));
      refused = λ n h. absurd (bad_no_text AreScript (lines_of bytes) n h (version, all, whole));
      why = tt;
    }

pub returns-then-not-is_empty : goal.returns-then-not-is_empty
returns-then-not-is_empty c =
    let f = c.in_ok-front in
    let version = f.front.version in
    let all = f.front.callers.items in
    let bytes = c.args.bytes.now in
    let bad = stopped f.front.version f.front.callers.items bytes f.front.rest.now f.front.lines f.ensures.reads f.ensures.is f.ensures.stops (is_empty_false (length f.front.rest.now) c.is_empty.result c.is_empty.ensures c.if-not-is_empty.true) in
    record {
      answer = bad;
      script = λ script h. absurd (bad_no_text AreScript (lines_of bytes) (f.front.lines + 1) bad (h.0, script, h.1));
      refused = λ n h. one_bad AreScript (lines_of bytes) (f.front.lines + 1) n bad h;
      why = reason version all bytes f.front.rest.now f.front.lines f.ensures.reads f.ensures.is c.why.result c.why.ensures;
    }
