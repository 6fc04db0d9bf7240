use Rattle.ks_script.proofs.Common.{false≢true, line_text, IsLineWithin}
use Rattle.ks_script.proofs.Cuts.{if_none_any}
use Rattle.ks_script.proofs.Spelled.{plain_line}
use Rattle.ks_script.proofs.Lined.{end_free, lined_first, none_first}
use Rattle.ks_script.proofs.CallLines.{has_line, no_line, spelled}
use Rattle.ks_script.proofs.lines.first_line.Goals as goal

pub returns-in_err-line-clause-none : goal.returns-in_err-line-clause-none
returns-in_err-line-clause-none c = if_none_any c.from_residual.result (none_first (IsLineWithin c.args.version c.args.parts) line_text c.args.bytes.now (λ l is tail ends. c.in_err-line.ensures.none l tail (has_line c.args.version l is.0) (end_free tail ends)))

pub returns-in_err-rest-clause-none : goal.returns-in_err-rest-clause-none
returns-in_err-rest-clause-none c =
    let read = c.in_ok-line in
    if_none_any c.from_residual-in_err-rest.result (no_line c.args.version c.args.parts read.line c.args.bytes.now read.rest.now read.ensures.some.0 read.ensures.some.1 read.ensures.some.2 (λ is. c.in_err-rest.ensures.none))

pub returns-then-not-may_ask-clause-none : goal.returns-then-not-may_ask-clause-none
returns-then-not-may_ask-clause-none c =
    let read = c.in_ok-line in
    no_line c.args.version c.args.parts read.line c.args.bytes.now read.rest.now read.ensures.some.0 read.ensures.some.1 read.ensures.some.2 (λ is ends. false≢true (c.if-not-may_ask.ensures.1 is))

pub returns-clause-some : goal.returns-clause-some
returns-clause-some c =
    let read = c.in_ok-line in
    let end = c.in_ok-rest in
    let is = c.may_ask.ensures.0 c.if-not-may_ask.false in
    (is, lined_first (line_text read.line) c.args.bytes.now end.rest.now (plain_line c.args.version read.line is.0) (spelled c.args.version read.line is.0).some (record { tail = read.rest.now; parts = read.ensures.some.1; ends = end.ensures.some.0; rest_is = end.ensures.some.1 }))
