use Rattle.ks_script.proofs.Common.{◌≡◌, ◌+◌, sym, ap, arith, Err}
use Rattle.ks_script.proofs.RunRead.{no_caller, no_reply, caller_read, same_fault}
use Rattle.ks_script.proofs.runs.answers.Goals as goal

pub returns-in_default-clause-refused : goal.returns-in_default-clause-refused
returns-in_default-clause-refused c = λ n e.
    let inv = c.callers.invariant in
    let is : c.args.before + (c.callers.count + 1) ≡ n = cc in (
      c.callers.count + 1,
      sym is,
      no_caller c.args.script.now c.requires.script c.callers.number c.index-script-number.result c.callers-test.true c.index-script-number.is c.callers.callers.items inv.fit c.args.bytes.now c.callers.rest.now c.callers.count inv.reads c.in_default.ensures.none,
    )

pub returns-in_err-said-clause-refused : goal.returns-in_err-said-clause-refused
returns-in_err-said-clause-refused c = λ n e.
    let inv = c.callers.invariant in
    let stop = c.in_err-said.ensures.refused n (ap Err (same_fault c.from_residual.result c.in_err-said.field-0.0 n c.from_residual.ensures e)) in (
      c.callers.count + 1 + stop.0,
      omega (arith, stop.1),
      no_reply c.args.script.now c.requires.script c.callers.number c.index-script-number.result c.callers-test.true c.index-script-number.is c.callers.callers.items inv.fit c.args.bytes.now c.callers.rest.now c.callers.count inv.reads c.in-Some.more.now stop.0 c.in-Some.ensures.some stop.2,
    )

pub callers-preserved : goal.callers-preserved
callers-preserved c =
    let inv = c.callers.invariant in
    let x = c.in_ok-said in
    let read = caller_read c.args.script.now c.requires.script c.callers.number c.index-script-number.result c.callers-test.true c.index-script-number.is c.callers.callers.items inv.fit c.args.bytes.now c.callers.rest.now c.callers.count inv.reads c.push.new.self.items x.said c.in-Some.more.now x.left.now x.read c.in_ok-push.ensures.items x.ensures.fit c.in-Some.ensures.some x.ensures.reads in
    record { fit = read.0; reads = read.1; shorter = omega (arith, inv.shorter, c.in-Some.ensures.shorter, x.ensures.shorter) }
