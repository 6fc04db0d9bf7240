use Rattle.ks_script.proofs.Common.{◌+◌, ap, arith, Err, Get, Call}
use Rattle.ks_script.proofs.RunRead.{no_said, said_read, same_fault}
use Rattle.ks_script.proofs.runs.replies.Goals as goal

pub returns-in_err-said-clause-refused : goal.returns-in_err-said-clause-refused
returns-in_err-said-clause-refused c = λ n e.
    let inv = c.replies.invariant in
    let u = c.in_err-said.ensures.refused n (ap Err (same_fault c.from_residual-in_err-said.result c.in_err-said.field-0.0 n c.from_residual-in_err-said.ensures e)) in (
      c.replies.count + u.0,
      omega (arith, u.1),
      no_said c.args.lines.now c.requires.lines c.replies.at c.get.result (Call (Get 0)) (omega (arith, c.len-at-end.ensures)) c.get.ensures c.replies.replies inv.fit c.args.bytes.now c.replies.rest.now c.replies.count inv.reads u.0 u.2,
    )

pub replies-preserved : goal.replies-preserved
replies-preserved c =
    let inv = c.replies.invariant in
    let x = c.in_ok-said in
    let read = said_read c.args.lines.now c.requires.lines c.replies.at c.get.result (Call (Get 0)) (omega (arith, c.len-at-end.ensures)) c.get.ensures c.replies.replies inv.fit c.args.bytes.now c.replies.rest.now c.replies.count inv.reads c.push.new.self x.said x.more.now x.read c.in_ok-push.ensures.ok x.ensures.said x.ensures.reads in
    record { fit = read.0; reads = read.1; shorter = omega (arith, inv.shorter, x.ensures.shorter) }
