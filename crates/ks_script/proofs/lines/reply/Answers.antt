use Rattle.ks_script.proofs.Common.{ℕ, sym, subst, decimal, false≢true, Reply, reply_word, reply_line, NoneFirst, IsReplyOf}
use Rattle.ks_lines.specs.Lines.{IsReplyTo}
use Rattle.ks_script.proofs.Cuts.{if_none_any}
use Rattle.ks_script.proofs.Spelled.{plain_reply}
use Rattle.ks_script.proofs.Lined.{lined_first, none_first}
use Rattle.ks_script.proofs.Rows.{some_spaced, one_reply}
use Rattle.ks_script.proofs.lines.reply.Goals as goal

pub returns-in_err-reply-clause-none : goal.returns-in_err-reply-clause-none
returns-in_err-reply-clause-none c = if_none_any c.from_residual.result (none_first (IsReplyOf c.args.op) reply_line c.args.bytes.now (λ x is. c.in_err-reply.ensures.none x is.0))

pub returns-then-not-is_reply_to-clause-none : goal.returns-then-not-is_reply_to-clause-none
returns-then-not-is_reply_to-clause-none c =
    let x = c.in_ok-reply in
    let good = x.ensures.some.0 in
    subst (NoneFirst (IsReplyOf c.args.op) reply_line) (sym (lined_first (reply_line x.reply) c.args.bytes.now x.rest.now (plain_reply x.reply good) (some_spaced (decimal x.reply.0) (reply_word x.reply.1)) x.ensures.some.1))
    (λ y is same. false≢true (c.if-not-is_reply_to.ensures.1 (subst (λ (z : ℕ × Reply). IsReplyTo c.args.op z.1) (sym (one_reply x.reply y good is.0 same)) is.1)))

pub returns-clause-some : goal.returns-clause-some
returns-clause-some c =
    let x = c.in_ok-reply in
    let good = x.ensures.some.0 in
    ((good, c.is_reply_to.ensures.0 c.if-not-is_reply_to.false), lined_first (reply_line x.reply) c.args.bytes.now x.rest.now (plain_reply x.reply good) (some_spaced (decimal x.reply.0) (reply_word x.reply.1)) x.ensures.some.1)
