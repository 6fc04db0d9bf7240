use Rattle.std.proofs.Common.{ℕ, OnErr, sym, subst}
use Rattle.ks_script.specs.Outside.{GrewByFront}
use Rattle.ks_ends.specs.Message.{status_text}
use Rattle.ks_ends.proofs.message.say.Goals as goal

pub returns-in-7-clause-front : goal.returns-in-7-clause-front
returns-in-7-clause-front g c =
    subst (λ (status : ℕ). OnErr c.send_line.result (GrewByFront (g.E.Sink.taken c.args.err.now) (g.E.Sink.taken c.send_line.new.out) (status_text status c.args.line c.args.why))) (sym c.in-7.is) c.send_line.ensures.front
