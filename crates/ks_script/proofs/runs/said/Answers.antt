use Rattle.ks_script.proofs.Common.{◌≡◌, ◌+◌, sym, subst, Line, lines_of, BeginsSaid, RefusedBehind}
use Rattle.ks_script.proofs.Saids.{call_unsaid}
use Rattle.ks_script.proofs.runs.said.Goals as goal

pub returns-in-None-clause-refused : goal.returns-in-None-clause-refused
returns-in-None-clause-refused c = λ n e.
    let is : c.args.before + 1 ≡ n = cc in
    subst (λ (line : Line). RefusedBehind c.args.before (BeginsSaid line) (lines_of c.args.bytes.now) n) (sym c.in-Call.is) (1, sym is, call_unsaid c.in-Call.op (lines_of c.args.bytes.now) c.in-None.ensures.none)
