use Rattle.std.proofs.Common.{arith}
use Rattle.ks_lines.specs.Lines.{ops_in, replies_in}
use Rattle.ks_judge.proofs.Keyed.{script_keyed}
use Rattle.ks_judge.proofs.Agrees.{agrees, judged_legal}
use Rattle.ks_judge.proofs.accord.served_is_legal.Goals as goal

pub returns-clause-legal : goal.returns-clause-legal
returns-clause-legal g c script run h few keys keeps served =
    agrees g.P.Placing.place_of g.P.Placing.key_at (λ k is. g.met.P.Placing.key_of_place k (omega arith)) (ops_in script run.callers) (replies_in script run.callers) run.pairs h few
    (script_keyed g.P.Placing.place_of script run.callers served.answered keys keeps) served.calls

pub returns-clause-judged : goal.returns-clause-judged
returns-clause-judged g c script run h j few keys keeps served is =
    judged_legal (ops_in script run.callers) (replies_in script run.callers) run.pairs j
    (agrees g.P.Placing.place_of g.P.Placing.key_at (λ k is'. g.met.P.Placing.key_of_place k (omega arith)) (ops_in script run.callers) (replies_in script run.callers) run.pairs h few
    (script_keyed g.P.Placing.place_of script run.callers served.answered keys keeps) served.calls)
    is
