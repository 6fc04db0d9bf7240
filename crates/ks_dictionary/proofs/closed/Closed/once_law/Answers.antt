use Rattle.ks_history.specs.Trace.{calls_of}
use Rattle.ks_dictionary.specs.Ended.{history}
use Rattle.ks_dictionary.proofs.closed.Closed.once_law.Goals as goal

pub returns : goal.returns
returns g c = c.once_law.ensures (calls_of (history c.args.self.now)) c.history_law.ensures
