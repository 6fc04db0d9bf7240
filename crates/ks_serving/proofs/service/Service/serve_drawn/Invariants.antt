use Rattle.ks_dictionary.specs.Of.{site_of}
use Rattle.ks_serving.proofs.Running.{IsRunning}
use Rattle.ks_serving.proofs.service.Service.serve_drawn.Given as goal

abbrev pub invariant-loop-at : goal.invariant-loop-at
invariant-loop-at g l = IsRunning (site_of l.self.dictionary.now) g.N.Places.Placing.place_of l.fn.job l.at l.job
