use Rattle.std.proofs.Common.{drop}
use Rattle.ks_history.specs.Served.{IsListing}
use Rattle.ks_judge.proofs.Listing.{Lists}
use Rattle.ks_judge.proofs.judging.is_listing.Given as goal

abbrev pub invariant-loop-pair : goal.invariant-loop-pair
invariant-loop-pair g l = record {
  down : IsListing (g.M.Store.has l.fn.map) l.pairs → Lists l.least (g.M.Store.has l.rest) (drop l.pair-index l.pairs);
  up : Lists l.least (g.M.Store.has l.rest) (drop l.pair-index l.pairs) → IsListing (g.M.Store.has l.fn.map) l.pairs;
}
