use Rattle.std.proofs.Common.{◌≡◌, ◌<◌, ◌^◌, map, take, drop, All}
use Rattle.ks_dictionary.proofs.Keyed.{keyed}
use Rattle.ks_dictionary.proofs.closed.Closed.pairs.Given as goal

abbrev pub invariant-loop-entry : goal.invariant-loop-entry
invariant-loop-entry g l = record {
  made : take l.entry-index l.entry-items ≡ map (keyed g.N.Places.Placing.key_at) (take l.entry-index l.initial.entry-items);
  left : drop l.entry-index l.entry-items ≡ drop l.entry-index l.initial.entry-items;
  small : All (λ z. z.0 < 2 ^ 64) (take l.entry-index l.entry-items);
}
