use Rattle.std.proofs.Common.{◌≡◌, ◌++◌, map, take}
use Rattle.ks_arena.specs.Ended.{entry_of}
use Rattle.ks_arena.proofs.ended.add_entries.Given as goal

abbrev pub invariant-loop-n : goal.invariant-loop-n
invariant-loop-n g l = l.entries.items ≡ l.initial.entries.items ++ map entry_of (take l.n (g.N.Node.body l.body).pairs)
