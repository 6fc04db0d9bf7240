use Rattle.std.proofs.Common.{◌≡◌, ◌+◌, ◌++◌, length}
use Rattle.ks_list.proofs.pairs.append_pairs.Given as goal

abbrev pub invariant-loop : goal.invariant-loop
invariant-loop l = record {
  joined : l.pairs.pairs ++ l.right.pairs ≡ l.fn.pairs.pairs ++ l.fn.right.pairs;
  left : length l.right.pairs + l.counter ≡ length l.fn.right.pairs;
  filled : length l.pairs.pairs ≡ length l.fn.pairs.pairs + l.counter;
  room : l.pairs.room ≡ l.fn.pairs.room;
  room_right : l.right.room ≡ l.fn.right.room;
}
