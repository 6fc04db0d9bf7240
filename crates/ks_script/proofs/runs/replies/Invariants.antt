use Rattle.ks_script.proofs.Common.{◌≤◌, ◌+◌, length, take, said_lines, IsSaidOf, Reads, flat_map, AllBoth}
use Rattle.ks_script.proofs.runs.replies.Given as goal

abbrev pub invariant-replies : goal.invariant-replies
invariant-replies l = record {
  fit : AllBoth IsSaidOf (take l.at l.lines) l.replies;
  reads : Reads (flat_map said_lines l.replies) l.bytes l.rest l.count;
  shorter : length l.rest + l.count ≤ length l.bytes;
}
