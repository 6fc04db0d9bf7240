use Rattle.ks_script.proofs.Common.{◌+◌, ◌≤◌, length, take, callers_from, IsSaidOf, Reads, AllBoth}
use Rattle.ks_script.proofs.runs.answers.Given as goal

abbrev pub invariant-callers : goal.invariant-callers
invariant-callers l = record {
  fit : AllBoth (AllBoth IsSaidOf) (take l.number l.script) l.callers.items;
  reads : Reads (callers_from 0 l.callers.items) l.bytes l.rest l.count;
  shorter : length l.rest + l.count ≤ length l.bytes;
}
