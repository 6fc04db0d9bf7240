use Rattle.std.proofs.Common.{All}
use Rattle.ks_script.proofs.Common.{◌≡◌, ◌++◌}
use Rattle.ks_script.specs.Plain.{IsPrintable}
use Rattle.ks_script.proofs.packed_replies.Replies.from_said.Given as goal

abbrev pub invariant-loop-entry : goal.invariant-loop-entry
invariant-loop-entry l = record {
  packed : l.packed ++ l.entry-iterator.rest.items ≡ l.fn.said.items;
  plain : All IsPrintable l.entry-iterator.rest.items;
}
