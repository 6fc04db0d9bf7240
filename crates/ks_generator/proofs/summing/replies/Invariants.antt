use Rattle.std.proofs.Common.{◌≡◌, ◌≤◌, ◌*◌, ◌^◌, take}
use Rattle.ks_generator.specs.Summary.{replies_of}
use Rattle.ks_generator.specs.declared.summing.Kind.TheVariants.{Found, Missing, NoRoom}
use Rattle.ks_generator.proofs.summing.replies.Given as goal

abbrev pub invariant-loop-said : goal.invariant-loop-said
invariant-loop-said l = record {
  found : l.found ≡ replies_of Found (take l.said-index l.callers);
  none : l.none ≡ replies_of Missing (take l.said-index l.callers);
  full : l.full ≡ replies_of NoRoom (take l.said-index l.callers);
  few_found : l.found ≤ l.said-index * 2 ^ 64;
  few_none : l.none ≤ l.said-index * 2 ^ 64;
  few_full : l.full ≤ l.said-index * 2 ^ 64;
}
