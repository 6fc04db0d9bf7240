use Rattle.std.proofs.Common.{◌≡◌, ◌≤◌, take}
use Rattle.std.specs.Prelude.{count_by}
use Rattle.ks_generator.specs.Summary.{is_some_of, reply_in}
use Rattle.ks_generator.specs.declared.summing.Kind.TheVariants.{Found, Missing, NoRoom}
use Rattle.ks_generator.proofs.summing.replies_in.Given as goal

abbrev pub invariant-loop-at : goal.invariant-loop-at
invariant-loop-at l = record {
  found : l.found ≡ count_by (λ s. is_some_of Found (reply_in s)) (take l.at l.said);
  none : l.none ≡ count_by (λ s. is_some_of Missing (reply_in s)) (take l.at l.said);
  full : l.full ≡ count_by (λ s. is_some_of NoRoom (reply_in s)) (take l.at l.said);
  few_found : l.found ≤ l.at;
  few_none : l.none ≤ l.at;
  few_full : l.full ≤ l.at;
}
